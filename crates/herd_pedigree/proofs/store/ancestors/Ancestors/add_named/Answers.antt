-- `Ancestors::add_named`: its loop.
use Rattle.std.proofs.Common.{◌≡◌, ◌+◌, ◌∙◌, ap, sym, subst, ℕ, Option, Some, IfNone, IfSome, false, slice_get}
use Rattle.std.specs.Map.{keys_of}
use Rattle.herd_frozen.specs.rules.Book.{is_there}
use Rattle.herd_pedigree.specs.store.Ancestors.{Found}
use Rattle.herd_pedigree.proofs.lemmas.store.AncestorFacts.{HasFirst, begins-itself, first-more, its-place, no-place}
use Rattle.herd_pedigree.proofs.store.ancestors.Ancestors.add_named.Goals.{in-Some+in_ok-add, in_default}
use Rattle.herd_pedigree.proofs.store.ancestors.Ancestors.add_named.Goals as goal

pub loop-number-preserved : goal.loop-number-preserved
loop-number-preserved g c =
    let book = g.S.Searched.book c.args.records.now in
    let numbers = c.args.numbers.now in
    let i : ℕ = c.loop-number.number-index in
    let old : Found = c.loop-number.self in
    elim c.match-place_of.branch [
      | in-Some+in_ok-add w ↦
          (let new : Found = w.add.new.self in
          let here : slice_get (keys_of book) w.in-Some.place ≡ Some c.number-item.result =
          subst (λ (o : Option ℕ). IfSome o (λ place. slice_get (keys_of book) place ≡ Some c.number-item.result)) w.in-Some.is c.place_of.ensures.place in
          let first : HasFirst book numbers (i + 1) new.places =
          first-more book numbers old.places new.places i c.number-item.result c.loop-number.invariant.named c.loop-number-test.true c.number-item.is w.in_ok-add.ensures.kept
          (its-place book c.requires.once c.number-item.result w.in-Some.place new.places here w.in_ok-add.ensures.added) in
          record {
            animals = ap (λ (f : Found). f.animals) w.self-is ∙ w.in_ok-add.ensures.animals ∙ c.loop-number.invariant.animals;
            named = subst (λ (f : Found). HasFirst book numbers (i + 1) f.places) (sym w.self-is) first;
          })
      | in_default w ↦
          (let absent : is_there book c.number-item.result ≡ false = subst (λ (o : Option ℕ). IfNone o (is_there book c.number-item.result ≡ false)) w.in_default.is c.place_of.ensures.absent in
          let first : HasFirst book numbers (i + 1) old.places =
          first-more book numbers old.places old.places i c.number-item.result c.loop-number.invariant.named c.loop-number-test.true c.number-item.is (begins-itself old.places)
          (λ place at. absurd (no-place book c.requires.once c.number-item.result absent place at)) in
          record {
            animals = ap (λ (f : Found). f.animals) w.self-is ∙ c.loop-number.invariant.animals;
            named = subst (λ (f : Found). HasFirst book numbers (i + 1) f.places) (sym w.self-is) first;
          })
    ]
