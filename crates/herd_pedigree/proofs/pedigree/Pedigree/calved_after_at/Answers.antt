-- `Pedigree::calved_after_at`: what `calf` requires, its loop, and its result.
use Rattle.std.proofs.Common.{rules, sym, ap, ◌∙◌, subst, arith, ◌≡◌, ℕ, inl, inr, List, [], ◌∷◌, Option, Some, true, false, slice_get, Contains}
use Rattle.std.proofs.lemmas.Option.{get_or_from_slice_get}
use Rattle.herd_frozen.specs.declared.rules.animal.Animal.{Animal}
use Rattle.herd_frozen.specs.rules.Book.{Book, has_calved_after}
use Rattle.herd_pedigree.specs.Pedigree.{IsFound}
use Rattle.herd_frozen.proofs.lemmas.rules.BookFacts.{value_at}
use Rattle.herd_frozen.proofs.lemmas.Contained.{contains_cases, contains_here, contains_later, contains_none}
use Rattle.herd_pedigree.proofs.lemmas.store.ProgenyFacts.{parent-within}
use Rattle.herd_pedigree.proofs.lemmas.store.CalvedFacts.{counts, calf_found, calf_missing}
use Rattle.herd_pedigree.proofs.pedigree.Pedigree.calved_after_at.Goals as goal
use Rattle.herd_pedigree.proofs.pedigree.Pedigree.calved_after_at.Goals.{else-not-calf-via-then-not-calf+else-lt, else-not-calf-via-else-not-calf}

pub loop-calf-init : goal.loop-calf-init
loop-calf-init g c =
    let e : c.into_iter-calf-iterator.result ≡ c.calves-calf-items.result = c.into_iter-calf-iterator.ensures.into_iter_gives in (
      λ x is. (c.calves-calf-items.ensures x).0 (subst (λ l. Contains l x) e is),
      λ x of. inl (subst (λ l. Contains l x) (sym e) ((c.calves-calf-items.ensures x).1 of)),
    )

pub animal_at-calf-requires : goal.animal_at-calf-requires
animal_at-calf-requires g c =
    let dams : List (Option ℕ) = c.self.inside.dams.parents in
    let left : c.loop-calf.calf-iterator ≡ c.in-Some.calf ∷ c.next.new.self = c.in-Some.ensures.steps in
    let is : Contains c.loop-calf.calf-iterator c.in-Some.calf = subst (λ l. Contains l c.in-Some.calf) (sym left) (contains_here c.in-Some.calf c.next.new.self) in
    let w = parent-within dams c.in-Some.calf c.args.found.now.place (c.loop-calf.invariant.0 c.in-Some.calf is) in
    let n = c.self.invariant.kept.dams_are.long in
    omega (arith, w, n)

pub returns-then-lt : goal.returns-then-lt
returns-then-lt g c =
    let book : Book = c.self.inside.records.book in
    let found = c.args.found.now in
    let kept = c.self.invariant.kept in
    let left : c.loop-calf.calf-iterator ≡ c.in-Some.calf ∷ c.next.new.self = c.in-Some.ensures.steps in
    let is : Contains c.loop-calf.calf-iterator c.in-Some.calf = subst (λ l. Contains l c.in-Some.calf) (sym left) (contains_here c.in-Some.calf c.next.new.self) in
    let its : IsFound book found = subst (λ p. IsFound p.book found) (sym c.self.view_is) c.requires in
    let t : counts c.args.day c.animal_at-calf.result ≡ true = search rules in
    subst (λ p. true ≡ has_calved_after p.book found.number c.args.day) c.self.view_is
    (sym (calf_found book c.self.inside.dams.parents kept.dams_are found.number c.args.day kept.lawful.once found.place its.at c.in-Some.calf c.animal_at-calf.result (c.loop-calf.invariant.0 c.in-Some.calf is) c.animal_at-calf.ensures t))

pub loop-calf-preserved : goal.loop-calf-preserved
loop-calf-preserved g c =
    let book : Book = c.self.inside.records.book in
    let calf : ℕ = c.in-Some.calf in
    let rest : List ℕ = c.next.new.self in
    let animal : Animal = c.animal_at-calf.result in
    let left : c.loop-calf.calf-iterator ≡ calf ∷ rest = c.in-Some.ensures.steps in
    let fails : counts c.args.day animal ≡ false =
    elim c.else-not-calf.branch [ else-not-calf-via-then-not-calf+else-lt w ↦ search rules | else-not-calf-via-else-not-calf w ↦ search rules ] in (
      λ x is. c.loop-calf.invariant.0 x (subst (λ l. Contains l x) (sym left) (contains_later calf x rest is)),
      λ x of. elim (c.loop-calf.invariant.1 x of) [
        | inl is ↦ elim (contains_cases calf x rest (subst (λ l. Contains l x) left is)) [
          | inl same ↦ inr (λ entry e.
              let there : slice_get book calf ≡ Some entry = ap (λ v. slice_get book v) same ∙ e in
              let read : entry.1 ≡ animal = ap (λ (p : List ℕ × Animal). p.1) (sym (get_or_from_slice_get book calf entry entry there)) ∙ (value_at book calf animal entry c.animal_at-calf.ensures).1 in
              ap (λ a. counts c.args.day a) read ∙ fails)
          | inr later ↦ inl later
        ]
        | inr counted ↦ inr counted
      ],
    )

pub returns : goal.returns
returns g c =
    let book : Book = c.self.inside.records.book in
    let found = c.args.found.now in
    let kept = c.self.invariant.kept in
    let its : IsFound book found = subst (λ p. IsFound p.book found) (sym c.self.view_is) c.requires in
    let none : c.loop-calf.calf-iterator ≡ [] = c.in-None.ensures.steps.0 in
    subst (λ p. false ≡ has_calved_after p.book found.number c.args.day) c.self.view_is
    (sym (calf_missing book c.self.inside.dams.parents kept.dams_are found.number c.args.day kept.lawful.once found.place its.at
    (λ calf of. elim (c.loop-calf.invariant.1 calf of) [
      | inl is ↦ absurd (contains_none calf (subst (λ l. Contains l calf) none is))
      | inr counted ↦ counted
    ])))
