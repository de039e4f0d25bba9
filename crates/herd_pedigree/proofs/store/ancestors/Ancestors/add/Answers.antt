-- `Ancestors::add`: what is kept once an animal is added, and that it was found before.
use Rattle.std.proofs.Common.{◌≡◌, ◌∙◌, arith, sym, ap, subst, ℕ, ◌<◌, List, Bool, true, false, Contains, Some, length, set, slice_get}
use Rattle.std.proofs.lemmas.Option.{slice_get-get_or}
use Rattle.herd_pedigree.specs.store.Ancestors.{AreMarked, Found}
use Rattle.herd_pedigree.proofs.lemmas.store.AncestorFacts.{marked-push}
use Rattle.herd_pedigree.proofs.store.ancestors.Ancestors.add.Goals as goal

pub invariant_of-self-then-not-index : goal.invariant_of-self-then-not-index
invariant_of-self-then-not-index g c =
    let marks : List Bool = c.self.inside.marks.items in
    let within : c.args.place < length marks = let v = ap (λ (f : Found). f.animals) c.self.view_is in let r = c.requires in omega (arith, v, r) in
    let unmarked : slice_get marks c.args.place ≡ Some false = slice_get-get_or marks c.args.place c.index.result.now within ∙ ap Some (sym c.index.ensures ∙ c.if-not-index.true) in
    subst (λ (places : List ℕ). AreMarked places (set marks c.args.place true)) (sym c.in_ok-push.ensures.items)
    (marked-push c.self.inside.places.items marks c.args.place c.self.invariant unmarked)

pub returns-else-not-index-clause-added : goal.returns-else-not-index-clause-added
returns-else-not-index-clause-added g c =
    let marks : List Bool = c.self.inside.marks.items in
    let within : c.args.place < length marks = let v = ap (λ (f : Found). f.animals) c.self.view_is in let r = c.requires in omega (arith, v, r) in
    let marked : slice_get marks c.args.place ≡ Some true = slice_get-get_or marks c.args.place c.index.result.now within ∙ ap Some (sym c.index.ensures ∙ c.if-not-index.false) in
    subst (λ (found : Found). Contains found.places c.args.place) c.self.view_is (c.self.invariant.others c.args.place marked)
