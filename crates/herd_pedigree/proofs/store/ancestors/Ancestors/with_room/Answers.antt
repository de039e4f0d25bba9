-- `Ancestors::with_room`: what its result keeps to.
use Rattle.std.proofs.Common.{sym, subst, List, Bool, [], ℕ}
use Rattle.herd_pedigree.specs.store.Ancestors.{AreMarked}
use Rattle.herd_pedigree.proofs.lemmas.store.AncestorFacts.{marked-none}
use Rattle.herd_pedigree.proofs.store.ancestors.Ancestors.with_room.Goals as goal

pub invariant_of-result : goal.invariant_of-result
invariant_of-result g c =
    subst (λ (places : List ℕ). AreMarked places c.in_ok-vec.field-0.items) (sym c.in_ok-with_capacity.ensures.items)
    (subst (λ (marks : List Bool). AreMarked [] marks) (sym (c.in_ok-vec.ensures.items_if_clones_equal (λ y e. e))) (marked-none c.args.animals))
