-- `Ancestors::emptied`: what its result keeps to.
use Rattle.std.proofs.Common.{◌≡◌, ◌∙◌, sym, subst, List, Bool, [], ℕ, false, replicate}
use Rattle.herd_pedigree.specs.store.Ancestors.{AreMarked}
use Rattle.herd_pedigree.proofs.lemmas.store.AncestorFacts.{marked-none, marks-anew}
use Rattle.herd_pedigree.proofs.store.ancestors.Ancestors.emptied.Goals as goal

pub invariant_of-result : goal.invariant_of-result
invariant_of-result g c =
    let marks : c.resize.new.self.items ≡ replicate c.args.animals false =
    c.in_ok-resize.ensures.items ∙ marks-anew c.args.animals _ c.clear-2.new.self.items c.clear-2.ensures.items c.clear-2.ensures.len in
    subst (λ (places : List ℕ). AreMarked places c.resize.new.self.items) (sym c.clear.ensures.items)
    (subst (λ (list : List Bool). AreMarked [] list) (sym marks) (marked-none c.args.animals))
