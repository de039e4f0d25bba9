-- `Correction::depth_at`: what `depth` requires.
use Rattle.std.proofs.Common.{sym, subst, ◌<◌, length}
use Rattle.std.proofs.Common.{◌∙◌, inl, inr}
use Rattle.herd_pedigree.proofs.lemmas.store.CorrectionFacts.{if_parent}
use Rattle.herd_pedigree.proofs.store.correction.Correction.depth_at.Goals as goal

pub depth_with-depth-requires-clause-sire : goal.depth_with-depth-requires-clause-sire
depth_with-depth-requires-clause-sire g c =
    if_parent c.parents_of-parents.result.sire (length c.args.depths.now) (λ p e. subst (λ n. p < n) (sym c.requires.long) (c.args.self.now.sound.closed p c.args.place (inl (sym c.parents_of-parents.ensures.sire ∙ e))))

pub depth_with-depth-requires-clause-dam : goal.depth_with-depth-requires-clause-dam
depth_with-depth-requires-clause-dam g c =
    if_parent c.parents_of-parents.result.dam (length c.args.depths.now) (λ p e. subst (λ n. p < n) (sym c.requires.long) (c.args.self.now.sound.closed p c.args.place (inr (sym c.parents_of-parents.ensures.dam ∙ e))))
