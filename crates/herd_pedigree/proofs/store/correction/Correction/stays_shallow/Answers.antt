-- `Correction::stays_shallow`: its clauses `shallow` and `deep`.
use Rattle.std.proofs.Common.{All, sym, ◌∙◌, subst, ◌<◌, ◌≤◌, slice_index}
use Rattle.std.proofs.lemmas.Bool.{not-false, not-true}
use Rattle.herd_pedigree.specs.store.Undo.{TakesBack}
use Rattle.herd_frozen.specs.declared.TheConstants.{DEPTH_LIMIT}
use Rattle.herd_pedigree.proofs.lemmas.store.CorrectionFacts.{corrected-deep, corrected-shallow}
use Rattle.herd_pedigree.proofs.lemmas.store.UndoFacts.{taken-none, written-most}
use Rattle.herd_pedigree.proofs.store.correction.Correction.stays_shallow.Goals as goal

pub returns-clause-shallow : goal.returns-clause-shallow
returns-clause-shallow g c =
    λ shallow.
    let depths = c.carry.new.depths in
    corrected-shallow DEPTH_LIMIT c.args.self.now depths (c.carry.auto.depths ∙ c.requires.before.long) (c.in_ok-carry.ensures.settled c.if-not-branch.false)
    (λ y within.
    let written : All (λ write. slice_index depths write.0 ≤ DEPTH_LIMIT) c.carry.new.log.items =
    subst (λ log. All (λ write. slice_index depths write.0 ≤ DEPTH_LIMIT) log) c.deref.ensures.value (c.has_greater.ensures.most (not-true c.has_greater.result shallow)) in
    let taken = c.carry.ensures.logged c.args.depths.now (subst (λ log. TakesBack log c.args.depths.now c.args.depths.now) (sym c.requires.empty) (taken-none c.args.depths.now)) in
    let before : slice_index c.args.depths.now y ≤ DEPTH_LIMIT = c.requires.before.shallow y (subst (λ n. y < n) c.carry.auto.depths within) in
    written-most DEPTH_LIMIT c.carry.new.log.items depths written y (subst (λ ds. slice_index ds y ≤ DEPTH_LIMIT) (sym taken.undone) before))

pub returns-clause-deep : goal.returns-clause-deep
returns-clause-deep g c =
    λ deep.
    let high = c.has_greater.ensures.greater (not-false c.has_greater.result deep) in
    (high.0, corrected-deep DEPTH_LIMIT c.args.self.now c.carry.new.depths (c.carry.auto.depths ∙ c.requires.before.long) (c.in_ok-carry.ensures.settled c.if-not-branch.false) high.0 high.1 high.2)
