-- `fraction`: what `lowest` requires.
use Rattle.std.proofs.Common.{◌*◌, inr, refl}
use Rattle.herd_lineage.specs.declared.TheConstants.{DEPTH_LIMIT}
use Rattle.herd_kinship.proofs.numerators.fraction.Goals as goal

pub lowest-requires-clause-power : goal.lowest-requires-clause-power
lowest-requires-clause-power c = inr (2 * DEPTH_LIMIT, refl)
