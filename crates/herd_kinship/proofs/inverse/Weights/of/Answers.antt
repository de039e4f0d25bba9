-- `Weights::of`: what `lowest` requires.
use Rattle.std.proofs.Common.{◌*◌, ◌-◌, inl, refl}
use Rattle.herd_lineage.specs.declared.TheConstants.{DEPTH_LIMIT}
use Rattle.herd_kinship.proofs.inverse.Weights.of.Goals as goal

pub lowest-requires-clause-power : goal.lowest-requires-clause-power
lowest-requires-clause-power c = inl (2 * DEPTH_LIMIT, refl)

pub lowest-requires-2-clause-power : goal.lowest-requires-2-clause-power
lowest-requires-2-clause-power c = inl (2 * DEPTH_LIMIT - 1, refl)

pub lowest-requires-3-clause-power : goal.lowest-requires-3-clause-power
lowest-requires-3-clause-power c = inl (2 * DEPTH_LIMIT - 2, refl)

pub lowest-requires-4-clause-power : goal.lowest-requires-4-clause-power
lowest-requires-4-clause-power c = inl (2 * DEPTH_LIMIT, refl)
