use Rattle.herd_lineage.specs.declared.TheConstants.{DEPTH_LIMIT}
use Rattle.herd_kinship.specs.Coefficients.{IsBefore, KnowsReached}
use Rattle.herd_kinship.specs.Mates.{IsReady}
use Rattle.herd_kinship.proofs.coefficients.write_by_sires.Given as goal

-- the calves of the sires so far have their coefficients
abbrev pub invariant-loop-sire : goal.invariant-loop-sire
invariant-loop-sire g l = record {
  ready : IsReady l.lineage l.mates;
  known : KnowsReached DEPTH_LIMIT l.lineage (IsBefore l.sire) l.known;
}
