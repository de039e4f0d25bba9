use Rattle.std.proofs.Common.{◌≡◌}
use Rattle.herd_lineage.specs.declared.TheConstants.{DEPTH_LIMIT}
use Rattle.herd_kinship.specs.Tracing.{IsUnderWay}
use Rattle.herd_kinship.proofs.lemmas.tracing.TermSums.{IsSummed}
use Rattle.herd_kinship.proofs.tracing.trace.Given as goal

-- the terms of all that are met are added up
abbrev pub invariant-loop-met : goal.invariant-loop-met
invariant-loop-met g l = record {
  same : l.tracing.rank ≡ l.fn.rank;
  tracing : IsUnderWay DEPTH_LIMIT l.lineage l.tracing;
  summed : IsSummed DEPTH_LIMIT l.lineage l.tracing.rank l.tracing.border l.sum;
}

abbrev pub decreases-loop-met : goal.decreases-loop-met
decreases-loop-met g l = l.tracing.border
