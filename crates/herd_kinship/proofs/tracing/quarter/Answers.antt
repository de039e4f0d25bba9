-- `quarter`: a step.
use Rattle.herd_kinship.proofs.tracing.quarter.Goals as goal

pub bounds-known-rank : goal.bounds-known-rank
bounds-known-rank c = (c.requires c.in-Some.rank c.in-Some.is).within
