use Rattle.std.specs.List.{All}
use Rattle.herd_lineage.specs.declared.TheConstants.{DEPTH_LIMIT}
use Rattle.herd_kinship.specs.Mates.{IsReady}
use Rattle.herd_pool.specs.Sires.{KnowsCalvesBelow}
use Rattle.herd_pool.proofs.pool.coefficients_by_sires.Given as goal

abbrev pub invariant-loop-depth : goal.invariant-loop-depth
invariant-loop-depth g l = record {
  known : KnowsCalvesBelow DEPTH_LIMIT l.lineage l.calves l.known.items l.depth;
  idle : All (IsReady l.lineage) l.idle.items;
}
