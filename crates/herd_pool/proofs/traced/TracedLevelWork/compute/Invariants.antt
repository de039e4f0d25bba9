use Rattle.std.proofs.Common.{◌≡◌, map, take}
use Rattle.herd_lineage.specs.Lineage.{level_of}
use Rattle.herd_lineage.specs.declared.TheConstants.{DEPTH_LIMIT}
use Rattle.herd_kinship.specs.Coefficients.{coefficient_at}
use Rattle.herd_pool.specs.Levels.{block_of}
use Rattle.herd_pool.proofs.traced.TracedLevelWork.compute.Given as goal

abbrev pub invariant-loop-rank : goal.invariant-loop-rank
invariant-loop-rank g l = record {
  ranks : l.rank-items ≡ block_of l.self.level.block l.number (level_of l.self.level.depth l.self.level.lineage.now);
  output : l.output.items ≡ map (coefficient_at DEPTH_LIMIT l.self.level.lineage.now) (take l.rank-index l.rank-items);
}
