use Rattle.std.proofs.Common.{◌≡◌}
use Rattle.herd_lineage.specs.Lineage.{level_of}
use Rattle.herd_lineage.specs.declared.TheConstants.{DEPTH_LIMIT}
use Rattle.herd_kinship.specs.Mates.{IsReady}
use Rattle.herd_pool.specs.Levels.{block_of}
use Rattle.herd_pool.specs.Sires.{AreCalvesAmong}
use Rattle.herd_pool.proofs.sires.SireLevelWork.compute.Given as goal

abbrev pub invariant-loop-sire : goal.invariant-loop-sire
invariant-loop-sire g l = record {
  ranks : l.sire-items ≡ block_of l.self.level.block l.number (level_of l.self.level.depth l.self.level.lineage.now);
  ready : IsReady l.self.level.lineage.now l.mates;
  calves : AreCalvesAmong DEPTH_LIMIT l.self.level.lineage.now l.sire-items l.sire-index l.output.items;
}
