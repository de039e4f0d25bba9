use Rattle.std.proofs.Common.{◌≡◌, take}
use Rattle.std.specs.List.{sum_by}
use Rattle.herd_lineage.specs.Lineage.{level_of}
use Rattle.herd_kinship.specs.CalfLinks.{calf_count}
use Rattle.herd_pool.specs.Levels.{block_of}
use Rattle.herd_pool.proofs.sires.SireLevel.count_calves.Given as goal

abbrev pub invariant-loop-sire : goal.invariant-loop-sire
invariant-loop-sire g l = record {
  ranks : l.sire-items ≡ block_of l.self.level.block l.number (level_of l.self.level.depth l.self.level.lineage.now);
  calves : l.calves ≡ sum_by (calf_count l.self.level.lineage.now) (take l.sire-index l.sire-items);
}
