use Rattle.std.proofs.Common.{◌≡◌}
use Rattle.herd_pool.specs.Sires.{busy_among, calves_among}
use Rattle.herd_pool.proofs.sires.SireLevel.worth.Given as goal

abbrev pub invariant-loop-number : goal.invariant-loop-number
invariant-loop-number g l = record {
  busy : l.busy ≡ busy_among l.self.level.lineage.now l.self.level.depth l.self.level.block l.number;
  calves : l.calves ≡ calves_among l.self.level.lineage.now l.self.level.depth l.self.level.block l.number;
}
