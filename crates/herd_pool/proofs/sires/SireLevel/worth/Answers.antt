-- `SireLevel::worth`: that nothing overflows and its loop.
use Rattle.std.proofs.Common.{◌<◌, ◌≤◌, arith}
use Rattle.herd_pool.specs.Sires.{calves_of}
use Rattle.herd_pool.proofs.WorthFacts.{busy_among-few, busy_among-no, busy_among-yes, calves_among-few, calves_among-more}
use Rattle.herd_pool.proofs.sires.SireLevel.worth.Goals.{then-more-gt0, else-more-gt0}
use Rattle.herd_pool.proofs.sires.SireLevel.worth.Goals as goal

pub overflow_add-busy : goal.overflow_add-busy
overflow_add-busy g c =
    let level = c.args.self.now.level in
    let few = busy_among-few level.lineage.now level.depth level.block c.loop-number.number in
    let before = c.loop-number.invariant.busy in
    omega arith

pub overflow_add-calves : goal.overflow_add-calves
overflow_add-calves g c =
    let level = c.args.self.now.level in
    let few = calves_among-few level.lineage.now level.depth level.block c.loop-number.number in
    let most = c.requires.lineage.few in
    let before = c.loop-number.invariant.calves in
    omega arith

pub loop-number-preserved : goal.loop-number-preserved
loop-number-preserved g c =
    let level = c.args.self.now.level in
    let rows = level.lineage.now in
    let n = c.loop-number.number in
    let before = c.loop-number.invariant in
    let is = c.count_calves-more.ensures in
    record {
      busy = elim c.if-more-gt0.branch [
        | then-more-gt0 w ↦
            (let some : 0 < calves_of rows level.depth level.block n = let test = w.if-more-gt0.true in omega arith in
            let now = w.busy-is in
            let more = busy_among-yes rows level.depth level.block n some in
            omega arith)
        | else-more-gt0 w ↦
            (let none : calves_of rows level.depth level.block n ≤ 0 = let test = w.if-more-gt0.false in omega arith in
            let now = w.busy-is in
            let more = busy_among-no rows level.depth level.block n none in
            omega arith)
      ];
      calves = let more = calves_among-more rows level.depth level.block n in let from = c.from-calves.ensures in omega arith;
    }
