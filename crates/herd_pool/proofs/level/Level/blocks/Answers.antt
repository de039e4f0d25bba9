-- `Level::blocks`: that nothing overflows.
use Rattle.std.proofs.Common.{arith, ap, length}
use Rattle.std.proofs.Math.Nat.{div-le_self}
use Rattle.herd_pool.proofs.LevelFacts.{length-level_of}
use Rattle.herd_pool.proofs.level.Level.blocks.Goals as goal

pub overflow_cast-result : goal.overflow_cast-result
overflow_cast-result g c =
    let rows = c.args.self.now.lineage.now in
    let level = ap length c.level-ranks.ensures.level in
    let all = length-level_of c.args.self.now.depth rows in
    let few = c.level-ranks.ensures.lineage.few in
    let quotient = div-le_self (length c.level-ranks.result.now) c.args.self.now.block in
    let is = c.div_ceil.ensures in
    omega arith
