-- `steal_blocks`: what `steal_as` requires.
use Rattle.std.proofs.Common.{arith, inr, ap}
use Rattle.herd_pool.proofs.Passes.{takes}
use Rattle.herd_pool.proofs.worker.steal_blocks.Goals as goal

pub steal_as-requires-clause-takes : goal.steal_as-requires-clause-takes
steal_as-requires-clause-takes g c = let out = ap (λ v. v.out) c.loop.invariant.pass.view in takes _ _ (inr (omega arith))
