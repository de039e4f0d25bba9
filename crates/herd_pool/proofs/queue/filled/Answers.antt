-- `filled`: what `push_as` requires.
use Rattle.std.proofs.Common.{sym, ap}
use Rattle.herd_pool.proofs.Passes.{pushes}
use Rattle.herd_pool.proofs.queue.filled.Goals as goal

pub push_as-requires-clause-pushes : goal.push_as-requires-clause-pushes
push_as-requires-clause-pushes g c = pushes _ _ _ c.loop-block.invariant.port (sym (ap (λ v. v.pushed) c.loop-block.invariant.view))
