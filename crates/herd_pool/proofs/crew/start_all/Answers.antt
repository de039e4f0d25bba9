-- `start_all`: what `pass` requires.
use Rattle.herd_pool.proofs.Passes.{forks}
use Rattle.herd_pool.proofs.crew.start_all.Goals as goal

pub another-pass-requires : goal.another-pass-requires
another-pass-requires g c = forks _ _ c.loop.invariant.starter.starter.first
