use Rattle.std.proofs.Common.{◌≡◌, ℕ, ◌<◌, get_or}
use Rattle.std.specs.Vec.Iter.{into_iter_items, into_iter_len}
use Rattle.crossbeam_deque.specs.Handles.{worker_view}
use Rattle.herd_pool.specs.Workers.{IsStarterOf}
use Rattle.herd_pool.proofs.crew.join_all.Given as goal

abbrev pub invariant-loop-worker : goal.invariant-loop-worker
invariant-loop-worker g l = record {
  starter : IsStarterOf g.W.Work l.task.work.now l.task.stealer.now (into_iter_len l.worker-iterator) (worker_view l.fn.starter.queue).pushed l.starter;
  task : (k : ℕ) (d : _) → k < into_iter_len l.worker-iterator → (get_or (into_iter_items l.worker-iterator) k d).promise ≡ l.task;
}
