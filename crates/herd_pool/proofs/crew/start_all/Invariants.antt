use Rattle.std.proofs.Common.{◌≡◌, ℕ, ◌<◌, get_or, vec_capacity, vec_items, vec_len}
use Rattle.crossbeam_deque.specs.Handles.{worker_view}
use Rattle.herd_pool.specs.Workers.{IsStarterOf}
use Rattle.herd_pool.proofs.crew.start_all.Given as goal

abbrev pub invariant-loop : goal.invariant-loop
invariant-loop g l = record {
  starter : IsStarterOf g.W.Work l.task.work.now l.task.stealer.now l.counter (worker_view l.fn.starter.queue).pushed l.starter;
  count : vec_len l.workers ≡ l.counter;
  room : vec_capacity l.workers ≡ l.threads;
  task : (k : ℕ) (d : _) → k < l.counter → (get_or (vec_items l.workers) k d).promise ≡ l.fn.task;
}
