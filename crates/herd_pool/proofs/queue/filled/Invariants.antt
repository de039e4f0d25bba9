use Rattle.std.proofs.Common.{◌≡◌, ◌≤◌, []}
use Rattle.crossbeam_deque.specs.Handles.{worker_capacity, worker_flavor, worker_index, worker_port, worker_view}
use Rattle.herd_pool.specs.Blocks.{pass_view}
use Rattle.herd_pool.proofs.queue.filled.Given as goal

abbrev pub invariant-loop-block : goal.invariant-loop-block
invariant-loop-block g l = record {
  flavor : worker_flavor l.queue ≡ 0;
  port : worker_port l.queue ≡ 0;
  view : worker_view l.queue ≡ pass_view 0 l.block [];
  index : worker_index l.queue ≡ l.block;
  room : l.count ≤ worker_capacity l.queue;
}
