use Rattle.std.proofs.Common.{◌≡◌}
use Rattle.std.specs.List.{All}
use Rattle.crossbeam_deque.specs.Handles.{worker_deque, worker_flavor, worker_port, worker_view}
use Rattle.herd_pool.specs.Blocks.{pass_view}
use Rattle.herd_pool.specs.Workers.{numbers}
use Rattle.herd_pool.proofs.starter.take_blocks.Given as goal

abbrev pub invariant-loop : goal.invariant-loop
invariant-loop g l = record {
  deque : worker_deque l.starter.queue ≡ worker_deque l.fn.starter.queue;
  fifo : worker_flavor l.starter.queue ≡ 0;
  first : worker_port l.starter.queue ≡ 0;
  view : worker_view l.starter.queue ≡ pass_view (worker_view l.fn.starter.queue).out (worker_view l.fn.starter.queue).pushed (numbers l.starter.blocks.items);
  computed : All (g.W.Work.is_computed l.work) l.starter.blocks.items;
  idle : All (g.W.Work.is_ready l.work) l.starter.idle.items;
  ready : g.W.Work.is_ready l.work l.scratch;
}
