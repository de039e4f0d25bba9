use Rattle.std.specs.List.{All}
use Rattle.herd_pool.specs.Workers.{IsBlockPass, numbers}
use Rattle.herd_pool.proofs.worker.steal_blocks.Given as goal

abbrev pub invariant-loop : goal.invariant-loop
invariant-loop g l = record {
  pass : IsBlockPass l.stealer l.pass (numbers l.blocks.items);
  computed : All (g.W.Work.is_computed l.work) l.blocks.items;
  ready : g.W.Work.is_ready l.work l.scratch;
}
