-- `take_blocks`: what `pop_as` requires, its loop, and its clause `each_once`.
use Rattle.std.proofs.Common.{rules, inl, ◌∙◌}
use Rattle.herd_pool.proofs.Passes.{all_taken, finds, one_more, takes}
use Rattle.herd_pool.proofs.starter.take_blocks.Goals as goal
use Rattle.herd_pool.proofs.starter.take_blocks.Goals.{in-None, in-Some+in-None-pop_as}

pub pop_as-requires-clause-fifo : goal.pop_as-requires-clause-fifo
pop_as-requires-clause-fifo g c = λ _. takes _ _ (inl c.loop.invariant.first)

pub pop_as-requires-clause-empty : goal.pop_as-requires-clause-empty
pop_as-requires-clause-empty g c = finds _ _ c.loop.invariant.first

pub loop-preserved : goal.loop-preserved
loop-preserved g c =
    let was = c.loop.invariant in
    let added = c.in_ok-add_block-in-Some-pop_as.ensures in
    record {
      deque = c.pop_as.ensures.same.0.0 ∙ was.deque;
      fifo = c.pop_as.ensures.same.0.1 ∙ was.fifo;
      first = c.pop_as.ensures.same.0.2 ∙ was.first;
      view = one_more _ _ _ _ _ _ _ was.view c.in-Some-pop_as.ensures.rule added.number;
      computed = added.computed;
      idle = was.idle;
      ready = added.ready;
    }

pub returns-clause-each_once : goal.returns-clause-each_once
returns-clause-each_once g c =
    elim c.match-next.branch [
      | in-None w ↦ search rules
      | in-Some+in-None-pop_as w ↦ rw w.starter-is (all_taken _ _ _ _ c.loop.invariant.view w.in-None-pop_as.ensures.rule.1)
    ]
