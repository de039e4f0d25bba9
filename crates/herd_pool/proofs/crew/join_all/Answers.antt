-- `join_all`: what `absorb` requires and its loop.
use Rattle.std.proofs.Common.{rules, arith, suc, List, get_or, ◌≡◌, ◌++◌, [], ◌∷◌, ◌-◌, ap, subst, ◌∙◌, sym}
use Rattle.std.specs.Vec.Iter.{into_iter_len}
use Rattle.std.proofs.lemmas.List.Elements.{All-append, All-push, All-same}
use Rattle.crossbeam_deque.specs.Handles.{worker_view}
use Rattle.herd_pool.specs.Blocks.{pass_view}
use Rattle.herd_pool.specs.Workers.{IsWorkerOutput, numbers}
use Rattle.herd_pool.specs.declared.work.ComputedBlock.{ComputedBlock}
use Rattle.herd_pool.specs.declared.worker.Task.{Task}
use Rattle.herd_pool.proofs.Passes.{merges, absorbed}
use Rattle.herd_pool.proofs.crew.join_all.Goals as goal

pub absorb-requires-clause-rule : goal.absorb-requires-clause-rule
absorb-requires-clause-rule g c = merges _ _ _ _ c.loop-worker.invariant.starter.starter.first (ap (λ v. v.out) c.in_ok-pass.ensures.pass.view)

pub loop-worker-preserved : goal.loop-worker-preserved
loop-worker-preserved g c =
    let was = c.loop-worker.invariant in
    let step = c.in-Some.ensures.steps in
    let mine : c.in-Some.worker.promise ≡ c.args.task = let h = was.task 0 c.in-Some.worker in grind rules in
    let kept = subst (λ (s : Task _ _). IsWorkerOutput g.W.Work s.work.now s.stealer.now c.in_ok-pass.field-0) mine c.in_ok-pass.ensures in
    let IsRight : ComputedBlock _ → Type 0 = g.W.Work.is_computed c.args.task.work.now in
    let IsReady : _ → Type 0 = g.W.Work.is_ready c.args.task.work.now in
    let joined : c.append.new.self.items ≡ c.loop-worker.starter.blocks.items ++ c.in_ok-pass.field-0.blocks.items = c.in_ok-append.ensures.items in
    let idle : c.push.new.self.items ≡ c.loop-worker.starter.idle.items ++ c.in_ok-pass.field-0.scratch ∷ [] = c.in_ok-push.ensures.items in
    let left : into_iter_len c.next.new.self ≡ into_iter_len c.loop-worker.worker-iterator - 1 = omega (arith, step.1) in
    record {
      starter = record {
        deque = c.absorb.ensures.same.0.0 ∙ was.starter.deque;
        starter = record {
          fifo = c.absorb.ensures.same.0.1 ∙ was.starter.starter.fifo;
          first = c.absorb.ensures.same.0.2 ∙ was.starter.starter.first;
          view =
              absorbed _ _ _ _ _ _ _ _ was.starter.starter.view c.in_ok-pass.ensures.pass.view c.absorb.ensures.rule joined
              ∙ ap (λ n. pass_view n (worker_view c.args.starter.now.queue).pushed (numbers c.append.new.self.items)) (sym left);
          computed = All-same IsRight _ _ joined (All-append IsRight _ _ was.starter.starter.computed kept.computed);
          ready = All-same IsReady _ _ idle (All-push IsReady _ c.in_ok-pass.field-0.scratch was.starter.starter.ready kept.ready);
        };
      };
      task = λ k d below. subst (λ (left : List _). (get_or left (suc k) d).promise ≡ c.args.task) step.0 (was.task (suc k) d (omega (arith, step.1)));
    }
