-- A clerk who is awaited has filed what fell to him.
use Rattle.std.proofs.Common.{rules, ◌≡◌, ◌++◌, [], ◌∷◌, List, All, subst}
use Rattle.std.proofs.lemmas.List.Elements.{All-head, All-push, All-same, All-tail}
use Rattle.std.specs.Vec.Iter.{into_iter_items}
use Rattle.std.specs.declared.thread.PromisedHandle.{PromisedHandle}
use Rattle.herd_clerks.specs.Deal.{HasDone}
use Rattle.herd_office.specs.declared.desk.Desk.{Desk}
use Rattle.herd_clerks.specs.declared.crew.DeskTask.{DeskTask}
use Rattle.herd_clerks.specs.declared.deal.Deal.{Deal}
use Rattle.herd_clerks.proofs.SummaryFacts.{handed_over}
use Rattle.herd_clerks.proofs.crew.join_all.Goals as goal

pub loop-handle-preserved : goal.loop-handle-preserved
loop-handle-preserved g c =
    let was = c.loop-handle.invariant in
    let step = c.in-Some.ensures.steps in
    let came = c.in_ok-join.field-0 in
    let joined : c.push.new.self.items ≡ c.loop-handle.done.items ++ came ∷ [] = search rules in
    record {
      numbers =
          handed_over (λ d. d.number) (λ s. s.promise.number) c.loop-handle.done.items c.push.new.self.items (into_iter_items c.loop-handle.handle-iterator)
          (into_iter_items c.next.new.self) came c.in-Some.handle _ joined step.0 c.in_ok-join.ensures.0 was.numbers;
      filed = λ deal same.
          let HasDeal : PromisedHandle _ DeskTask → Type 0 = λ s. s.promise.deal ≡ deal in
          let HasDealt : Desk _ _ → Type 0 = λ d. HasDone deal d in
          let known = was.filed deal same in
          let left : All HasDeal (c.in-Some.handle ∷ into_iter_items c.next.new.self) = subst (λ (l : List _). All HasDeal l) step.0 known.1 in
          let mine : c.in-Some.handle.promise.deal ≡ deal = All-head HasDeal c.in-Some.handle _ left in
          let kept : HasDealt came =
          subst (λ (d : Deal). HasDone d came) mine c.in_ok-join.ensures.1 in
          (All-same HasDealt _ _ joined (All-push HasDealt _ came known.0 kept), All-tail HasDeal c.in-Some.handle _ left);
    }
