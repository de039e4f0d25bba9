-- A clerk who is started has his task.
use Rattle.std.proofs.Common.{rules, ◌≡◌, ◌++◌, [], ◌∷◌, List, All, subst, vec_items}
use Rattle.std.proofs.lemmas.List.Elements.{All-push, All-same, All-tail}
use Rattle.std.specs.Vec.Iter.{into_iter_items}
use Rattle.std.specs.declared.thread.PromisedHandle.{PromisedHandle}
use Rattle.herd_clerks.specs.Deal.{HasBegun}
use Rattle.herd_office.specs.declared.desk.Desk.{Desk}
use Rattle.herd_clerks.specs.declared.crew.DeskTask.{DeskTask}
use Rattle.herd_clerks.proofs.SummaryFacts.{handed_over}
use Rattle.herd_clerks.proofs.crew.start_all.Goals as goal

pub loop-desk-preserved : goal.loop-desk-preserved
loop-desk-preserved g c =
    let was = c.loop-desk.invariant in
    let step = c.in-Some.ensures.steps in
    let deal = c.args.deal in
    let HasDeal : PromisedHandle _ DeskTask → Type 0 = λ s. s.promise.deal ≡ deal in
    let Begun : Desk _ _ → Type 0 = λ d. HasBegun deal d in
    let joined : vec_items c.push.new.self ≡ vec_items c.loop-desk.started ++ c.in_ok-clerk.clerk ∷ [] = search rules in
    let left : All Begun (c.in-Some.desk ∷ into_iter_items c.next.new.self) = subst (λ (l : List _). All Begun l) step.0 was.first in
    record {
      numbers =
          handed_over (λ s. s.promise.number) (λ d. d.number) (vec_items c.loop-desk.started) (vec_items c.push.new.self)
          (into_iter_items c.loop-desk.desk-iterator) (into_iter_items c.next.new.self) c.in_ok-clerk.clerk c.in-Some.desk _ joined step.0
          c.in_ok-clerk.ensures.number was.numbers;
      deals = All-same HasDeal _ _ joined (All-push HasDeal _ c.in_ok-clerk.clerk was.deals c.in_ok-clerk.ensures.deal);
      first = All-tail Begun c.in-Some.desk _ left;
    }
