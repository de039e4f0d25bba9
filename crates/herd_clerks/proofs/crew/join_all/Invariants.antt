-- A clerk for each thread so far, who has filed what fell to him.
use Rattle.std.proofs.Common.{◌≡◌, ◌++◌, All, map, vec_items}
use Rattle.std.specs.Vec.Iter.{into_iter_items}
use Rattle.herd_clerks.specs.Deal.{HasDone}
use Rattle.herd_clerks.specs.declared.deal.Deal.{Deal}
use Rattle.herd_clerks.proofs.crew.join_all.Given as goal

abbrev pub invariant-loop-handle : goal.invariant-loop-handle
invariant-loop-handle g l = record {
  numbers : map (λ d. d.number) l.done.items ++ map (λ s. s.promise.number) (into_iter_items l.handle-iterator) ≡ map (λ s. s.promise.number) (vec_items l.fn.started);
  filed : (deal : Deal) → All (λ s. s.promise.deal ≡ deal) (vec_items l.fn.started)
      → All (HasDone deal) l.done.items
      × All (λ s. s.promise.deal ≡ deal) (into_iter_items l.handle-iterator);
}
