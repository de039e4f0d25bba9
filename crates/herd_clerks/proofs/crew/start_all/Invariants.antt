-- A thread for each clerk so far.
use Rattle.std.proofs.Common.{◌≡◌, ◌++◌, All, map, vec_items}
use Rattle.std.specs.Vec.Iter.{into_iter_items}
use Rattle.herd_clerks.specs.Deal.{HasBegun}
use Rattle.herd_clerks.proofs.crew.start_all.Given as goal

abbrev pub invariant-loop-desk : goal.invariant-loop-desk
invariant-loop-desk g l = record {
  numbers : map (λ s. s.promise.number) (vec_items l.started) ++ map (λ d. d.number) (into_iter_items l.desk-iterator) ≡ map (λ d. d.number) l.fn.desks.items;
  deals : All (λ s. s.promise.deal ≡ l.deal) (vec_items l.started);
  first : All (HasBegun l.deal) (into_iter_items l.desk-iterator);
}
