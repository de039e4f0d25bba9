-- The keys so far are of one day.
use Rattle.std.proofs.Common.{ℕ, ◌≡◌, ◌<◌, ◌≤◌, ◌-◌, get_or, length}
use Rattle.herd_frozen.specs.declared.freezing.age_order.AgeKey.{AgeKey}
use Rattle.herd_frozen.proofs.freezing.age_order.day_end.Given as goal

abbrev pub invariant-loop-end : goal.invariant-loop-end
invariant-loop-end l = record {
  later : l.from < l.end;
  within : l.end ≤ length l.keys;
  same : (i : ℕ) (d e : AgeKey) → l.from ≤ i → i < l.end → (get_or l.keys i d).birth ≡ (get_or l.keys l.from e).birth;
}

abbrev pub decreases-loop-end : goal.decreases-loop-end
decreases-loop-end l = length l.keys - l.end
