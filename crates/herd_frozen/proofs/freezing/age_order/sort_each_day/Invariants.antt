-- The days so far are sorted, and each turn sorts one more.
use Rattle.std.proofs.Common.{length, ◌-◌}
use Rattle.herd_frozen.proofs.lemmas.freezing.DayFacts.{IsSortedByDay}
use Rattle.herd_frozen.proofs.freezing.age_order.sort_each_day.Given as goal

abbrev pub invariant-loop-from : goal.invariant-loop-from
invariant-loop-from l = IsSortedByDay l.fn.keys l.keys l.from

abbrev pub decreases-loop-from : goal.decreases-loop-from
decreases-loop-from l = length l.keys - l.from
