-- The calves so far but one stand behind the others.
use Rattle.std.proofs.Common.{◌≡◌, ◌==◌, ◌++◌, filter, not}
use Rattle.herd_pedigree.proofs.store.correction.push_others.Given as goal

abbrev pub invariant-loop-calf : goal.invariant-loop-calf
invariant-loop-calf g l = l.pending.items ≡ l.fn.pending.items ++ filter (λ calf. not (calf == l.one)) l.yielded
