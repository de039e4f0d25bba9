use Rattle.std.proofs.Common.{◌≡◌, ℕ, ◌⊎◌, ◌<◌, Contains, get_or, length}
use Rattle.herd_pruned.specs.Marked.{IsMarked}
use Rattle.herd_pruned.proofs.marked.mark_animals.Given as goal

-- the animals so far are marked, and no others
abbrev pub invariant-loop-rank : goal.invariant-loop-rank
invariant-loop-rank l = record {
  each : length l.marks ≡ length l.fn.marks;
  animals : (k : ℕ) → k < l.rank-index → IsMarked l.marks (get_or l.animals k 0);
  others : (rank : ℕ) → IsMarked l.marks rank → IsMarked l.fn.marks rank ⊎ Contains l.animals rank;
}
