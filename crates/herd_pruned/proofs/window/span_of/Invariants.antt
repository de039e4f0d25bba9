-- Each animal so far and its parents stand within the span.
use Rattle.std.proofs.Common.{ℕ, ◌+◌, ◌<◌}
use Rattle.herd_kinship.specs.Ancestry.{IsParentIn}
use Rattle.herd_kinship.specs.Ranks.{ranked}
use Rattle.herd_pruned.proofs.window.span_of.Given as goal

abbrev pub invariant-loop-rank : goal.invariant-loop-rank
invariant-loop-rank g l = record {
  some : 0 < l.span;
  parents : (rank parent : ℕ) → rank < l.rank → IsParentIn (ranked l.lineage) parent rank → rank < parent + l.span;
}
