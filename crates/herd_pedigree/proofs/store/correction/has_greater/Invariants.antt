-- None of the writes so far left a depth above the limit.
use Rattle.std.proofs.Common.{◌<◌, ◌≤◌, ℕ, slice_index, slice_index_or}
use Rattle.herd_pedigree.proofs.store.correction.has_greater.Given as goal

abbrev pub invariant-loop-write : goal.invariant-loop-write
invariant-loop-write l = (k : ℕ) (d : ℕ × ℕ) → k < l.write-index → slice_index l.depths (slice_index_or l.log k d).0 ≤ l.limit
