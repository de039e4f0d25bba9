use Rattle.std.proofs.Common.{◌≡◌, ℕ, ◌*◌, ◌^◌, ◌<◌, All, length}
use Rattle.std.specs.Prelude.{slice_index}
use Rattle.herd_lineage.specs.declared.TheConstants.{DEPTH_LIMIT}
use Rattle.herd_pruned.proofs.coefficient.spread.Given as goal

-- the coefficients so far are written
abbrev pub invariant-loop-place : goal.invariant-loop-place
invariant-loop-place l = record {
  long : length l.known ≡ length l.fn.known;
  written : (i : ℕ) → i < l.place → slice_index l.known (slice_index l.ranks i) ≡ slice_index l.coefficients i;
  below_one : All (λ n. n < 2 ^ (2 * DEPTH_LIMIT)) l.known;
}
