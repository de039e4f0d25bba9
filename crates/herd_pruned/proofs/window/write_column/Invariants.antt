-- The column is written so far, and all other columns stand as they did.
use Rattle.std.proofs.Common.{ℕ, ◌≡◌, ◌≢◌, ◌+◌, ◌*◌, ◌^◌, ◌<◌, ◌≤◌, All, length}
use Rattle.herd_lineage.specs.declared.TheConstants.{DEPTH_LIMIT}
use Rattle.herd_pruned.specs.Window.{at}
use Rattle.herd_pruned.proofs.window.write_column.Given as goal

abbrev pub invariant-loop-x : goal.invariant-loop-x
invariant-loop-x l = record {
  long : length l.entries ≡ length l.fn.entries;
  small : All (λ e. e < 2 ^ (2 * DEPTH_LIMIT + 1)) l.entries;
  column : (x : ℕ) → x < l.x → at l.places l.entries x l.place ≡ at l.places l.fn.entries l.place x;
  left : (x : ℕ) → l.x ≤ x → x < l.places → at l.places l.entries x l.place ≡ at l.places l.fn.entries x l.place;
  others : (x y : ℕ) → x < l.places → y < l.places → y ≢ l.place → at l.places l.entries x y ≡ at l.places l.fn.entries x y;
}
