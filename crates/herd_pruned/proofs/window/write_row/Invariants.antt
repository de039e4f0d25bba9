-- The row is written so far, and all other rows stand as they did.
use Rattle.std.proofs.Common.{ℕ, ◌≡◌, ◌≢◌, ◌+◌, ◌*◌, ◌/◌, ◌^◌, ◌<◌, All, length}
use Rattle.herd_lineage.specs.declared.TheConstants.{DEPTH_LIMIT}
use Rattle.herd_pruned.specs.Window.{at, with_parent}
use Rattle.herd_pruned.proofs.window.write_row.Given as goal

abbrev pub invariant-loop-y : goal.invariant-loop-y
invariant-loop-y l = record {
  long : length l.entries ≡ length l.fn.entries;
  small : All (λ e. e < 2 ^ (2 * DEPTH_LIMIT + 1)) l.entries;
  row : (y : ℕ) → y < l.y → at l.places l.entries l.place y
      ≡ (with_parent l.places l.fn.entries l.fn.sire y + with_parent l.places l.fn.entries l.fn.dam y) / 2;
  others : (x y : ℕ) → x < l.places → y < l.places → x ≢ l.place → at l.places l.entries x y ≡ at l.places l.fn.entries x y;
}
