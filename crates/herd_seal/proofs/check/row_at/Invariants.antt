use Rattle.std.proofs.Common.{◌≡◌, ℕ, ◌-◌, ◌<◌, ◌≤◌, Some, length, slice_get}
use Rattle.herd_seal.specs.declared.certificate.CertifiedRow.{CertifiedRow}
use Rattle.herd_seal.proofs.check.row_at.Given as goal

abbrev pub invariant-loop-low : goal.invariant-loop-low
invariant-loop-low l =
    (l.low ≤ l.high) × (l.high ≤ length l.rows)
    × ((i : ℕ) (row : CertifiedRow) → i < l.low → slice_get l.rows i ≡ Some row → row.place < l.place)
    × ((i : ℕ) (row : CertifiedRow) → l.high ≤ i → slice_get l.rows i ≡ Some row → l.place ≤ row.place)

abbrev pub decreases-loop-low : goal.decreases-loop-low
decreases-loop-low l = l.high - l.low
