-- The slips of the desks so far were learnt.
use Rattle.std.proofs.Common.{◌≡◌, ◌<◌, ℕ, slice_get, Some}
use mathlib.Core.List.{IsPrefix}
use Rattle.herd_clerks.proofs.desks.steps_seen.Given as goal

abbrev pub invariant-loop-desk : goal.invariant-loop-desk
invariant-loop-desk g l = (k : ℕ) (d : _) → k < l.desk-index → slice_get l.desks k ≡ Some d → IsPrefix d.history l.inspector.history
