-- Each before the loop's place is a beginning.
use Rattle.std.proofs.Common.{◌≡◌, ◌<◌, ℕ, slice_get, Some}
use mathlib.Core.List.{IsPrefix}
use Rattle.herd_office.proofs.inside.all_begin.Given as goal

abbrev pub invariant-loop-holder : goal.invariant-loop-holder
invariant-loop-holder g l = (k : ℕ) (h : _) → k < l.holder-index → slice_get l.holders k ≡ Some h → IsPrefix (g.H.Holder.held h) l.history
