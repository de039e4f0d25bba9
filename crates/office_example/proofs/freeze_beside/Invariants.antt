-- What the inspector held first is still a beginning of what it holds.
use mathlib.Core.List.{IsPrefix}
use Rattle.office_example.proofs.freeze_beside.Given as goal

abbrev pub invariant-loop-reading : goal.invariant-loop-reading
invariant-loop-reading g l = IsPrefix l.fn.inspector.history l.inspector.history
