-- Nothing that was seen is forgotten.
use mathlib.Core.List.{IsPrefix}
use Rattle.herd_session.proofs.inspector_work.answer_each.Given as goal

abbrev pub invariant-loop-task : goal.invariant-loop-task
invariant-loop-task g l = IsPrefix l.fn.reporting.inspector.history l.reporting.inspector.history
