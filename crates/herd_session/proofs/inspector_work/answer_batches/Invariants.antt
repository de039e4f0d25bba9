-- Nothing that was seen is forgotten.
use mathlib.Core.List.{IsPrefix}
use Rattle.herd_session.proofs.inspector_work.answer_batches.Given as goal

abbrev pub invariant-loop : goal.invariant-loop
invariant-loop g l = IsPrefix l.fn.reporting.inspector.history l.reporting.inspector.history
