-- Each birth so far is answered.
use Rattle.std.proofs.Common.{◌≡◌, ◌+◌}
use Rattle.office_example.proofs.file_births.Given as goal

abbrev pub invariant-loop-birth : goal.invariant-loop-birth
invariant-loop-birth g l = l.desk.answered ≡ l.fn.desk.answered + l.birth-index
