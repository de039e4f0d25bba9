-- The numbers so far, and the fields that are left.
use Rattle.std.proofs.Common.{◌≡◌, ◌++◌, drop}
use Rattle.csv.specs.Records.{fields_of}
use Rattle.herd_requests.proofs.question.numbers_from.Given as goal

abbrev pub invariant-loop-at : goal.invariant-loop-at
invariant-loop-at l = l.numbers.items ++ drop l.at (fields_of l.row) ≡ drop l.place (fields_of l.row)
