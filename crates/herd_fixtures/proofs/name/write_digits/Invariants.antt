-- The digits that are written stand behind those of the rest.
use Rattle.std.proofs.Common.{◌≡◌, ◌++◌, length, drop}
use Rattle.herd_fixtures.specs.Name.{digits}
use Rattle.herd_fixtures.proofs.name.write_digits.Given as goal

abbrev pub invariant-loop-place : goal.invariant-loop-place
invariant-loop-place l = digits (length l.text) l.number ≡ digits l.place l.rest ++ drop l.place l.text
