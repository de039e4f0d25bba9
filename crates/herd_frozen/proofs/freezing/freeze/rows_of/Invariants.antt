-- The rows of the first keys.
use Rattle.std.proofs.Common.{◌≡◌, length}
use Rattle.herd_frozen.specs.freezing.Freeze.{AreRows}
use Rattle.herd_frozen.proofs.freezing.freeze.rows_of.Given as goal

abbrev pub invariant-loop : goal.invariant-loop
invariant-loop g l = (length l.rows ≡ l.counter) × AreRows (g.S.Registered.book l.records) l.keys l.rows
