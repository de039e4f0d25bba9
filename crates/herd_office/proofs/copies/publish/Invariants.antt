-- A publish that was refused leaves what was shown, and what is pending.
use Rattle.herd_office.specs.Shelves.{IsAsBefore}
use Rattle.herd_office.proofs.copies.publish.Given as goal

abbrev pub invariant-loop : goal.invariant-loop
invariant-loop g l = IsAsBefore l.fn.copies l.held
