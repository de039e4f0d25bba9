-- The number stands at none of the places that were looked at.
use Rattle.std.proofs.Common.{◌≤◌, length}
use Rattle.herd_office.proofs.LinkedFacts.{IsNotFrom}
use Rattle.herd_office.proofs.linked.place_of.Given as goal

abbrev pub invariant-loop-place : goal.invariant-loop-place
invariant-loop-place l = record {
  within : l.place ≤ length l.records;
  not : IsNotFrom l.records l.number l.place;
}

abbrev pub decreases-loop-place : goal.decreases-loop-place
decreases-loop-place l = l.place
