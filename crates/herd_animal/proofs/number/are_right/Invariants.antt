-- The characters before this place are right, or else one of them is found wrong.
use Rattle.std.specs.Prelude.{◌↔◌, IsTrue}
use Rattle.herd_animal.specs.AnimalNumber.{AreRight}
use Rattle.herd_animal.proofs.number.are_right.Given as goal

abbrev pub invariant-loop-place : goal.invariant-loop-place
invariant-loop-place l = IsTrue l.right ↔ AreRight l.text l.from l.place
