-- The animals so far are in the book.
use Rattle.std.proofs.Common.{◌≡◌}
use Rattle.pedigree_timing.specs.Books.{first_of, lined_birth}
use Rattle.pedigree_timing.proofs.filling.lines.Given as goal

abbrev pub invariant-loop-place : goal.invariant-loop-place
invariant-loop-place l = l.pedigree.book ≡ first_of lined_birth l.place
