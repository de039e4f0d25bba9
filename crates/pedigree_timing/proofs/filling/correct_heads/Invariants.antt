-- The corrections so far are made, and the numbers stay.
use Rattle.std.proofs.Common.{◌≡◌}
use Rattle.std.specs.Map.{keys_of}
use Rattle.pedigree_timing.specs.Books.{corrected}
use Rattle.pedigree_timing.proofs.filling.correct_heads.Given as goal

abbrev pub invariant-loop-turn : goal.invariant-loop-turn
invariant-loop-turn l = (l.pedigree.book ≡ corrected l.initial.pedigree.book l.turn) × (keys_of l.pedigree.book ≡ keys_of l.initial.pedigree.book)
