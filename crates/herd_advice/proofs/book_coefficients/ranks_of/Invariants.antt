-- `ranks_of`: the ranks of the numbers so far.
use Rattle.std.proofs.Common.{take}
use Rattle.herd_advice.specs.BookCoefficients.{AreRanksOf}
use Rattle.herd_advice.proofs.book_coefficients.ranks_of.Given as goal

abbrev pub invariant-loop-number : goal.invariant-loop-number
invariant-loop-number g l = AreRanksOf l.frozen (take l.number-index l.numbers) l.ranks.items
