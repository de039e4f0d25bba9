-- One animal more stands at the end.
use Rattle.std.proofs.Common.{ap, arith}
use Rattle.pedigree_timing.specs.Books.{paired_birth}
use Rattle.pedigree_timing.proofs.BookFacts.{first_of-next, length-first_of}
use Rattle.pedigree_timing.proofs.filling.calves.Goals as goal

pub loop-place-preserved : goal.loop-place-preserved
loop-place-preserved c =
    first_of-next paired_birth _ _ _ _ c.loop-place.invariant (ap (λ pedigree. pedigree.book) c.in_ok-file_birth.ensures.filed) c.paired.ensures

pub returns-clause-count : goal.returns-clause-count
returns-clause-count c =
    rw c.loop-place.invariant (omega (arith, length-first_of paired_birth c.loop-place.place))
