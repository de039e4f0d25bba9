-- `find`: its clause `place`.
use Rattle.std.proofs.Common.{sym}
use Rattle.herd_frozen.proofs.lemmas.rules.BookFacts.{at_position}
use Rattle.herd_pedigree.proofs.parents.find.Goals as goal

pub returns-in-Some-place_of-clause-place : goal.returns-in-Some-place_of-clause-place
returns-in-Some-place_of-clause-place g c =
    λ named.
    rw c.in-Some.is (at_position c.args.records.now.book c.in-Some.number c.in-Some-place_of.place (sym c.in-Some-place_of.ensures.index))
