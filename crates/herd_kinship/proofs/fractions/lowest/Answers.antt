-- `lowest`: its clause `lowest`.
use Rattle.herd_kinship.proofs.lemmas.numbers.FractionFacts.{halved-lowest}
use Rattle.herd_kinship.proofs.fractions.lowest.Goals as goal

pub returns-clause-lowest : goal.returns-clause-lowest
returns-clause-lowest c =
    rw c.min-halvings.ensures
    (halved-lowest c.args.negative c.args.numerator c.args.denominator c.requires.positive c.ranges.numerator.fits c.ranges.denominator.fits c.requires.power)
