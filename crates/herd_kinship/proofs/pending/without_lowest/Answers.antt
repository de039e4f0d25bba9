-- `without_lowest`: its result.
use Rattle.herd_kinship.proofs.lemmas.numbers.PendingFacts.{lowest-cleared}
use Rattle.herd_kinship.proofs.pending.without_lowest.Goals as goal

pub returns : goal.returns
returns c = lowest-cleared c.args.chunk c.requires c.ranges.chunk.fits
