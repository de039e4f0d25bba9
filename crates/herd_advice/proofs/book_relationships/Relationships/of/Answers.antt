-- `Relationships::of`: what that of a lineage requires, and that its animal is that of the book.
use Rattle.herd_lineage.specs.declared.TheConstants.{DEPTH_LIMIT, MOST_ANIMALS}
use Rattle.herd_advice.proofs.lemmas.FrozenFacts.{known-lineage, long, rank-book}
use Rattle.herd_advice.proofs.book_relationships.Relationships.of.Goals as goal

pub of-requires-clause-rank : goal.of-requires-clause-rank
of-requires-clause-rank g c =
    let its = c.lineage.ensures in
    rw (long DEPTH_LIMIT MOST_ANIMALS c.args.frozen.now its.frozen c.lineage.result.now its.value its.lineage)
    c.requires.rank

pub of-requires-clause-coefficients : goal.of-requires-clause-coefficients
of-requires-clause-coefficients g c =
    let its = c.lineage.ensures in
    known-lineage DEPTH_LIMIT MOST_ANIMALS c.args.frozen.now its.frozen c.lineage.result.now its.value its.lineage
    c.args.coefficients.now c.args.rank c.requires.rank c.requires.coefficients

pub invariant_of-result : goal.invariant_of-result
invariant_of-result g c =
    let its = c.lineage.ensures in
    let same =
    rank-book DEPTH_LIMIT MOST_ANIMALS c.args.frozen.now its.frozen c.lineage.result.now its.value its.lineage
    c.args.rank c.requires.rank in
    (c.requires.rank, rw c.in_ok-column.ensures same)
