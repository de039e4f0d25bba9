-- `push_rank`: a number that is in the book has its rank among the others, and one that isn't has none.
use Rattle.herd_lineage.specs.declared.TheConstants.{DEPTH_LIMIT, MOST_ANIMALS}
use Rattle.herd_advice.proofs.lemmas.FrozenFacts.{ranks-absent, ranks-more}
use Rattle.herd_advice.proofs.book_coefficients.push_rank.Goals as goal

pub returns-in_ok-push-in-Some : goal.returns-in_ok-push-in-Some
returns-in_ok-push-in-Some g c = λ numbers are.
    rw c.in_ok-push-in-Some.ensures.items
    (ranks-more DEPTH_LIMIT MOST_ANIMALS c.args.frozen.now c.in-Some.ensures.frozen numbers c.args.ranks.now.items c.args.number c.in-Some.rank
    c.in-Some.ensures.rank c.in-Some.ensures.within are)

pub returns-in-None : goal.returns-in-None
returns-in-None g c = λ numbers are. ranks-absent c.args.frozen.now numbers c.args.ranks.now.items c.args.number c.in-None.ensures.absent are
