-- `coefficients_of`: what that of a lineage requires, and its result.
use Rattle.std.proofs.Common.{◌≡◌}
use Rattle.std.proofs.lemmas.Result.{IfOk-weaker}
use Rattle.herd_lineage.specs.declared.TheConstants.{DEPTH_LIMIT, MOST_ANIMALS}
use Rattle.herd_advice.proofs.lemmas.FrozenFacts.{coefficients-numbers, long}
use Rattle.herd_advice.proofs.book_coefficients.coefficients_of.Goals as goal

pub coefficients_of-requires : goal.coefficients_of-requires
coefficients_of-requires g c =
    let its = c.lineage.ensures in
    let same : c.deref.result.now ≡ c.in_ok-ranks.ranks.items = c.deref.ensures.value in
    λ k d within. rw (long DEPTH_LIMIT MOST_ANIMALS c.args.frozen.now its.frozen c.lineage.result.now its.value its.lineage, same)
    (c.in_ok-ranks.ensures.within k d (rw (← same) within))

pub returns : goal.returns
returns g c =
    let its = c.lineage.ensures in
    IfOk-weaker c.coefficients_of.result _ _
    (λ list are. coefficients-numbers DEPTH_LIMIT MOST_ANIMALS c.args.frozen.now its.frozen c.lineage.result.now its.value its.lineage c.args.numbers.now c.in_ok-ranks.ranks.items list
    c.in_ok-ranks.ensures are)
    (rw c.deref.ensures.value at c.coefficients_of.ensures)
