-- `contributions`: what that of a lineage requires, and its clauses.
use Rattle.std.proofs.Common.{ap, sym, ◌*◌, ◌^◌, ◌∙◌, false, List, length}
use Rattle.herd_lineage.specs.declared.TheConstants.{DEPTH_LIMIT, MOST_ANIMALS}
use Rattle.herd_kinship.specs.Contributions.{filled}
use Rattle.herd_kinship.specs.declared.contribution.Contribution.{Contribution}
use Rattle.herd_kinship.specs.Fraction.{halved}
use Rattle.herd_advice.proofs.lemmas.ContributionFacts.{contributions-book}
use Rattle.herd_advice.proofs.lemmas.FrozenFacts.{coefficients-lineage, long, mendelian-book}
use Rattle.herd_advice.proofs.book_contributions.contributions.Goals as goal

pub contributions-requires-clause-rank : goal.contributions-requires-clause-rank
contributions-requires-clause-rank g c =
    let its = c.lineage.ensures in
    rw (long DEPTH_LIMIT MOST_ANIMALS c.args.frozen.now its.frozen c.lineage.result.now its.value its.lineage) c.requires.rank

pub contributions-requires-clause-coefficients : goal.contributions-requires-clause-coefficients
contributions-requires-clause-coefficients g c =
    let its = c.lineage.ensures in
    coefficients-lineage DEPTH_LIMIT MOST_ANIMALS c.args.frozen.now its.frozen c.lineage.result.now its.value its.lineage c.args.coefficients.now c.requires.coefficients

pub returns-clause-alpha : goal.returns-clause-alpha
returns-clause-alpha g c =
    let its = c.lineage.ensures in
    c.contributions.ensures.alpha
    ∙ ap (halved false (2 ^ (2 * DEPTH_LIMIT))) (sym (mendelian-book DEPTH_LIMIT MOST_ANIMALS c.args.frozen.now its.frozen c.lineage.result.now its.value its.lineage c.args.rank c.requires.rank))

pub returns-clause-count : goal.returns-clause-count
returns-clause-count g c =
    let its = c.lineage.ensures in
    c.contributions.ensures.count
    ∙ ap (λ (list : List Contribution). length list) (contributions-book DEPTH_LIMIT MOST_ANIMALS c.args.frozen.now its.frozen c.lineage.result.now its.value its.lineage c.args.rank c.requires.rank)

pub returns-clause-list : goal.returns-clause-list
returns-clause-list g c =
    let its = c.lineage.ensures in
    c.contributions.ensures.list
    ∙ ap filled (contributions-book DEPTH_LIMIT MOST_ANIMALS c.args.frozen.now its.frozen c.lineage.result.now its.value its.lineage c.args.rank c.requires.rank)
