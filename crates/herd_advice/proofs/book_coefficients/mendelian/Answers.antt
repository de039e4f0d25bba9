-- `mendelian`: what that of a lineage requires, and its clause `value`.
use Rattle.std.proofs.Common.{sym, ◌∙◌}
use Rattle.herd_lineage.specs.declared.TheConstants.{DEPTH_LIMIT, MOST_ANIMALS}
use Rattle.herd_advice.proofs.lemmas.FrozenFacts.{known-lineage, long, mendelian-book}
use Rattle.herd_advice.proofs.book_coefficients.mendelian.Goals as goal

pub mendelian-requires-clause-rank : goal.mendelian-requires-clause-rank
mendelian-requires-clause-rank g c =
    let its = c.lineage.ensures in
    rw (long DEPTH_LIMIT MOST_ANIMALS c.args.frozen.now its.frozen c.lineage.result.now its.value its.lineage) c.requires.rank

pub mendelian-requires-clause-known : goal.mendelian-requires-clause-known
mendelian-requires-clause-known g c =
    let its = c.lineage.ensures in
    known-lineage DEPTH_LIMIT MOST_ANIMALS c.args.frozen.now its.frozen c.lineage.result.now its.value its.lineage c.args.known.now c.args.rank c.requires.rank c.requires.known

pub returns-clause-value : goal.returns-clause-value
returns-clause-value g c =
    let its = c.lineage.ensures in
    c.mendelian.ensures.value ∙ sym (mendelian-book DEPTH_LIMIT MOST_ANIMALS c.args.frozen.now its.frozen c.lineage.result.now its.value its.lineage c.args.rank c.requires.rank)
