-- `trace`: what that of a lineage requires, and its clauses.
use Rattle.std.proofs.Common.{◌*◌, ◌∙◌, List, subst, sym}
use Rattle.std.proofs.lemmas.Result.{IfOk-weaker}
use Rattle.herd_lineage.specs.declared.lineage.Parents.{Parents}
use Rattle.herd_lineage.specs.declared.TheConstants.{DEPTH_LIMIT, MOST_ANIMALS}
use Rattle.herd_kinship.specs.Ranks.{HasUnknownParent}
use Rattle.herd_advice.proofs.lemmas.FrozenFacts.{entry-book, known-lineage, long}
use Rattle.herd_advice.proofs.book_coefficients.trace.Goals as goal

pub trace-requires-clause-rank : goal.trace-requires-clause-rank
trace-requires-clause-rank g c =
    let its = c.lineage.ensures in
    rw (long DEPTH_LIMIT MOST_ANIMALS c.args.frozen.now its.frozen c.lineage.result.now its.value its.lineage) c.requires.rank

pub trace-requires-clause-known : goal.trace-requires-clause-known
trace-requires-clause-known g c =
    let its = c.lineage.ensures in
    known-lineage DEPTH_LIMIT MOST_ANIMALS c.args.frozen.now its.frozen c.lineage.result.now its.value its.lineage c.args.known.now c.args.rank c.requires.rank c.requires.known

pub returns-clause-value : goal.returns-clause-value
returns-clause-value g c =
    let its = c.lineage.ensures in
    IfOk-weaker c.trace.result _ _
    (λ value is. is ∙ sym (entry-book DEPTH_LIMIT MOST_ANIMALS c.args.frozen.now its.frozen c.lineage.result.now its.value its.lineage (2 * DEPTH_LIMIT) c.args.rank c.args.rank c.requires.rank c.requires.rank))
    c.trace.ensures.value

pub returns-clause-unknown : goal.returns-clause-unknown
returns-clause-unknown g c = λ unknown.
    c.trace.ensures.unknown (subst (λ (l : List Parents). HasUnknownParent l c.args.rank) (sym c.lineage.ensures.value) unknown)
