-- `coefficients_by_sires`: its clauses.
use Rattle.std.proofs.Common.{List, subst}
use Rattle.std.proofs.lemmas.Result.{IfOk-weaker}
use Rattle.herd_lineage.specs.declared.lineage.Parents.{Parents}
use Rattle.herd_lineage.specs.declared.TheConstants.{DEPTH_LIMIT, MOST_ANIMALS}
use Rattle.herd_pool.specs.Sires.{HasLevelToShare}
use Rattle.herd_advice.proofs.lemmas.FrozenFacts.{coefficients-book}
use Rattle.herd_book_pool.proofs.workers.coefficients_by_sires.Goals as goal

pub returns-clause-list : goal.returns-clause-list
returns-clause-list g c =
    let its = c.lineage.ensures in
    IfOk-weaker c.coefficients_by_sires.result _ _ (coefficients-book DEPTH_LIMIT MOST_ANIMALS c.args.frozen.now its.frozen c.lineage.result.now its.value its.lineage) c.coefficients_by_sires.ensures.list

pub returns-clause-no_thread : goal.returns-clause-no_thread
returns-clause-no_thread g c = λ none. subst (λ (l : List Parents). HasLevelToShare l c.args.block c.args.workers) c.lineage.ensures.value (c.coefficients_by_sires.ensures.no_thread none)
