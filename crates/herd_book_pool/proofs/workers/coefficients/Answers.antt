-- `coefficients`: its clauses.
use Rattle.std.proofs.Common.{List, subst}
use Rattle.std.proofs.lemmas.Result.{IfOk-weaker}
use Rattle.herd_lineage.specs.declared.lineage.Parents.{Parents}
use Rattle.herd_lineage.specs.declared.TheConstants.{DEPTH_LIMIT, MOST_ANIMALS}
use Rattle.herd_pool.specs.Levels.{HasLongLevel}
use Rattle.herd_advice.proofs.lemmas.FrozenFacts.{coefficients-book}
use Rattle.herd_book_pool.proofs.workers.coefficients.Goals as goal

pub returns-clause-list : goal.returns-clause-list
returns-clause-list g c =
    let its = c.lineage.ensures in
    IfOk-weaker c.coefficients.result _ _ (coefficients-book DEPTH_LIMIT MOST_ANIMALS c.args.frozen.now its.frozen c.lineage.result.now its.value its.lineage) c.coefficients.ensures.list

pub returns-clause-no_thread : goal.returns-clause-no_thread
returns-clause-no_thread g c = λ none. let told = c.coefficients.ensures.no_thread none in (told.0, subst (λ (l : List Parents). HasLongLevel l c.args.block) c.lineage.ensures.value told.1)
