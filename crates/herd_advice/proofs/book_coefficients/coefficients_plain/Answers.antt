-- `coefficients_plain`: its result.
use Rattle.std.proofs.lemmas.Result.{IfOk-weaker}
use Rattle.herd_lineage.specs.declared.TheConstants.{DEPTH_LIMIT, MOST_ANIMALS}
use Rattle.herd_advice.proofs.lemmas.FrozenFacts.{coefficients-book}
use Rattle.herd_advice.proofs.book_coefficients.coefficients_plain.Goals as goal

pub returns : goal.returns
returns g c =
    let its = c.lineage.ensures in
    IfOk-weaker c.coefficients_plain.result _ _ (coefficients-book DEPTH_LIMIT MOST_ANIMALS c.args.frozen.now its.frozen c.lineage.result.now its.value its.lineage) c.coefficients_plain.ensures
