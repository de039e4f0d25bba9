-- The coefficient at the rank of a number is that of the number. Where the line isn't made, nothing is written.
use Rattle.std.proofs.Common.{◌∙◌, ◌∷◌, [], arith, refl}
use Rattle.herd_frozen.specs.declared.TheConstants.{DEPTH_LIMIT}
use Rattle.herd_advice.specs.FrozenAncestry.{ancestry_of}
use Rattle.herd_advice.proofs.lemmas.FrozenFacts.{knows-itself}
use Rattle.herd_kinship.specs.Table.{coefficient}
use Rattle.herd_text.proofs.lemmas.Exits.{if_err}
use Rattle.herd_report.proofs.lemmas.writing.CertificateFacts.{number_is_there}
use Rattle.herd_report.proofs.lemmas.writing.CoefficientFacts.{some_coefficient_line}
use Rattle.herd_text.proofs.lemmas.TextFacts.{front_nothing}
use Rattle.herd_report.proofs.writing.coefficient_line.write_coefficient.Goals as goal

pub returns-in_err-push_coefficient_line-clause-err : goal.returns-in_err-push_coefficient_line-clause-err
returns-in_err-push_coefficient_line-clause-err g c =
    let there = number_is_there c.args.frozen.now c.in-Some.rank c.args.number c.in-Some.ensures.rank in
    if_err c.from_residual.result _ _ c.from_residual.ensures.1
    (there, front_nothing _ _ (some_coefficient_line c.args.number (coefficient (ancestry_of c.args.frozen.now) DEPTH_LIMIT c.args.number)))

pub returns-in_err-finish-clause-err : goal.returns-in_err-finish-clause-err
returns-in_err-finish-clause-err g c =
    let rows = c.args.frozen.now in
    let stands = c.in-Some.ensures.rank in
    let own = c.numerator.ensures.value ∙ knows-itself DEPTH_LIMIT rows (c.args.number ∷ []) c.args.coefficients.now c.requires c.in-Some.rank c.args.number stands (0, omega arith, refl) in
    let there = number_is_there rows c.in-Some.rank c.args.number stands in
    if_err c.from_residual-in_err-finish.result _ _ c.from_residual-in_err-finish.ensures.1
    (there, rw (c.in_ok-push_coefficient_line.ensures, c.new-text.ensures, own) at c.in_err-finish.ensures.err)

pub returns-in_err-finish-clause-untouched : goal.returns-in_err-finish-clause-untouched
returns-in_err-finish-clause-untouched g c =
    let there = number_is_there c.args.frozen.now c.in-Some.rank c.args.number c.in-Some.ensures.rank in
    λ absent. absurd (cc)

pub returns-clause-ok : goal.returns-clause-ok
returns-clause-ok g c =
    let rows = c.args.frozen.now in
    let stands = c.in-Some.ensures.rank in
    let own = c.numerator.ensures.value ∙ knows-itself DEPTH_LIMIT rows (c.args.number ∷ []) c.args.coefficients.now c.requires c.in-Some.rank c.args.number stands (0, omega arith, refl) in
    let there = number_is_there rows c.in-Some.rank c.args.number stands in
    (there, rw (c.in_ok-push_coefficient_line.ensures, c.new-text.ensures, own) at c.in_ok-finish.ensures.ok)

pub returns-clause-untouched : goal.returns-clause-untouched
returns-clause-untouched g c =
    let there = number_is_there c.args.frozen.now c.in-Some.rank c.args.number c.in-Some.ensures.rank in
    λ absent. absurd (cc)
