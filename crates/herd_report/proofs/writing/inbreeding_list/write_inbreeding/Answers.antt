-- `write_inbreeding`: its loop and its clause `err`.
use Rattle.std.proofs.Common.{◌∙◌, ◌++◌, ap₂}
use Rattle.std.proofs.lemmas.Result.{on_err_weaker}
use Rattle.herd_frozen.specs.declared.TheConstants.{DEPTH_LIMIT}
use Rattle.herd_frozen.specs.declared.freezing.frozen.Row.{Row}
use Rattle.herd_advice.specs.FrozenAncestry.{ancestry_of}
use Rattle.herd_kinship.specs.Table.{coefficient}
use Rattle.herd_text.proofs.lemmas.Exits.{on_err}
use Rattle.herd_report.proofs.lemmas.writing.CertificateFacts.{row_at_rank}
use Rattle.herd_report.proofs.lemmas.writing.CoefficientFacts.{numerator_is, some_coefficient_line}
use Rattle.herd_text.proofs.lemmas.TextFacts.{front_passed, front_waiting, holds_passed}
use Rattle.herd_text.proofs.lemmas.Pieces.{holds_element, some_left}
use Rattle.herd_report.specs.writing.CoefficientLine.{coefficient_line}
use Rattle.herd_report.proofs.writing.inbreeding_list.write_inbreeding.Goals as goal

pub returns-in_err-pass_on-clause-err : goal.returns-in_err-pass_on-clause-err
returns-in_err-pass_on-clause-err g c = on_err c.from_residual.result (front_waiting c.loop-rank.invariant c.in_err-pass_on.ensures.err)

pub returns-in_err-push_line-clause-err : goal.returns-in_err-push_line-clause-err
returns-in_err-push_line-clause-err g c =
    let rows = c.args.frozen.now in
    let at = row_at_rank rows c.loop-rank.rank c.number.result c.number.ensures.number in
    let line = λ (r : Row). coefficient_line r.number (coefficient (ancestry_of rows) DEPTH_LIMIT r.number) in
    let some = some_left line rows c.loop-rank.rank at.0 at.1 (some_coefficient_line at.0.number (coefficient (ancestry_of rows) DEPTH_LIMIT at.0.number)) in
    on_err c.from_residual-in_err-push_line.result (front_passed (holds_passed c.loop-rank.invariant c.in_ok-pass_on.ensures.ok) some)

pub loop-rank-preserved : goal.loop-rank-preserved
loop-rank-preserved g c =
    let rows = c.args.frozen.now in
    let rank = c.loop-rank.rank in
    let at = row_at_rank rows rank c.number.result c.number.ensures.number in
    let line = λ (r : Row). coefficient_line r.number (coefficient (ancestry_of rows) DEPTH_LIMIT r.number) in
    let numerator = c.numerator.ensures.value ∙ numerator_is DEPTH_LIMIT rows c.args.coefficients.now c.requires rank at.0 at.1 in
    let joined = c.in_ok-push_line.ensures ∙ ap₂ (λ number n. c.pass_on.new.self ++ coefficient_line number n) at.2 numerator in
    holds_element line rows rank at.0 (holds_passed c.loop-rank.invariant c.in_ok-pass_on.ensures.ok) at.1 joined

pub returns-clause-err : goal.returns-clause-err
returns-clause-err g c = on_err_weaker c.finish.result (front_waiting c.loop-rank.invariant) c.finish.ensures.err
