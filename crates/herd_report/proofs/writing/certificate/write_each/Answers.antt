-- `write_each`: what `push_certificate_under` requires, its loop and its clause `err`.
use Rattle.std.proofs.Common.{sym}
use Rattle.std.proofs.lemmas.Result.{on_err_weaker}
use Rattle.herd_advice.proofs.lemmas.FrozenFacts.{known-one}
use Rattle.herd_frozen.specs.declared.TheConstants.{DEPTH_LIMIT}
use Rattle.herd_frozen.proofs.lemmas.ListFacts.{slice_get-item}
use Rattle.herd_text.proofs.lemmas.Exits.{on_err}
use Rattle.herd_text.proofs.lemmas.TextFacts.{front_passed, front_waiting, holds_passed}
use Rattle.herd_text.proofs.lemmas.Pieces.{holds_element, some_left}
use Rattle.herd_report.specs.writing.Certificate.{certificate_of}
use Rattle.herd_report.proofs.writing.certificate.write_each.Goals as goal

pub returns-in_err-pass_on-clause-err : goal.returns-in_err-pass_on-clause-err
returns-in_err-pass_on-clause-err g c = on_err c.from_residual.result (front_waiting c.loop-number.invariant c.in_err-pass_on.ensures.err)

pub returns-in_err-push_certificate_under-clause-err : goal.returns-in_err-push_certificate_under-clause-err
returns-in_err-push_certificate_under-clause-err g c =
    let numbers = c.args.numbers.now in
    let place = c.loop-number.number-index in
    let there = slice_get-item numbers place c.number-item.result c.loop-number-test.true c.number-item.is in
    let some = some_left (certificate_of c.args.frozen.now) numbers place c.number-item.result there c.in_err-push_certificate_under.ensures.some in
    on_err c.from_residual-in_err-push_certificate_under.result (front_passed (holds_passed c.loop-number.invariant c.in_ok-pass_on.ensures.ok) some)

pub push_certificate_under-requires : goal.push_certificate_under-requires
push_certificate_under-requires g c =
    known-one DEPTH_LIMIT c.args.frozen.now c.args.numbers.now c.args.coefficients.now c.requires c.number-item.result
    (c.loop-number.number-index, c.loop-number-test.true, sym c.number-item.is)

pub loop-number-preserved : goal.loop-number-preserved
loop-number-preserved g c =
    let numbers = c.args.numbers.now in
    let place = c.loop-number.number-index in
    holds_element (certificate_of c.args.frozen.now) numbers place c.number-item.result
    (holds_passed c.loop-number.invariant c.in_ok-pass_on.ensures.ok)
    (slice_get-item numbers place c.number-item.result c.loop-number-test.true c.number-item.is) c.in_ok-push_certificate_under.ensures.made

pub returns-clause-err : goal.returns-clause-err
returns-clause-err g c = on_err_weaker c.finish.result (front_waiting c.loop-number.invariant) c.finish.ensures.err
