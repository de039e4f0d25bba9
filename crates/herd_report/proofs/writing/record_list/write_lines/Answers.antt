-- `write_lines`: its loop and its clause `err`.
use Rattle.std.proofs.lemmas.Result.{on_err_weaker}
use Rattle.herd_frozen.proofs.lemmas.ListFacts.{slice_get-item}
use Rattle.herd_frozen.specs.freezing.Frozen.{book_of}
use Rattle.herd_text.proofs.lemmas.Exits.{on_err}
use Rattle.herd_text.proofs.lemmas.TextFacts.{front_passed, front_waiting, holds_passed}
use Rattle.herd_text.proofs.lemmas.Pieces.{holds_element, some_left}
use Rattle.herd_report.specs.writing.RecordList.{line_under}
use Rattle.herd_report.proofs.writing.record_list.write_lines.Goals as goal

pub returns-in_err-pass_on-clause-err : goal.returns-in_err-pass_on-clause-err
returns-in_err-pass_on-clause-err g c = on_err c.from_residual.result (front_waiting c.loop-number.invariant c.in_err-pass_on.ensures.err)

pub returns-in_err-push_line_under-clause-err : goal.returns-in_err-push_line_under-clause-err
returns-in_err-push_line_under-clause-err g c =
    let numbers = c.args.numbers.now in
    let place = c.loop-number.number-index in
    let line = line_under (book_of c.args.frozen.now) in
    let there = slice_get-item numbers place c.number-item.result c.loop-number-test.true c.number-item.is in
    let some = some_left line numbers place c.number-item.result there c.in_err-push_line_under.ensures.some in
    on_err c.from_residual-in_err-push_line_under.result (front_passed (holds_passed c.loop-number.invariant c.in_ok-pass_on.ensures.ok) some)

pub loop-number-preserved : goal.loop-number-preserved
loop-number-preserved g c =
    let numbers = c.args.numbers.now in
    let place = c.loop-number.number-index in
    holds_element (line_under (book_of c.args.frozen.now)) numbers place c.number-item.result
    (holds_passed c.loop-number.invariant c.in_ok-pass_on.ensures.ok)
    (slice_get-item numbers place c.number-item.result c.loop-number-test.true c.number-item.is) c.in_ok-push_line_under.ensures.made

pub returns-clause-err : goal.returns-clause-err
returns-clause-err g c = on_err_weaker c.finish.result (front_waiting c.loop-number.invariant) c.finish.ensures.err
