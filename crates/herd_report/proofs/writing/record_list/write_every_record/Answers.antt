-- `write_every_record`: its loop and its clause `err`.
use Rattle.std.proofs.lemmas.Result.{on_err_weaker}
use Rattle.herd_frozen.specs.declared.freezing.frozen.Row.{Row}
use Rattle.herd_text.proofs.lemmas.Exits.{on_err}
use Rattle.herd_text.proofs.lemmas.TextFacts.{front_passed, front_waiting, holds_passed}
use Rattle.herd_text.proofs.lemmas.Pieces.{holds_element, some_left}
use Rattle.herd_report.proofs.lemmas.writing.RecordFacts.{some_record_line}
use Rattle.herd_record_line.specs.RecordLine.{record_line}
use Rattle.herd_report.proofs.writing.record_list.write_every_record.Goals as goal

pub returns-in_err-pass_on-clause-err : goal.returns-in_err-pass_on-clause-err
returns-in_err-pass_on-clause-err g c = on_err c.from_residual.result (front_waiting c.loop-rank.invariant c.in_err-pass_on.ensures.err)

pub returns-in_err-push_record_line-clause-err : goal.returns-in_err-push_record_line-clause-err
returns-in_err-push_record_line-clause-err g c =
    let rows = c.args.frozen.now in
    let row = c.row-row.result in
    let line = λ (r : Row). record_line r.number r.animal in
    let some = some_left line rows c.loop-rank.rank row c.row-row.ensures.row (some_record_line row.number row.animal) in
    on_err c.from_residual-in_err-push_record_line.result (front_passed (holds_passed c.loop-rank.invariant c.in_ok-pass_on.ensures.ok) some)

pub loop-rank-preserved : goal.loop-rank-preserved
loop-rank-preserved g c =
    let line = λ (r : Row). record_line r.number r.animal in
    holds_element line c.args.frozen.now c.loop-rank.rank c.row-row.result
    (holds_passed c.loop-rank.invariant c.in_ok-pass_on.ensures.ok) c.row-row.ensures.row c.in_ok-push_record_line.ensures

pub returns-clause-err : goal.returns-clause-err
returns-clause-err g c = on_err_weaker c.finish.result (front_waiting c.loop-rank.invariant) c.finish.ensures.err
