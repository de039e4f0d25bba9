-- `write_inverse`: its loop and its clauses `err` and `ok`.
use Rattle.std.proofs.Common.{◌<◌, ◌≤◌, length, arith}
use Rattle.std.specs.List.{range_with_len}
use Rattle.std.proofs.lemmas.List.{drop_all}
use Rattle.std.proofs.lemmas.List.FromFn.{length-range_with_len}
use Rattle.std.proofs.lemmas.Result.{on_err_weaker, on_ok_weaker}
use Rattle.herd_frozen.proofs.lemmas.ListFacts.{slice_get-range}
use Rattle.herd_text.proofs.lemmas.Exits.{on_err}
use Rattle.herd_text.proofs.lemmas.TextFacts.{appends_waiting, front_passed, front_waiting, holds_passed}
use Rattle.herd_text.proofs.lemmas.Pieces.{holds_element, some_left}
use Rattle.herd_report.proofs.lemmas.writing.ContributionFacts.{some_contributions_text}
use Rattle.herd_report.specs.writing.InverseList.{contributions_text}
use Rattle.herd_report.proofs.writing.inverse_list.write_inverse.Goals as goal

pub returns-in_err-pass_on-clause-err : goal.returns-in_err-pass_on-clause-err
returns-in_err-pass_on-clause-err g c = on_err c.from_residual.result (front_waiting c.loop-rank.invariant c.in_err-pass_on.ensures.err)

pub returns-in_err-push_contributions-clause-err : goal.returns-in_err-push_contributions-clause-err
returns-in_err-push_contributions-clause-err g c =
    let rows = c.args.frozen.now in
    let rank = c.loop-rank.rank in
    let within : rank < length rows = omega arith in
    let some = some_left (contributions_text rows) (range_with_len 0 (length rows)) rank rank (slice_get-range (length rows) rank within) (some_contributions_text rows rank) in
    on_err c.from_residual-in_err-push_contributions.result (front_passed (holds_passed c.loop-rank.invariant c.in_ok-pass_on.ensures.ok) some)

pub loop-rank-preserved : goal.loop-rank-preserved
loop-rank-preserved g c =
    let rows = c.args.frozen.now in
    let rank = c.loop-rank.rank in
    let within : rank < length rows = omega arith in
    holds_element (contributions_text rows) (range_with_len 0 (length rows)) rank rank
    (holds_passed c.loop-rank.invariant c.in_ok-pass_on.ensures.ok) (slice_get-range (length rows) rank within) c.in_ok-push_contributions.ensures

pub returns-clause-err : goal.returns-clause-err
returns-clause-err g c = on_err_weaker c.finish.result (front_waiting c.loop-rank.invariant) c.finish.ensures.err

pub returns-clause-ok : goal.returns-clause-ok
returns-clause-ok g c =
    let rows = c.args.frozen.now in
    let rank = c.loop-rank.rank in
    let past : length (range_with_len 0 (length rows)) ≤ rank = rw (length-range_with_len 0 (length rows)) (omega arith) in
    let held = rw (drop_all rank (range_with_len 0 (length rows)) past) at c.loop-rank.invariant in
    on_ok_weaker c.finish.result (λ written. appends_waiting (g.W.Write.contents c.finish.new.writer) held written) c.finish.ensures.ok
