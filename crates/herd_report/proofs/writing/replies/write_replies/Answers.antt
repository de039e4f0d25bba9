-- `write_replies`: its loop and its clause `err`.
use Rattle.std.proofs.Common.{◌+◌, drop}
use Rattle.std.proofs.lemmas.Result.{on_err_weaker}
use Rattle.herd_text.proofs.lemmas.Exits.{on_err}
use Rattle.herd_text.proofs.lemmas.TextFacts.{front_passed, front_waiting, holds_passed, holds_piece, some_before}
use Rattle.herd_report.proofs.lemmas.writing.ReplyLines.{reply_lines_from-drop, some_reply_line}
use Rattle.herd_report.specs.writing.Replies.{reply_line, reply_lines_from}
use Rattle.herd_report.proofs.writing.replies.write_replies.Goals as goal

pub returns-in_err-pass_on-clause-err : goal.returns-in_err-pass_on-clause-err
returns-in_err-pass_on-clause-err g c = on_err c.from_residual.result (front_waiting c.loop-place.invariant c.in_err-pass_on.ensures.err)

pub returns-in_err-push_reply-clause-err : goal.returns-in_err-push_reply-clause-err
returns-in_err-push_reply-clause-err g c =
    let place = c.loop-place.place in
    let step = c.index-steps-place.result in
    let after = reply_lines_from (place + 1 + 1) (drop (place + 1) c.args.steps.now) in
    let split = reply_lines_from-drop c.args.steps.now place step c.loop-place-test.true c.index-steps-place.is in
    let some = some_before (reply_line (place + 1) step.reply) after (some_reply_line (place + 1) step.reply) in
    on_err c.from_residual-in_err-push_reply.result (front_passed (holds_passed c.loop-place.invariant c.in_ok-pass_on.ensures.ok) (rw split some))

pub loop-place-preserved : goal.loop-place-preserved
loop-place-preserved g c =
    let place = c.loop-place.place in
    let step = c.index-steps-place.result in
    let after = reply_lines_from (place + 1 + 1) (drop (place + 1) c.args.steps.now) in
    let split = reply_lines_from-drop c.args.steps.now place step c.loop-place-test.true c.index-steps-place.is in
    holds_piece (reply_line (place + 1) step.reply) after (holds_passed c.loop-place.invariant c.in_ok-pass_on.ensures.ok) split c.in_ok-push_reply.ensures

pub returns-clause-err : goal.returns-clause-err
returns-clause-err g c = on_err_weaker c.finish.result (front_waiting c.loop-place.invariant) c.finish.ensures.err
