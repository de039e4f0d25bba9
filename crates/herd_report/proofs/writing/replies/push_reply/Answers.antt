-- `push_reply`: the line of a reply is its serial and what follows.
use Rattle.std.proofs.Common.{◌≡◌, ◌∙◌, ℕ, List, ◌++◌, ap, append_assoc, decimal}
use Rattle.std.proofs.lemmas.Result.{IfOk-equal}
use Rattle.herd_register.specs.declared.reply.Reply.{Reply}
use Rattle.herd_register.specs.declared.reply.Reply.TheVariants.{Accepted, Refused}
use Rattle.herd_report.specs.writing.RefusedText.{refused_line_end}
use Rattle.herd_report.specs.writing.Replies.{reply_line, reply_line_end}
use Rattle.herd_report.proofs.writing.replies.push_reply.Goals as goal

-- what follows a serial makes the line with it
joined : (old new : List ℕ) (serial : ℕ) (reply : Reply) → new ≡ old ++ decimal serial → new ++ reply_line_end reply ≡ old ++ reply_line serial reply
joined old new serial reply is = ap (λ text. text ++ reply_line_end reply) is ∙ append_assoc old (decimal serial) (reply_line_end reply)

pub returns-in-Accepted : goal.returns-in-Accepted
returns-in-Accepted g c =
    let number : c.push_number.new.self ≡ c.args.text.now ++ decimal c.args.serial = c.in_ok-push_number.ensures in
    rw c.in-Accepted.is
    (IfOk-equal c.push.result c.push.new.self (c.push_number.new.self ++ reply_line_end Accepted) _ c.push.ensures
    (joined c.args.text.now c.push_number.new.self c.args.serial Accepted number))

pub returns-in-Refused : goal.returns-in-Refused
returns-in-Refused g c =
    let number : c.push_number.new.self ≡ c.args.text.now ++ decimal c.args.serial = c.in_ok-push_number.ensures in
    let refusal = c.in-Refused.refusal in
    rw c.in-Refused.is
    (IfOk-equal c.push_refused_line_end.result c.push_refused_line_end.new.text (c.push_number.new.self ++ refused_line_end c.number.result) _ c.push_refused_line_end.ensures
    (ap (λ n. c.push_number.new.self ++ refused_line_end n) c.number.ensures ∙ joined c.args.text.now c.push_number.new.self c.args.serial (Refused refusal) number))
