-- The pieces of a reply are its text.
use Rattle.std.proofs.Common.{◌≡◌, ◌∙◌, ◌++◌, List, ℕ, ap, append_assoc, decimal, length, subst, sym}
use Rattle.std.proofs.Math.Logic.{∥∥₁_map}
use Rattle.std.specs.Prelude.{codes}
use Rattle.herd_register.specs.Refusal.{refusal_number}
use Rattle.herd_register.specs.declared.reply.Reply.{Reply}
use Rattle.herd_register.specs.declared.reply.Reply.TheVariants.{Accepted, Refused}
use Rattle.herd_session.proofs.AskedFacts.{reply_answers}
use Rattle.herd_report.specs.writing.Replies.{reply_line}
use Rattle.herd_session.specs.Answers.{reply_text}
use Rattle.herd_session.proofs.output.Output.reply.Goals as goal

pub write-requires : goal.write-requires
write-requires g c =
    let task = c.args.task.now in
    let filed = c.args.filed.now in
    let steps = length filed.slip.history in
    let tag : c.text.result.now ≡ task.tag = c.text.ensures in
    let serial : c.as_bytes-serial.result.now ≡ decimal steps = c.as_bytes-serial.ensures.value ∙ c.format.ensures.text ∙ ap decimal c.requires.serial in
    let text = c.text.result.now ++ (codes "," ++ (c.as_bytes-serial.result.now ++ codes ",accepted\n")) in
    let told : text ≡ reply_text task.tag steps Accepted =
    ap (λ (t : List ℕ). t ++ (codes "," ++ (c.as_bytes-serial.result.now ++ codes ",accepted\n"))) tag
    ∙ ap (λ (s : List ℕ). task.tag ++ (codes "," ++ (s ++ codes ",accepted\n"))) serial
    ∙ sym (append_assoc task.tag (codes ",") (reply_line steps Accepted)) in
    ∥∥₁_map task.asked
    (λ asked.
    reply_answers g.N.OfficeName.limits g.N.SessionName.records task.before task.number task.tag task.wanted filed.slip.history filed.reply text
    asked c.requires.wanted c.requires.ends c.requires.legal
    (subst (λ (r : Reply). text ≡ reply_text task.tag steps r) (sym c.in-Accepted.is) told))

pub write-requires-in-Refused : goal.write-requires-in-Refused
write-requires-in-Refused g c =
    let task = c.args.task.now in
    let filed = c.args.filed.now in
    let steps = length filed.slip.history in
    let refusal = c.in-Refused.refusal in
    let tag : c.text-in-Refused.result.now ≡ task.tag = c.text-in-Refused.ensures in
    let serial : c.as_bytes-serial.result.now ≡ decimal steps = c.as_bytes-serial.ensures.value ∙ c.format.ensures.text ∙ ap decimal c.requires.serial in
    let number : c.as_bytes-number.result.now ≡ decimal (refusal_number refusal) =
    c.as_bytes-number.ensures.value ∙ c.format-in-Refused.ensures.text ∙ ap decimal c.number.ensures in
    let text = c.text-in-Refused.result.now ++ (codes "," ++ (c.as_bytes-serial.result.now ++ (codes ",refused," ++ (c.as_bytes-number.result.now ++ codes "\n")))) in
    let told : text ≡ reply_text task.tag steps (Refused refusal) =
    ap (λ (t : List ℕ). t ++ (codes "," ++ (c.as_bytes-serial.result.now ++ (codes ",refused," ++ (c.as_bytes-number.result.now ++ codes "\n"))))) tag
    ∙ ap (λ (s : List ℕ). task.tag ++ (codes "," ++ (s ++ (codes ",refused," ++ (c.as_bytes-number.result.now ++ codes "\n"))))) serial
    ∙ ap (λ (n : List ℕ). task.tag ++ (codes "," ++ (decimal steps ++ (codes ",refused," ++ (n ++ codes "\n"))))) number
    ∙ sym (append_assoc task.tag (codes ",") (reply_line steps (Refused refusal))) in
    ∥∥₁_map task.asked
    (λ asked.
    reply_answers g.N.OfficeName.limits g.N.SessionName.records task.before task.number task.tag task.wanted filed.slip.history filed.reply text
    asked c.requires.wanted c.requires.ends c.requires.legal
    (subst (λ (r : Reply). text ≡ reply_text task.tag steps r) (sym c.in-Refused.is) told))
