use Rattle.std.proofs.Common.{inl}
use Rattle.std.specs.Prelude.{IfOk}
use Rattle.herd_seal.specs.Answer.{IsReasoned, IsUnreadable}
use Rattle.herd_seal.proofs.AnswerFacts.{if_known_too, refused_why}
use Rattle.herd_seal.proofs.answer.push_answer.Goals as goal

pub returns-in-Err-clause-why : goal.returns-in-Err-clause-why
returns-in-Err-clause-why g c =
    if_known_too (λ bytes. IsUnreadable bytes c.in-Err.fault)
    (λ bytes. IfOk c.push_refused.result (λ accepted. IsReasoned c.args.seal.now bytes accepted c.push_refused.new.text))
    (g.R.Read.remaining c.args.reader)
    (λ bytes why. refused_why c.args.seal.now bytes c.push_refused.new.text c.in-Err.fault c.push_refused.result
    c.push_refused.ensures.text (inl why))
    c.in-Err.ensures.fault
