-- Answers to what records ask.
use Rattle.std.proofs.Common.{◌≡◌, ◌≢◌, inl, inr, ℕ, List, Option, Result, Ok, Err, length, refl, subst, arith}
use Rattle.std.specs.Prelude.{IfOk, IsOk}
use Rattle.std.proofs.lemmas.Bool.{false≢true}
use mathlib.Core.List.{IsPrefix}
use Rattle.herd_office.proofs.Fronts.{prefix_self, prefix_shorter, prefix_whole}
use Rattle.herd_office.specs.Filing.{EndsWith}
use Rattle.herd_register.specs.Limits.{Limits}
use Rattle.herd_register.specs.Run.{IsLegal}
use Rattle.herd_register.specs.declared.command.Command.{Command}
use Rattle.herd_register.specs.declared.reply.Reply.{Reply}
use Rattle.herd_register.specs.declared.step.Step.{Step}
use Rattle.csv_records.specs.Fields.{Fields}
use Rattle.herd_session.specs.Answers.{IsAnswer, IsAnswered, IsReport, fault_text, reply_text}
use Rattle.herd_requests.specs.Requests.{IsAskedOfDesk, IsAskedOfInspector, IsTagThere}
use Rattle.herd_requests.specs.declared.fault.Fault.{Fault as WhyNot}
use Rattle.herd_requests.specs.declared.question.Question.{Question}
use Rattle.herd_requests.specs.declared.question.Question.TheVariants.{Inbreeding, Inverse, Certificates, Mating, Relationships, Coefficient, Records, Record, Seal, Sealed, Seen}

-- a reply to a desk's command is an answer
pub reply_answers : (limits : Limits) (records : Option (List Fields)) (before desk : ℕ) (tag : List ℕ) (wanted : Result Command WhyNot)
    (history : List Step) (reply : Reply) (text : List ℕ)
    → IsAskedOfDesk records before desk tag wanted → IsOk wanted
    → IfOk wanted (λ command. EndsWith history desk command reply) → IsLegal limits history
    → text ≡ reply_text tag (length history) reply → IsAnswer limits records history text
reply_answers limits records before desk tag (Ok command) history reply text asked ok ends legal told =
    inl (record {
      before = before;
      desk = desk;
      tag = tag;
      command = command;
      asked = asked;
      reply = reply;
      history = history;
      legal = legal;
      begins = prefix_self history;
      ends = ends;
      told = told;
    })
reply_answers limits records before desk tag (Err fault) history reply text asked ok ends legal told = absurd (false≢true ok)

-- a report, but for a length, is what answers the question
pub answered_by_report : (limits : Limits) (history : List Step) (tag : List ℕ) (question : Question) (text : List ℕ)
    → question ≢ Seen → IsReport limits history tag question text → IsAnswered limits history tag question text
answered_by_report limits history tag Inbreeding text other report = report
answered_by_report limits history tag Inverse text other report = report
answered_by_report limits history tag (Certificates numbers) text other report = report
answered_by_report limits history tag (Mating dam sires) text other report = report
answered_by_report limits history tag (Relationships numbers) text other report = report
answered_by_report limits history tag (Coefficient number) text other report = report
answered_by_report limits history tag Records text other report = report
answered_by_report limits history tag (Record number) text other report = report
answered_by_report limits history tag Seal text other report = report
answered_by_report limits history tag (Sealed number) text other report = report
answered_by_report limits history tag Seen text other report = absurd (other refl)

-- what answers an inspector's question is an answer
pub report_answers : (limits : Limits) (records : Option (List Fields)) (before inspector : ℕ) (tag : List ℕ)
    (wanted : Result Question WhyNot) (question : Question) (history : List Step) (text : List ℕ)
    → IsAskedOfInspector records before inspector tag wanted → wanted ≡ Ok question → IsLegal limits history
    → IsAnswered limits history tag question text → IsAnswer limits records history text
report_answers limits records before inspector tag wanted question history text asked is legal told =
    inr (inl (record {
      before = before;
      inspector = inspector;
      tag = tag;
      question = question;
      asked = subst (IsAskedOfInspector records before inspector tag) is asked;
      history = history;
      legal = legal;
      begins = prefix_self history;
      told = told;
    }))

-- a fault that is told is an answer
pub fault_answers : (limits : Limits) (records : Option (List Fields)) (history : List Step) (tag : List ℕ) (fault : WhyNot) (text : List ℕ)
    → IsTagThere records tag → text ≡ fault_text tag fault → IsAnswer limits records history text
fault_answers limits records history tag fault text there told =
    inr (inr (record { tag = tag; there = there; fault = fault; told = told }))

-- two beginnings of one history that are equally long are the same
pub same_history : {A : Type 0} (one other whole : List A) → IsPrefix one whole → IsPrefix other whole → length one ≡ length other
    → one ≡ other
same_history one other whole begins begins_too long =
    prefix_whole one other (prefix_shorter one other whole begins begins_too (omega (arith, long))) (omega (arith, long))
