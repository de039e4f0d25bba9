-- Answers as text, and which texts a session may give.
use Rattle.std.specs.Prelude.{◌≡◌, ◌⊎◌, ℕ, ◌==◌, Bool, true, List, [], ◌∷◌, ◌++◌, codes, decimal, length, if◌then◌else◌, All, Option, Ok}
use Rattle.std.specs.List.{flat_map}
use mathlib.Core.List.{IsPrefix}
use Rattle.herd_frozen.specs.freezing.Frozen.{IsFrozenFrom}
use Rattle.herd_frozen.specs.declared.TheConstants.{DEPTH_LIMIT, MOST_ANIMALS}
use Rattle.herd_frozen.specs.declared.freezing.frozen.Row.{Row}
use Rattle.herd_register.specs.Limits.{Limits}
use Rattle.herd_register.specs.Run.{IsLegal, commands_of, run_book}
use Rattle.herd_register.specs.declared.command.Command.{Command}
use Rattle.herd_register.specs.declared.reply.Reply.{Reply}
use Rattle.herd_register.specs.declared.step.Step.{Step}
use Rattle.herd_office.specs.Filing.{EndsWith}
use Rattle.csv_records.specs.Fields.{Fields}
use Rattle.herd_report.specs.writing.Replies.{reply_line}
use Rattle.herd_text.specs.Text.{PassesOn}
use Rattle.herd_requests.specs.Faults.{fault_name}
use Rattle.herd_session.specs.Texts.{text_of}
use Rattle.herd_requests.specs.Requests.{IsAskedOfDesk, IsAskedOfInspector, IsTagThere}
use Rattle.herd_requests.specs.declared.fault.Fault.{Fault as WhyNot}
use Rattle.herd_requests.specs.declared.question.Question.{Question}
use Rattle.herd_requests.specs.declared.question.Question.TheVariants.{Seen}

-- the reply to a command behind its tag
abbrev pub reply_text : List ℕ → ℕ → Reply → List ℕ
reply_text tag serial reply = tag ++ codes "," ++ reply_line serial reply

-- why a request isn't answered, behind its tag
abbrev pub fault_text : List ℕ → WhyNot → List ℕ
fault_text tag fault = tag ++ codes ",fault," ++ fault_name fault ++ codes "\n"

-- the lines of a text, each behind a tag; whether a line begins there
abbrev pub behind_from : List ℕ → Bool → List ℕ → List ℕ
behind_from tag starts [] = []
behind_from tag starts (character ∷ rest) =
    (if starts then tag ++ codes "," else []) ++ character ∷ behind_from tag (character == 10) rest

abbrev pub lines_behind : List ℕ → List ℕ → List ℕ
lines_behind tag text = behind_from tag true text

-- the end of a report on a history of so many steps
abbrev pub end_line : List ℕ → ℕ → List ℕ
end_line tag steps = tag ++ codes ",end," ++ decimal steps ++ codes "\n"

-- a report, each line behind a tag, and its end
abbrev pub report_text : List ℕ → List ℕ → ℕ → List ℕ
report_text tag text steps = lines_behind tag text ++ end_line tag steps

-- the last line, with the steps and the animals
abbrev pub closed_line : ℕ → ℕ → List ℕ
closed_line steps animals = codes "closed," ++ decimal steps ++ codes "," ++ decimal animals ++ codes "\n"

-- the text tells the reply that a desk's call got, for the command that a record asked of the desk: its history is legal
-- and a beginning of the journal
pub record IsReplyTold (limits : Limits) (records : Option (List Fields)) (journal : List Step)
    (text : List ℕ) : Type 0 where
  pub before : ℕ
  pub desk : ℕ
  pub tag : List ℕ
  pub command : Command
  pub asked : IsAskedOfDesk records before desk tag (Ok command)
  pub reply : Reply
  pub history : List Step
  pub legal : IsLegal limits history
  pub begins : IsPrefix history journal
  pub ends : EndsWith history desk command reply
  pub told : text ≡ reply_text tag (length history) reply

-- the text answers a question behind a tag from the frozen book of a history
pub record IsReport (limits : Limits) (history : List Step) (tag : List ℕ) (question : Question)
    (text : List ℕ) : Type 0 where
  pub rows : List Row
  pub frozen : IsFrozenFrom DEPTH_LIMIT MOST_ANIMALS (run_book limits (commands_of history)) rows
  pub told : text ≡ report_text tag (text_of question (length history) rows) (length history)

-- the text answers a question behind a tag: from the frozen book of a history, or with its length
abbrev pub IsAnswered : Limits → List Step → List ℕ → Question → List ℕ → Type 0
IsAnswered limits history tag Seen text = text ≡ end_line tag (length history)
IsAnswered limits history tag question text = IsReport limits history tag question text

-- the text answers the question that a record asked of an inspector, of a legal history that is a beginning of the
-- journal
pub record IsReportTold (limits : Limits) (records : Option (List Fields)) (journal : List Step)
    (text : List ℕ) : Type 0 where
  pub before : ℕ
  pub inspector : ℕ
  pub tag : List ℕ
  pub question : Question
  pub asked : IsAskedOfInspector records before inspector tag (Ok question)
  pub history : List Step
  pub legal : IsLegal limits history
  pub begins : IsPrefix history journal
  pub told : IsAnswered limits history tag question text

-- the text tells why a record isn't answered
pub record IsFaultTold (records : Option (List Fields)) (text : List ℕ) : Type 0 where
  pub tag : List ℕ
  pub there : IsTagThere records tag
  pub fault : WhyNot
  pub told : text ≡ fault_text tag fault

-- an answer of a session to one of these records, where the journal begins so
abbrev pub IsAnswer : Limits → Option (List Fields) → List Step → List ℕ → Type 0
IsAnswer limits records journal text =
    IsReplyTold limits records journal text ⊎ IsReportTold limits records journal text ⊎ IsFaultTold records text

-- answers, one behind the other
abbrev pub joined : List (List ℕ) → List ℕ
joined answers = flat_map (λ answer. answer) answers

-- answers were written, but for some rest of them
pub record AreWritten (limits : Limits) (records : Option (List Fields)) (journal : List Step)
    (old new : Option (List ℕ)) (rest : List ℕ) : Type 0 where
  pub answers : List (List ℕ)
  pub each : All (IsAnswer limits records journal) answers
  pub written : PassesOn old new (joined answers) rest
