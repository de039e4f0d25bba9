-- What a record asks for, and of whom.
use Rattle.std.specs.Prelude.{◌≡◌, ◌≢◌, ◌⊎◌, ◌+◌, ◌<◌, ℕ, List, [], codes, decimal, slice_get, IfErr, IfOk, IfSome, Result, Ok, Err, Option, Some, None, option_map}
use Rattle.csv.specs.Reading.{default_config, records, strip_bom}
use Rattle.herd_register.specs.declared.command.Command.{Command}
use Rattle.csv_records.specs.Fields.{Fields, field}
use Rattle.herd_command_file.specs.Grammar.{command_behind}
use Rattle.herd_command_file.specs.declared.line_fault.LineCause.{LineCause}
use Rattle.herd_requests.specs.Questions.{CanBeUnread, IsAskedIn}
use Rattle.herd_requests.specs.Tag.{IsTag}
use Rattle.herd_requests.specs.declared.fault.Fault.{Fault as WhyNot}
use Rattle.herd_requests.specs.declared.fault.Fault.TheVariants as fault
use Rattle.herd_requests.specs.declared.question.Question.{Question}

-- the records of an input, where its bytes are known
abbrev pub records_in : Option (List ℕ) → Option (List Fields)
records_in known = option_map (λ bytes. records default_config (strip_bom bytes)) known

-- where the records are known, the one that has so many before it has these fields
abbrev pub IsRecordAt : Option (List Fields) → ℕ → Fields → Type 0
IsRecordAt known before fields = IfSome known (λ all. slice_get all before ≡ Some fields)

-- the text numbers this place from 1 on, of so many
abbrev pub IsNumberOf : List ℕ → ℕ → ℕ → Type 0
IsNumberOf text count place = (place < count) × (text ≡ decimal (place + 1))

-- the text numbers no place of so many
abbrev pub IsNoNumber : List ℕ → ℕ → Type 0
IsNoNumber text count = (place : ℕ) → place < count → text ≢ decimal (place + 1)

-- a command, or why a record has none, as a desk is asked
abbrev pub as_asked : Result Command LineCause → Result Command WhyNot
as_asked (Ok command) = Ok command
as_asked (Err cause) = Err (fault.Fields cause)

-- the command for a desk in a record, behind the tag, `desk` and the desk's number: the fields of version 2 of the
-- command file
abbrev pub command_in : Fields → Result Command WhyNot
command_in fields = as_asked (command_behind 3 fields)

-- the command of a desk's record, or why it has none
abbrev pub IsCommandIn : Fields → Result Command WhyNot → Type 0
IsCommandIn fields wanted = wanted ≡ command_in fields

-- the question of an inspector's record, or why it has none
abbrev pub IsQuestionIn : Fields → Result Question WhyNot → Type 0
IsQuestionIn fields wanted = IfOk wanted (IsAskedIn fields) × IfErr wanted (CanBeUnread fields)

-- the record that has so many before it asks this of whom the word and the number name, or doesn't, and why
pub record IsAskedOf {T : Type 0} (word : List ℕ) (IsWanted : Fields → Result T WhyNot → Type 0)
    (known : Option (List Fields)) (before number : ℕ) (tag : List ℕ) (wanted : Result T WhyNot) : Type 0 where
  pub fields : Fields
  pub there : IsRecordAt known before fields
  pub tag_is : field 0 fields ≡ tag
  pub word_is : field 1 fields ≡ word
  pub number_is : field 2 fields ≡ decimal number
  pub wanted_is : IsWanted fields wanted

-- the same of a desk
abbrev pub IsAskedOfDesk : Option (List Fields) → ℕ → ℕ → List ℕ → Result Command WhyNot → Type 0
IsAskedOfDesk known before desk tag wanted = IsAskedOf (codes "desk") IsCommandIn known before desk tag wanted

-- the same of an inspector
abbrev pub IsAskedOfInspector : Option (List Fields) → ℕ → ℕ → List ℕ → Result Question WhyNot → Type 0
IsAskedOfInspector known before inspector tag wanted =
    IsAskedOf (codes "inspector") IsQuestionIn known before inspector tag wanted

-- the text of a tag, or nothing
abbrev pub tag_text : Option (List ℕ) → List ℕ
tag_text None = []
tag_text (Some tag) = tag

-- the tag of a record, or the empty one where it has none
abbrev pub IsTagOf : Fields → List ℕ → Type 0
IsTagOf fields tag = (field 0 fields ≡ tag) ⊎ ((IsTag (field 0 fields) → ⊥) × (tag ≡ []))

-- the tag is that of a record
pub record IsTagThere (known : Option (List Fields)) (tag : List ℕ) : Type 0 where
  pub before : ℕ
  pub fields : Fields
  pub there : IsRecordAt known before fields
  pub tag_is : IsTagOf fields tag
