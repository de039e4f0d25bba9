-- What a session leaves, and how it may end early.
use Rattle.std.specs.Prelude.{◌≡◌, ◌⊎◌, ⊤, ◌+◌, ◌-◌, ◌^◌, ◌≤◌, ℕ, true, List, [], ◌++◌, length, min, slice_get, sum_by, Option, Some, All, IfSome, Result, Ok, Err}
use Rattle.std.specs.Io.KnownBytes.{Appends}
use Rattle.herd_office.specs.Filed.{commands_at}
use Rattle.herd_office.specs.Histories.{Apart, of_desk}
use Rattle.herd_office.specs.declared.faults.OpenFault.{OpenFault}
use Rattle.herd_office.specs.declared.faults.OpenFault.TheVariants as opening
use Rattle.herd_register.specs.Limits.{Limits}
use Rattle.herd_register.specs.Register.{Register, register_book}
use Rattle.herd_register.specs.Run.{IsLegal, commands_of, run_book}
use Rattle.herd_register.specs.declared.step.Step.{Step}
use Rattle.csv_records.specs.Fields.{Fields}
use Rattle.herd_command_file.specs.LineCause.{is_interruption}
use Rattle.herd_command_file.specs.declared.line_fault.LineFault.{LineFault}
use Rattle.herd_text.specs.Text.{PassesOn}
use Rattle.herd_session.specs.Answers.{IsAnswer, closed_line, joined}
use Rattle.herd_session.specs.Filed.{AreAskedInTurn}
use Rattle.herd_session.specs.declared.session_fault.SessionFault.{SessionFault}
use Rattle.herd_session.specs.declared.session_fault.SessionFault.TheVariants.{Line, Memory, NoPlace, NoThread, Write}

-- the fault of a session for one of opening its office
abbrev pub fault_of_opening : OpenFault → SessionFault
fault_of_opening opening.Memory = Memory
fault_of_opening opening.NoPlace = NoPlace

-- the last line of a register's session
abbrev pub last_line : Register → List ℕ
last_line register = closed_line (length register.journal) (length (register_book register))

-- a legal journal has the steps of these desks, whose numbers differ, and no others; for the commands of each records
-- asked it, in their order
pub record IsOfDesks (records : Option (List Fields)) (journal : List Step) (numbers : List ℕ) : Type 0 where
  pub apart : Apart numbers
  pub sum : length journal ≡ sum_by (λ number. of_desk number journal) numbers
  pub in_turn : (place number : ℕ) → slice_get numbers place ≡ Some number
      → ∥ AreAskedInTurn records number (commands_at number journal) ∥₁

-- the answers of a legal journal were written, and the last line, which tells its steps and its animals; its steps are
-- of the desks, each desk's in the order in which it was asked
pub record IsClosedSession (limits : Limits) (records : Option (List Fields))
    (old new : Option (List ℕ)) : Type 0 where
  pub journal : List Step
  pub legal : IsLegal limits journal
  pub numbers : List ℕ
  pub of_desks : IsOfDesks records journal numbers
  pub answers : List (List ℕ)
  pub each : All (IsAnswer limits records journal) answers
  pub written : Appends old new
      (joined answers ++ closed_line (length journal) (length (run_book limits (commands_of journal))))

-- the last line of some journal, or nothing
abbrev pub IsEnding : Limits → List Step → List ℕ → Type 0
IsEnding limits journal ending =
    (ending ≡ []) ⊎ (ending ≡ closed_line (length journal) (length (run_book limits (commands_of journal))))

-- answers of a legal journal were written, and the last line or not, but for some rest
pub record EndsEarly (limits : Limits) (records : Option (List Fields)) (old new : Option (List ℕ)) : Type 0 where
  pub journal : List Step
  pub legal : IsLegal limits journal
  pub answers : List (List ℕ)
  pub each : All (IsAnswer limits records journal) answers
  pub ending : List ℕ
  pub last : IsEnding limits journal ending
  pub rest : List ℕ
  pub written : PassesOn old new (joined answers ++ ending) rest

-- answers of a legal journal were written whole, and no last line
pub record EndsUnclosed (limits : Limits) (records : Option (List Fields)) (old new : Option (List ℕ)) : Type 0 where
  pub journal : List Step
  pub legal : IsLegal limits journal
  pub answers : List (List ℕ)
  pub each : All (IsAnswer limits records journal) answers
  pub written : Appends old new (joined answers)

-- the input breaks off at the record with this number: so many before it were read
pub record BreaksOff (records : Option (List Fields)) (fault : LineFault) : Type 0 where
  pub before : ℕ
  pub there : IfSome records (λ all. before ≤ length all)
  pub number : fault.record_number ≡ min before (2 ^ 32 - 2) + 1
  pub cause : is_interruption fault.cause ≡ true

-- a fault by which the work may stop: that of a record is one at which the input breaks off
abbrev pub CanStop : Option (List Fields) → SessionFault → Type 0
CanStop records (Line fault) = BreaksOff records fault
CanStop records NoThread = ⊤
CanStop records Memory = ⊤
CanStop records Write = ⊤
CanStop records NoPlace = ⊤

-- how a session ends early, by its cause: but for a failed write all answers are whole
abbrev pub EndsBy : Limits → Option (List Fields) → Option (List ℕ) → Option (List ℕ) → SessionFault → Type 0
EndsBy limits records old new (Line fault) = EndsUnclosed limits records old new × BreaksOff records fault
EndsBy limits records old new NoThread = EndsUnclosed limits records old new
EndsBy limits records old new Memory = EndsUnclosed limits records old new
EndsBy limits records old new Write = EndsEarly limits records old new
EndsBy limits records old new NoPlace = EndsUnclosed limits records old new

-- how a session ends
abbrev pub Ends : {T : Type 0} → Limits → Option (List Fields) → Option (List ℕ) → Option (List ℕ)
    → Result T SessionFault → Type 0
Ends limits records old new (Ok done) = IsClosedSession limits records old new
Ends limits records old new (Err fault) = EndsBy limits records old new fault
