-- Where a reader of commands stands in its file, and what it gives next.
use Rattle.std.specs.Prelude.{◌≡◌, ℕ, ◌+◌, ◌≤◌, List, [], ◌∷◌, ◌++◌, MatchBool, ⊤, IfSome, Option, Some, None, Result, Ok, Err, length}
use Rattle.herd_register.specs.declared.command.Command.{Command}
use Rattle.herd_register.specs.declared.limits.TheConstants.{MOST_STEPS}
use Rattle.herd_command_file.specs.CommandFile.{CommandFile, IsRead, commands_from, fault_at, followed_by}
use Rattle.csv_records.specs.Fields.{Fields}
use Rattle.herd_command_file.specs.LineCause.{is_interruption}
use Rattle.csv_records.specs.Upcoming.{IsSetUp, upcoming}
use Rattle.herd_command_file.specs.declared.command_reader.CommandReader.{CommandReader}
use Rattle.herd_command_file.specs.declared.line_fault.LineCause.{LineCause}
use Rattle.herd_command_file.specs.declared.line_fault.LineFault.{LineFault}
use Rattle.herd_command_file.specs.declared.version.Version.{Version}

-- a reader of at most so many commands that gave this number of them, and came neither to the end nor to a fault
pub record IsReady {R : Type 0} (most given : ℕ) (reader : CommandReader R) : Type 0 where
  pub set_up : IsSetUp reader.records
  pub most_is : reader.most ≡ most
  pub given_is : reader.given ≡ given
  pub within : given ≤ most
  pub few : most ≤ MOST_STEPS

-- a reader that may be asked for the next command
abbrev pub IsOpen : {R : Type 0} → CommandReader R → Type 0
IsOpen reader = IsReady reader.most reader.given reader

-- a reader of a known file that gave its first commands, and has the others still to give
pub record HasGiven {R : Type 0} (remaining : R → Option (List ℕ)) (file : CommandFile) (list : List Command)
    (reader : CommandReader R) : Type 0 where
  pub rest : List Fields
  pub to_come : upcoming remaining reader.records ≡ Some rest
  pub counts : reader.given ≡ length list
  pub same : file ≡ followed_by list (commands_from reader.version reader.most (reader.given + 1) rest)

-- the next command of the file, its end, or its fault
abbrev pub Gives : {R : Type 0} → (R → Option (List ℕ)) → ℕ → CommandFile → List Command → CommandReader R
    → Result (Option Command) LineFault → Type 0
Gives remaining most file list reader (Ok (Some command)) = HasGiven remaining file (list ++ command ∷ []) reader
Gives remaining most file list reader (Ok None) = IsRead most file list None
Gives remaining most file list reader (Err fault) = IsRead most file list (Some fault)

-- a reader that gave nothing of the file yet, or the file's fault in place of a header
abbrev pub Opens : {R : Type 0} → (R → Option (List ℕ)) → ℕ → CommandFile → Result (CommandReader R) LineFault → Type 0
Opens remaining most file (Ok reader) = HasGiven remaining file [] reader
Opens remaining most file (Err fault) = IsRead most file [] (Some fault)

-- where the records to come are known, the first of them, of this number, is this command, or there is none, or it is a
-- fault
abbrev pub TakesNext : Version → ℕ → ℕ → Option (List Fields) → Option (List Fields)
    → Result (Option Command) LineCause → Type 0
TakesNext version most record_number old new (Ok (Some command)) =
    IfSome old (λ records. (rest : List Fields) × (new ≡ Some rest)
    × (commands_from version most record_number records
    ≡ followed_by (command ∷ []) (commands_from version most (record_number + 1) rest)))
TakesNext version most record_number old new (Ok None) = IfSome old (λ records. records ≡ [])
TakesNext version most record_number old new (Err cause) =
    MatchBool (is_interruption cause) ⊤
    (IfSome old (λ records. commands_from version most record_number records ≡ fault_at record_number cause))
