-- What a command file says: its commands before the first fault, and that fault.
use Rattle.std.specs.Prelude.{◌≡◌, ◌⊎◌, ℕ, ◌+◌, List, [], ◌∷◌, ◌++◌, if◌then◌else◌, nat_lt, MatchBool, ⊤, Option, Some, None, Result, Ok, Err, length}
use Rattle.std.specs.Option.{option_map_or}
use Rattle.csv.specs.Reading.{default_config, records, strip_bom}
use Rattle.herd_register.specs.declared.command.Command.{Command}
use Rattle.csv_records.specs.Fields.{Fields}
use Rattle.herd_command_file.specs.Grammar.{command_of, version_of}
use Rattle.herd_command_file.specs.LineCause.{is_interruption}
use Rattle.herd_command_file.specs.declared.line_fault.LineCause.{LineCause}
use Rattle.herd_command_file.specs.declared.line_fault.LineCause.TheVariants as cause
use Rattle.herd_command_file.specs.declared.line_fault.LineFault.{LineFault}
use Rattle.herd_command_file.specs.declared.version.Version.{Version}

-- the commands before the first fault, and that fault
pub record CommandFile : Type 0 where
  pub commands : List Command
  pub fault : Option LineFault

abbrev pub fault_at : ℕ → LineCause → CommandFile
fault_at record_number cause =
    record { commands = []; fault = Some (record { record_number = record_number; cause = cause }) }

-- commands, and what comes after them
abbrev pub followed_by : List Command → CommandFile → CommandFile
followed_by commands rest = record { commands = commands ++ rest.commands; fault = rest.fault }

-- a record of this number that is one command or a fault, and what comes after it
abbrev pub one_then : ℕ → Result Command LineCause → CommandFile → CommandFile
one_then record_number (Ok command) rest = followed_by (command ∷ []) rest
one_then record_number (Err cause) rest = fault_at record_number cause

-- the commands of the records from this number on, of which `most` is the last that may be a command
abbrev pub commands_from : Version → ℕ → ℕ → List Fields → CommandFile
commands_from version most record_number [] = record { commands = []; fault = None }
commands_from version most record_number (fields ∷ rest) =
    if nat_lt most record_number then fault_at record_number cause.TooMany
    else one_then record_number (command_of version fields) (commands_from version most (record_number + 1) rest)

-- the commands under the header
abbrev pub commands_under_header : ℕ → List Fields → CommandFile
commands_under_header most [] = fault_at 0 cause.Header
commands_under_header most (first ∷ rest) =
    option_map_or (λ version. commands_from version most 1 rest) (version_of first) (fault_at 0 cause.Header)

-- the command file in some bytes, with at most `most` commands
abbrev pub commands : List ℕ → ℕ → CommandFile
commands bytes most = commands_under_header most (records default_config (strip_bom bytes))

-- the number of the record after those that were read: the header's at first, and then one more than there are commands
abbrev pub IsNextRecord : List Command → ℕ → Type 0
IsNextRecord list record_number = ((record_number ≡ 0) × (list ≡ [])) ⊎ (record_number ≡ length list + 1)

-- commands are those before the record of this number: none before the header, or else those before the records from it
-- on
abbrev pub IsReadBefore : ℕ → ℕ → List Command → CommandFile → Type 0
IsReadBefore most record_number list file =
    ((record_number ≡ 0) × (list ≡ []))
    ⊎ ((record_number ≡ length list + 1) × (version : Version) × (rest : List Fields)
    × (file ≡ followed_by list (commands_from version most record_number rest)))

-- commands that were read, and a fault, are what the file says, or the commands before an interruption
abbrev pub IsRead : ℕ → CommandFile → List Command → Option LineFault → Type 0
IsRead most file list None = (list ≡ file.commands) × (file.fault ≡ None)
IsRead most file list (Some fault) =
    MatchBool (is_interruption fault.cause)
    (IsReadBefore most fault.record_number list file)
    ((list ≡ file.commands) × (file.fault ≡ Some fault))

-- some commands were read up to this fault, or to the end of the file
abbrev pub IsReadUpTo : ℕ → CommandFile → Option LineFault → Type 0
IsReadUpTo most file fault = (list : List Command) × IsRead most file list fault

-- where the records to come are known, the version whose header the first is, and the others are still to come
abbrev pub TakesHeader : Option (List Fields) → Option (List Fields) → Option Version → Type 0
TakesHeader None new version = ⊤
TakesHeader (Some []) new version = version ≡ None
TakesHeader (Some (first ∷ rest)) new version = (version ≡ version_of first) × (new ≡ Some rest)
