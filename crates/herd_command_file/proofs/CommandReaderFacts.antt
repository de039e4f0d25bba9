-- The command of the next record, as the definition of a command file says it.
use Rattle.std.proofs.Common.{◌≡◌, ◌∙◌, ℕ, ◌+◌, ◌<◌, ◌≤◌, List, [], ◌∷◌, ◌++◌, length, true, Option, Some, None, Result, Ok, sym, ap, ltb, length-append, arith}
use Rattle.std.proofs.lemmas.Bool.{cond-false, false≢true, le-ltb}
use Rattle.herd_register.specs.declared.command.Command.{Command}
use Rattle.herd_command_file.specs.CommandFile.{CommandFile, commands_from, one_then}
use Rattle.herd_command_file.specs.CommandReader.{HasGiven, TakesNext}
use Rattle.csv_records.specs.Fields.{Fields}
use Rattle.herd_command_file.specs.Grammar.{command_of}
use Rattle.csv_records.specs.Upcoming.{TakesRecord}
use Rattle.herd_command_file.specs.declared.command_reader.CommandReader.{CommandReader}
use Rattle.herd_command_file.specs.declared.line_fault.LineCause.{LineCause}
use Rattle.herd_command_file.specs.declared.version.Version.{Version}

module _ (version : Version) (most record_number : ℕ) where
  -- a record that isn't too many is one command or a fault
  commands_from-one : (fields : Fields) (rest : List Fields) → record_number ≤ most
      → commands_from version most record_number (fields ∷ rest) ≡ one_then record_number (command_of version fields) (commands_from version most (record_number + 1) rest)
  commands_from-one fields rest below = cond-false (ltb most record_number) _ _ (le-ltb most record_number below)

  -- a record that was taken is this command
  pub takes_command : (old new : Option (List Fields)) (fields : Fields) (command : Command)
      → TakesRecord old new fields true → Ok command ≡ command_of version fields → record_number ≤ most
      → TakesNext version most record_number old new (Ok (Some command))
  takes_command None new fields command takes is below = tt
  takes_command (Some []) new fields command takes is below = absurd (false≢true (sym takes))
  takes_command (Some (first ∷ rest)) new fields command takes is below =
      let gives : command_of version first ≡ Ok command = sym (is ∙ ap (command_of version) takes.1) in (
        rest,
        takes.2,
        commands_from-one first rest below
            ∙ ap (λ (outcome : Result Command LineCause). one_then record_number outcome (commands_from version most (record_number + 1) rest)) gives,
      )

-- a file whose commands were given up to this one has some
pub some_given : {R : Type 0} (remaining : R → Option (List ℕ)) (file : CommandFile) (list : List Command) (command : Command) (reader : CommandReader R)
    → HasGiven remaining file (list ++ command ∷ []) reader → 0 < length file.commands
some_given remaining file list command reader given =
    let rest = (commands_from reader.version reader.most (reader.given + 1) given.rest).commands in
    let whole : file.commands ≡ (list ++ command ∷ []) ++ rest = ap (λ f. f.commands) given.same in
    rw whole (omega (arith, length-append (list ++ command ∷ []) rest, length-append list (command ∷ [])))
