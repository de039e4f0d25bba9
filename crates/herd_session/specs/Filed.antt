-- What records asked a desk to file, and that it has filed it.
use Rattle.std.specs.Prelude.{◌≡◌, ◌<◌, ℕ, suc, List, map, slice_get, Option, Some, Ok}
use Rattle.herd_office.specs.Filed.{HasFiled}
use Rattle.herd_office.specs.declared.desk.Desk.{Desk}
use Rattle.herd_office.specs.declared.name.OfficeName as office_name
use Rattle.herd_register.specs.declared.command.Command.{Command}
use Rattle.csv_records.specs.Fields.{Fields}
use Rattle.herd_requests.specs.Requests.{IsAskedOfDesk}

-- the record that has so many before it asks the desk for the command
pub record AsksFor (records : Option (List Fields)) (before desk : ℕ) (command : Command) : Type 0 where
  pub tag : List ℕ
  pub asked : IsAskedOfDesk records before desk tag (Ok command)

-- records asked the desk for these commands, each record after the one for the command before; the last of them has
-- less than so many before it
pub record AreAskedBelow (records : Option (List Fields)) (next desk : ℕ) (commands : List Command) : Type 0 where
  pub asked : List (ℕ × Command)
  pub each : (place : ℕ) (one : ℕ × Command) → slice_get asked place ≡ Some one → AsksFor records one.0 desk one.1
  pub ascends : (place : ℕ) (one other : ℕ × Command) → slice_get asked place ≡ Some one
      → slice_get asked (suc place) ≡ Some other → one.0 < other.0
  pub below : (place : ℕ) (one : ℕ × Command) → slice_get asked place ≡ Some one → one.0 < next
  pub commands_are : commands ≡ map (λ one. one.1) asked

-- a desk has filed commands for which records of which less than so many come before asked it, in their order
pub record HasFiledBelow {N : Type 0} {O : office_name.Ghosts N} (records : Option (List Fields)) (next : ℕ)
    (desk : Desk N O) : Type 0 where
  pub commands : List Command
  pub asked : AreAskedBelow records next desk.number commands
  pub filed : HasFiled desk commands

-- records asked the desk for these commands, in their order
abbrev pub AreAskedInTurn : Option (List Fields) → ℕ → List Command → Type 0
AreAskedInTurn records desk commands = (next : ℕ) × AreAskedBelow records next desk commands

-- a desk has filed commands for which records asked it, in their order
abbrev pub HasFiledInTurn : {N : Type 0} {O : office_name.Ghosts N} → Option (List Fields) → Desk N O → Type 0
HasFiledInTurn records desk = (next : ℕ) × HasFiledBelow records next desk
