-- What a desk has filed.
use Rattle.std.specs.Prelude.{◌≡◌, ◌==◌, ℕ, List, filter, length, map}
use Rattle.herd_register.specs.declared.command.Command.{Command}
use Rattle.herd_register.specs.declared.step.Step.{Step}
use Rattle.herd_office.specs.Histories.{of_desk}
use Rattle.herd_office.specs.declared.desk.Desk.{Desk}
use Rattle.herd_office.specs.declared.name.OfficeName as office_name

-- the commands of a desk's steps, in the order of the journal
abbrev pub commands_at : ℕ → List Step → List Command
commands_at number journal = map (λ s. s.command) (filter (λ s. s.desk == number) journal)

-- what is known of a desk that has filed these commands: it answered as many calls, and where its history has no more
-- steps of the desk, they are of just these commands, in their order
pub record HasFiled {N : Type 0} {O : office_name.Ghosts N} (desk : Desk N O) (commands : List Command) : Type 0 where
  pub counted : desk.answered ≡ length commands
  pub known : of_desk desk.number desk.history ≡ desk.answered → commands_at desk.number desk.history ≡ commands
