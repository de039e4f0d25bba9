-- What filing commands in a register leaves.
use Rattle.std.specs.Prelude.{◌≡◌, List, [], ◌∷◌}
use Rattle.herd_frozen.specs.rules.Book.{Book}
use Rattle.herd_register.specs.Register.{Register}
use Rattle.herd_register.specs.Run.{answer, next, step_of}
use Rattle.herd_register.specs.declared.command.Command.{Command}
use Rattle.herd_register.specs.Limits.{Limits}
use Rattle.herd_register.specs.declared.step.Step.{Step}

-- the steps of commands that are filed at desk 0 one after the other, the first with this book
abbrev pub filed_from : Limits → Book → List Command → List Step
filed_from limits book [] = []
filed_from limits book (command ∷ commands) =
    step_of 0 command (answer limits book command) ∷ filed_from limits (next limits book command) commands

-- commands are filed in a register at desk 0 one after the other, and no others
pub record HasFiled (limits : Limits) (commands : List Command) (register : Register) : Type 0 where
  pub limits_are : register.limits ≡ limits
  pub journal_is : register.journal ≡ filed_from limits [] commands
