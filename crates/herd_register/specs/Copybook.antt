-- A copy of a register's records, as contracts see it, and what it takes over.
use Rattle.std.specs.Prelude.{◌≡◌, ℕ, ◌+◌, ◌≤◌, List, fold, length, nat_lt, if◌then◌else◌}
use Rattle.herd_frozen.specs.rules.Book.{Book}
use Rattle.herd_register.specs.declared.change.Change.{Change}
use Rattle.herd_register.specs.declared.command.Command.{Command}
use Rattle.herd_register.specs.declared.step.Step.{Step}
use Rattle.herd_register.specs.Change.{changed_by}
use Rattle.herd_register.specs.Limits.{AreLimits, Limits}
use Rattle.herd_register.specs.Run.{commands_of, run_book}

-- the limits, the records, and of how many steps they are
pub record Copybook : Type 0 where
  pub limits : Limits
  pub book : Book
  pub steps : ℕ

abbrev pub copybook_of : Limits → Book → ℕ → Copybook
copybook_of limits book steps = record { limits = limits; book = book; steps = steps }

-- the copy of a step more, which makes this change; a full one takes none
abbrev pub taken_over : Copybook → Change → Copybook
taken_over copybook change =
    if nat_lt copybook.steps copybook.limits.steps
    then copybook_of copybook.limits (changed_by copybook.limits.animals copybook.book change) (copybook.steps + 1)
    else copybook

-- the copy after several changes, one after the other
abbrev pub all_taken_over : Copybook → List Change → Copybook
all_taken_over copybook changes = fold taken_over copybook changes

-- the copy of a register of these steps: the book of their commands, and how many there are
abbrev pub copy_of : Limits → List Step → Copybook
copy_of limits journal = copybook_of limits (run_book limits (commands_of journal)) (length journal)

-- its records are those of commands
pub record HasRunBook (copybook : Copybook) : Type 0 where
  pub commands : List Command
  pub book : copybook.book ≡ run_book copybook.limits commands

-- there are no more steps than the limits allow
pub record IsCopybook (copybook : Copybook) : Type 0 where
  pub limits : AreLimits copybook.limits
  pub within : copybook.steps ≤ copybook.limits.steps
