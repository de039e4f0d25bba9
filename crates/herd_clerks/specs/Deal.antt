-- Which commands fall to which desk.
use Rattle.std.specs.Prelude.{ℕ, zero, suc, ◌==◌, ◌-◌, if◌then◌else◌, List, [], ◌∷◌, ◌++◌, map}
use Rattle.herd_register.specs.declared.command.Command.{Command}
use Rattle.herd_office.specs.declared.desk.Desk.{Desk}
use Rattle.herd_office.specs.declared.name.OfficeName as office_name
pub use Rattle.herd_office.specs.Filed.{HasFiled, commands_at}
use Rattle.herd_clerks.specs.declared.deal.Deal.{Deal}

-- the command that comes once so many are left out, and from it on every so many-th; a step of 0 counts as 1
abbrev pub every : ℕ → ℕ → List Command → List Command
every step out [] = []
every step zero (command ∷ more) = command ∷ every step (step - 1) more
every step (suc out) (command ∷ more) = every step out more

-- what falls to a desk before the desks take turns: the first commands, to desk 1
abbrev pub dealt_first : List Command → ℕ → List Command
dealt_first first number = if number == 1 then first else []

-- what falls to a desk of so many: the first commands to desk 1, and then of the rest every so many-th, from the one at
-- the desk's turn on
abbrev pub dealt : ℕ → List Command → List Command → ℕ → List Command
dealt desks first rest number = dealt_first first number ++ every desks (number - 1) rest

-- the numbers of desks
abbrev pub numbers_of : {N : Type 0} {O : office_name.Ghosts N} → List (Desk N O) → List ℕ
numbers_of desks = map (λ d. d.number) desks

-- a desk has filed what falls to it of a deal before the desks take turns
abbrev pub HasBegun : {N : Type 0} {O : office_name.Ghosts N} → Deal → Desk N O → Type 0
HasBegun deal desk = HasFiled desk (dealt_first deal.first.now desk.number)

-- a desk has filed all that falls to it of a deal
abbrev pub HasDone : {N : Type 0} {O : office_name.Ghosts N} → Deal → Desk N O → Type 0
HasDone deal desk = HasFiled desk (dealt deal.desks deal.first.now deal.rest.now desk.number)
