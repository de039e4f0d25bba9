-- A register as contracts see it, and what its calls make of it.
use Rattle.std.specs.Prelude.{◌≡◌, ℕ, ◌-◌, ◌==◌, ◌≤◌, ◌<◌, Bool, true, false, IsTrue, List, [], ◌∷◌, ◌++◌, length, slice_get, if◌then◌else◌, Option, Some, None}
use Rattle.herd_frozen.specs.rules.Book.{Book}
use Rattle.herd_pedigree.specs.Pedigree.{Pedigree}
use Rattle.herd_pedigree.specs.store.Undo.{without_last}
use Rattle.herd_register.specs.Limits.{Limits}
use Rattle.herd_register.specs.declared.reply.Reply.TheVariants.{Accepted}
use Rattle.herd_register.specs.declared.step.Step.{Step}
use Rattle.herd_register.specs.Run.{IsLegal, commands_of, run_book}

-- the limits, each command that was answered, and whether the last of them can be taken out again
pub record Register : Type 0 where
  pub limits : Limits
  pub journal : List Step
  pub can_withdraw : Bool

-- the book of a register: that of its commands
abbrev pub register_book : Register → Book
register_book register = run_book register.limits (commands_of register.journal)

abbrev pub register_of : Limits → List Step → Bool → Register
register_of limits journal can_withdraw = record { limits = limits; journal = journal; can_withdraw = can_withdraw }

-- a register in which nothing was filed
abbrev pub new_register : Limits → Register
new_register limits = register_of limits [] false

-- the register with one step more
abbrev pub with_step : Register → Step → Register
with_step register step = record register { journal = register.journal ++ step ∷ []; can_withdraw = true }

-- the register without its last step
abbrev pub without_last_step : Register → Register
without_last_step register = record register { journal = without_last register.journal; can_withdraw = false }

-- the step of a serial number, which counts from 1
abbrev pub step_at : List Step → ℕ → Option Step
step_at steps serial = if serial == 0 then None else slice_get steps (serial - 1)

-- there is a last step, and where it was accepted this is the book of those before it
pub record HasBefore (limits : Limits) (steps : List Step) (before : Option Book) : Type 0 where
  pub some : 0 < length steps
  pub book : (earlier : List Step) (last : Step) → steps ≡ earlier ++ last ∷ [] → last.reply ≡ Accepted
      → before ≡ Some (run_book limits (commands_of earlier))

-- pedigree and replies are those of the commands in the journal, within the limits
pub record IsRegister (register : Register) (pedigree : Pedigree) : Type 0 where
  pub book : pedigree.book ≡ register_book register
  pub legal : IsLegal register.limits register.journal
  pub room : length register.journal ≤ register.limits.steps
  pub before : IsTrue register.can_withdraw → HasBefore register.limits register.journal pedigree.before
