-- How a call under the lock finds the office, and how it leaves it.
use Rattle.std.specs.Prelude.{◌≡◌, ℕ, ◌+◌, ◌≤◌, List, length, Option, IsNone, IsSome}
use mathlib.Core.List.{IsPrefix}
use Rattle.herd_register.specs.Run.{IsLegal}
use Rattle.herd_register.specs.declared.command.Command.{Command}
use Rattle.herd_register.specs.declared.file_fault.FileFault.{FileFault}
use Rattle.herd_register.specs.declared.file_fault.FileFault.TheVariants.{JournalFull, Memory, NoReading}
use Rattle.herd_register.specs.Limits.{Limits}
use Rattle.herd_register.specs.declared.step.Step.{Step}
use Rattle.core.specs.declared.ledger.Ledger as ledger
use Rattle.herd_office.specs.declared.desk.Desk.{Desk}
use Rattle.herd_office.specs.declared.desk.Filed.{Filed}
use Rattle.herd_office.specs.declared.name.OfficeName as office_name
use Rattle.herd_office.specs.declared.inside.Inside.{Inside}
use Rattle.herd_office.specs.declared.shown.Shown.{Shown}
use Rattle.herd_office.specs.Filing.{answer_after, with_step_of}
use Rattle.herd_office.specs.Shelves.{published}

-- the journal, the total of answered calls, the desk's number, its own count and history, and what readers are shown
pub record Standing : Type 0 where
  pub journal : List Step
  pub total : ℕ
  pub number : ℕ
  pub answered : ℕ
  pub history : List Step
  pub shown : Shown

abbrev pub standing : {N R A : Type 0} {O : office_name.Ghosts N} {L : ledger.Ghosts N}
    → Inside N R A O L → Desk N O → Standing
standing inside desk =
    record {
      journal = inside.register.journal;
      total = inside.ledger.total;
      number = desk.number;
      answered = desk.answered;
      history = desk.history;
      shown = published inside.copies.writer;
    }

-- a call was answered: the desk's step stands behind the journal with the reply of one thread, and was counted once;
-- the history that the desk held begins the journal that was there, and now the desk and the slip hold the new one
pub record IsFiled {N : Type 0} (limits : Limits) (command : Command) (old new : Standing)
    (filed : Filed N) : Type 0 where
  pub stored : new.journal ≡ with_step_of old.journal old.number command filed.reply
  pub reply : filed.reply ≡ answer_after limits old.journal command
  pub serial : filed.serial ≡ length new.journal
  pub total : new.total ≡ old.total + 1
  pub answered : new.answered ≡ old.answered + 1
  pub begins : IsPrefix old.history old.journal
  pub history : new.history ≡ new.journal
  pub slip : filed.slip.history ≡ new.journal
  pub legal : IsLegal limits filed.slip.history

-- why a call isn't answered, and the claim that it leaves: where the desk's history isn't longer than the journal, a
-- refused growth leaves the step claimed, and copies give no reading where it isn't
abbrev pub Refuses : {C : Type 0} → ℕ → Standing → Option C → FileFault → Type 0
Refuses most old claim JournalFull = length old.journal ≡ most
Refuses most old claim Memory = (length old.history ≤ length old.journal) × IsSome claim
Refuses most old claim NoReading = length old.history ≤ length old.journal → IsNone claim
