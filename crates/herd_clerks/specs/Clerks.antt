-- What clerks write for a command file, and how they may end.
use Rattle.std.specs.Prelude.{◌≡◌, ℕ, max, ⊤, List, length, Option, Some, None}
use Rattle.std.specs.Io.KnownBytes.{Appends}
use Rattle.herd_register.specs.Limits.{Limits}
use Rattle.herd_register.specs.declared.file_fault.FileFault.{FileFault}
use Rattle.herd_register.specs.declared.file_fault.FileFault.TheVariants as filing
use Rattle.herd_office.specs.declared.faults.OpenFault.{OpenFault}
use Rattle.herd_office.specs.declared.faults.OpenFault.TheVariants as opening
use Rattle.herd_office.specs.declared.faults.FreezeFault.{FreezeFault}
use Rattle.herd_office.specs.declared.faults.FreezeFault.TheVariants as freezing
use Rattle.herd_command_file.specs.CommandFile.{CommandFile, IsReadUpTo}
use Rattle.herd_text.specs.Text.{AppendsFront}
use Rattle.herd_text.specs.declared.report_fault.ReportFault.{ReportFault}
use Rattle.herd_text.specs.declared.report_fault.ReportFault.TheVariants as report
use Rattle.herd_clerks.specs.Summary.{TellsOf}
use Rattle.herd_clerks.specs.declared.office_fault.OfficeFault.{OfficeFault}
use Rattle.herd_clerks.specs.declared.office_fault.OfficeFault.TheVariants as office
use Rattle.herd_clerks.specs.declared.clerks_fault.ClerksFault.{ClerksFault}
use Rattle.herd_clerks.specs.declared.clerks_fault.ClerksFault.TheVariants.{Line, NoThread, Memory, Write, NoPlace}

-- the fault of the work in an office for one of opening it
abbrev pub fault_of_opening : OpenFault → OfficeFault
fault_of_opening opening.Memory = office.Memory
fault_of_opening opening.NoPlace = office.NoRoom

-- the same for one of filing
abbrev pub fault_of_filing : FileFault → OfficeFault
fault_of_filing filing.JournalFull = office.NoRoom
fault_of_filing filing.Memory = office.Memory
fault_of_filing filing.NoReading = office.NoReading

-- the same for one of freezing
abbrev pub fault_of_freezing : FreezeFault → OfficeFault
fault_of_freezing freezing.Memory = office.Memory
fault_of_freezing freezing.NoReading = office.NoReading

-- the fault of clerks for one of their work in the office
abbrev pub fault_of_office : OfficeFault → ClerksFault
fault_of_office office.NoThread = NoThread
fault_of_office office.Memory = Memory
fault_of_office office.NoRoom = NoPlace
fault_of_office office.NoReading = NoPlace

-- the same for one of writing
abbrev pub fault_of_telling : ReportFault → ClerksFault
fault_of_telling report.Memory = Memory
fault_of_telling report.Write = Write

-- the faults that the work can end by once the commands are filed, before the summary is written
abbrev pub CanEndClosing : OfficeFault → Type 0
CanEndClosing office.NoThread = ⊥
CanEndClosing office.Memory = ⊤
CanEndClosing office.NoRoom = ⊥
CanEndClosing office.NoReading = ⊤

-- the limits of an office for so many commands: a step for each, and one at least
abbrev pub office_limits : ℕ → ℕ → Limits
office_limits animals commands = record { animals = animals; steps = max commands 1 }

-- the file has no fault, and a text that tells of its commands, so many desks and so many first commands passes a test
pub record IsTold (limits : Limits) (desks base : ℕ) (file : CommandFile) (Passes : List ℕ → Type 0) : Type 0 where
  pub text : List ℕ
  pub faultless : file.fault ≡ None
  pub tells : TellsOf (office_limits limits.animals (length file.commands)) desks base file.commands text
  pub passes : Passes text

-- the summary of the file's commands was written
abbrev pub IsFiledBy : Limits → ℕ → ℕ → CommandFile → Option (List ℕ) → Option (List ℕ) → Type 0
IsFiledBy limits desks base file old new = IsTold limits desks base file (Appends old new)

-- how clerks may end early: but for `Write` nothing was written, and but for `Line` the file has no fault
abbrev pub EndsClerks : Limits → ℕ → ℕ → CommandFile → Option (List ℕ) → Option (List ℕ) → ClerksFault → Type 0
EndsClerks limits desks base file old new (Line fault) = IsReadUpTo limits.steps file (Some fault) × (new ≡ old)
EndsClerks limits desks base file old new NoThread = (file.fault ≡ None) × (new ≡ old)
EndsClerks limits desks base file old new Memory = (file.fault ≡ None) × (new ≡ old)
EndsClerks limits desks base file old new Write = IsTold limits desks base file (AppendsFront old new)
EndsClerks limits desks base file old new NoPlace = (file.fault ≡ None) × (new ≡ old)
