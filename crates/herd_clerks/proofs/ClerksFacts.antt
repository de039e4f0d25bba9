-- How clerks end early, and that the text that they write tells of a file's commands.
use Rattle.std.proofs.Common.{◌≡◌, ℕ, List, Option, None, Result, Ok, Err, drop, length, refl, subst, sym, take}
use Rattle.std.specs.Prelude.{IfErr, OnErr}
use Rattle.herd_register.specs.declared.command.Command.{Command}
use Rattle.herd_register.specs.Limits.{Limits}
use Rattle.herd_command_file.specs.CommandFile.{CommandFile, IsRead}
use Rattle.herd_text.specs.Text.{AppendsFront}
use Rattle.herd_text.specs.declared.report_fault.ReportFault.{ReportFault}
use Rattle.herd_text.specs.declared.report_fault.ReportFault.TheVariants as report
use Rattle.herd_clerks.specs.Clerks.{EndsClerks, IsTold, fault_of_office, fault_of_telling, office_limits}
use Rattle.herd_clerks.specs.Summary.{EndsTelling, IsSummaryOf, TellsOf, summary_text}
use Rattle.herd_clerks.specs.declared.office_fault.OfficeFault.{OfficeFault}
use Rattle.herd_clerks.specs.declared.office_fault.OfficeFault.TheVariants as office
use Rattle.herd_clerks.specs.declared.summary.Summary.{Summary}

-- before the summary is there nothing is written
pub ends-unwritten : (limits : Limits) (desks base : ℕ) (file : CommandFile) (old : Option (List ℕ)) (fault : OfficeFault)
    → file.fault ≡ None → EndsClerks limits desks base file old old (fault_of_office fault)
ends-unwritten limits desks base file old office.NoThread faultless = (faultless, refl)
ends-unwritten limits desks base file old office.Memory faultless = (faultless, refl)
ends-unwritten limits desks base file old office.NoRoom faultless = (faultless, refl)
ends-unwritten limits desks base file old office.NoReading faultless = (faultless, refl)

-- the text of a summary of the file's commands passes a test
pub told-text : (limits : Limits) (desks base : ℕ) (file : CommandFile) (commands : List Command) (summary : Summary) (Passes : List ℕ → Type 0)
    → IsSummaryOf (office_limits limits.animals (length commands)) desks (take base commands) (drop base commands) summary → Passes (summary_text summary)
    → IsRead limits.steps file commands None → IsTold limits desks base file Passes
told-text limits desks base file commands summary Passes counts passes read = record {
  text = summary_text summary;
  faultless = read.1;
  tells =
      subst (λ (l : List Command). TellsOf (office_limits limits.animals (length l)) desks base l (summary_text summary)) read.0
      (record { summary = summary; counts = counts; text_is = refl });
  passes = passes;
}

-- the writing of that text ends early
pub ends-telling : (limits : Limits) (desks base : ℕ) (file : CommandFile) (commands : List Command) (summary : Summary) (old new : Option (List ℕ)) (fault : ReportFault)
    → IsSummaryOf (office_limits limits.animals (length commands)) desks (take base commands) (drop base commands) summary → EndsTelling old new (summary_text summary) fault
    → IsRead limits.steps file commands None → EndsClerks limits desks base file old new (fault_of_telling fault)
ends-telling limits desks base file commands summary old new report.Memory counts ends read = (read.1, ends)
ends-telling limits desks base file commands summary old new report.Write counts ends read =
    told-text limits desks base file commands summary (AppendsFront old new) counts ends read

-- `write_all` ends early by a failed write alone
pub ends-write_all : {T : Type 0} (result : Result T ReportFault) (old new : Option (List ℕ)) (text : List ℕ)
    → OnErr result (AppendsFront old new text) → IfErr result (λ fault. fault ≡ report.Write) → IfErr result (EndsTelling old new text)
ends-write_all (Ok done) old new text front write = tt
ends-write_all (Err fault) old new text front write = subst (EndsTelling old new text) (sym write) front
