-- How the program ends.
use Rattle.std.specs.Prelude.{◌≡◌, ◌≢◌, ◌⊎◌, ℕ, Bool, true, false, List, [], ◌++◌, codes, Option, Some, None, Result, Ok, Err}
use Rattle.clap.specs.Words.{kind_of}
use Rattle.clap.specs.declared.error.kind.ErrorKind.TheVariants.{DisplayHelp, DisplayVersion, OutOfMemory}
use Rattle.herd_orders.specs.declared.run_fault.RunFault.{RunFault}
use Rattle.herd_orders.specs.declared.run_fault.RunFault.TheVariants.{Memory, Write}
use Rattle.herd_orders.specs.RunFault.{run_fault_of}
use Rattle.herd_text.specs.declared.report_fault.ReportFault.{ReportFault}
use Rattle.herd_pedigree_report.specs.declared.pedigree_report_fault.PedigreeReportFault.{PedigreeReportFault}
use Rattle.herd_session.specs.declared.session_fault.SessionFault.{SessionFault}
use Rattle.herd_clerks.specs.declared.clerks_fault.ClerksFault.{ClerksFault}
use Rattle.herd_command_line.specs.declared.arguments.WordsFault.{WordsFault}
use Rattle.herd_command_line.specs.declared.arguments.WordsFault.TheVariants.{Words, Number as NotNumber, Misplaced as AreMisplaced, NoSeal}
use Rattle.herdbook.specs.Clerks.{fault_of_clerks}
use Rattle.herdbook.specs.FaultText.{number_fault_text, request_fault_text}
use Rattle.herdbook.specs.Pedigrees.{fault_of_pedigree}
use Rattle.herdbook.specs.Sessions.{fault_of_session}
use Rattle.herdbook.specs.declared.ending.Ending.{Ending}
use Rattle.herdbook.specs.declared.ending.Ending.TheVariants.{Done, Shown, Usage, NotText, Number, Misplaced, NotSeal, Refused, Early}
use Rattle.herdbook.specs.declared.request_fault.RequestFault.TheVariants.{Run}

abbrev pub status_of : Ending → ℕ
status_of Done = 0
status_of (Shown error) = 0
status_of (Early fault) = 1
status_of (Usage error) = 2
status_of NotText = 2
status_of (Number fault) = 2
status_of Misplaced = 2
status_of NotSeal = 2
status_of Refused = 3

-- what is told on standard error; of the text of `clap` nothing is said
abbrev pub told : Ending → Option (List ℕ)
told Done = Some []
told (Shown error) = Some []
told (Usage error) = None
told NotText = Some (codes "herdbook: a word isn't UTF-8 text\n")
told (Number fault) = Some (codes "herdbook: " ++ number_fault_text fault ++ codes "\n")
told Misplaced =
    Some (codes "herdbook: pedigree takes `inbreeding [--workers N] [--block N] [--units]`, `inverse`, or\n`relationships ANIMAL.. [--with ANIMAL..] [--units]`, each with [--limit-animals N]\n")
told NotSeal = Some (codes "herdbook: a seal has 64 hexadecimal digits\n")
told Refused = Some []
told (Early fault) = Some (codes "herdbook: " ++ request_fault_text fault ++ codes "\n")

-- the end where the words can't be read: memory ran out, or one isn't UTF-8
abbrev pub end_of_unread : Bool → Ending
end_of_unread true = Early (Run Memory)
end_of_unread false = NotText

-- the end of a run
abbrev pub end_of_run : {T : Type 0} → Result T RunFault → Ending
end_of_run (Ok done) = Done
end_of_run (Err fault) = Early (Run fault)

-- the end of a check
abbrev pub end_of_check : Result Bool ReportFault → Ending
end_of_check (Ok true) = Done
end_of_check (Ok false) = Refused
end_of_check (Err fault) = Early (Run (run_fault_of fault))

-- the end of an order of a pedigree
abbrev pub end_of_pedigree : {T : Type 0} → Result T PedigreeReportFault → Ending
end_of_pedigree (Ok done) = Done
end_of_pedigree (Err fault) = Early (fault_of_pedigree fault)

-- the end of the clerks' work
abbrev pub end_of_clerks : {T : Type 0} → Result T ClerksFault → Ending
end_of_clerks (Ok done) = Done
end_of_clerks (Err fault) = Early (fault_of_clerks fault)

-- the end of a session
abbrev pub end_of_session : {T : Type 0} → Result T SessionFault → Ending
end_of_session (Ok done) = Done
end_of_session (Err fault) = Early (fault_of_session fault)

-- the end after what the words ask to be shown was printed, or couldn't be
abbrev pub end_of_shown : Bool → Ending
end_of_shown true = Done
end_of_shown false = Early (Run Write)

-- the end tells why words ask for nothing: memory ran out, they ask for help or the version, or they are wrong
abbrev pub Explains : WordsFault → Ending → Type 0
Explains (Words error) (Early fault) = (fault ≡ Run Memory) × (kind_of error ≡ OutOfMemory)
Explains (Words error) (Shown text) =
    (text ≡ error) × ((kind_of error ≡ DisplayHelp) ⊎ (kind_of error ≡ DisplayVersion))
Explains (Words error) (Usage text) =
    (text ≡ error) × (kind_of error ≢ OutOfMemory) × (kind_of error ≢ DisplayHelp) × (kind_of error ≢ DisplayVersion)
Explains (Words error) ending = ⊥
Explains (NotNumber fault) ending = ending ≡ Number fault
Explains AreMisplaced ending = ending ≡ Misplaced
Explains NoSeal ending = ending ≡ NotSeal
