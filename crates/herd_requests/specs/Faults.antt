-- Why a request isn't answered, as text.
use Rattle.std.specs.Prelude.{ℕ, List, codes}
use Rattle.herd_office.specs.declared.faults.FreezeFault.{FreezeFault}
use Rattle.herd_office.specs.declared.faults.FreezeFault.TheVariants as freezing
use Rattle.herd_register.specs.declared.file_fault.FileFault.{FileFault}
use Rattle.herd_register.specs.declared.file_fault.FileFault.TheVariants as filing
use Rattle.herd_command_file.specs.LineCause.{cause_name}
use Rattle.herd_requests.specs.declared.fault.Fault.{Fault as WhyNot}
use Rattle.herd_requests.specs.declared.fault.Fault.TheVariants.{Tag, Addressee, NoDesk, NoInspector, Fields, Question, NotRegistered, TooLong, JournalFull, Memory, NoReading}

-- the name that is printed
abbrev pub fault_name : WhyNot → List ℕ
fault_name Tag = codes "Tag"
fault_name Addressee = codes "Addressee"
fault_name NoDesk = codes "NoDesk"
fault_name NoInspector = codes "NoInspector"
fault_name (Fields cause) = cause_name cause
fault_name Question = codes "Question"
fault_name NotRegistered = codes "NotRegistered"
fault_name TooLong = codes "TooLong"
fault_name JournalFull = codes "JournalFull"
fault_name Memory = codes "Memory"
fault_name NoReading = codes "NoReading"

-- the fault of a request for one of filing
abbrev pub fault_of_filing : FileFault → WhyNot
fault_of_filing filing.JournalFull = JournalFull
fault_of_filing filing.Memory = Memory
fault_of_filing filing.NoReading = NoReading

-- the same for one of freezing
abbrev pub fault_of_freezing : FreezeFault → WhyNot
fault_of_freezing freezing.Memory = Memory
fault_of_freezing freezing.NoReading = NoReading
