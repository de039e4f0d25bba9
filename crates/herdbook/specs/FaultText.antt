-- What is told on standard error.
use Rattle.std.specs.Prelude.{ℕ, List, ◌++◌, codes, decimal}
use Rattle.herd_animal.specs.declared.number.NumberFault.{NumberFault}
use Rattle.herd_animal.specs.declared.number.NumberFault.TheVariants.{Length, Letter, SexLetter, NumberCharacter}
use Rattle.herd_pedigree_file.specs.PedigreeCause.{cause_name as pedigree_cause_name, cause_number as pedigree_cause_number}
use Rattle.herd_command_file.specs.LineCause.{cause_name, cause_number}
use Rattle.herd_orders.specs.declared.run_fault.RunFault.{RunFault}
use Rattle.herd_orders.specs.declared.run_fault.RunFault.TheVariants.{Line, NotRegistered, NoThread, Memory, Write}
use Rattle.herdbook.specs.declared.request_fault.RequestFault.{RequestFault}
use Rattle.herdbook.specs.declared.request_fault.RequestFault.TheVariants.{Run, Pedigree, NoPlace}

abbrev pub run_fault_text : RunFault → List ℕ
run_fault_text (Line fault) =
    codes "record " ++ decimal fault.record_number ++ codes ": fault " ++ decimal (cause_number fault.cause)
    ++ codes " " ++ cause_name fault.cause
run_fault_text NotRegistered = codes "not registered"
run_fault_text NoThread = codes "no thread"
run_fault_text Memory = codes "no memory"
run_fault_text Write = codes "write fault"

abbrev pub request_fault_text : RequestFault → List ℕ
request_fault_text (Run fault) = run_fault_text fault
request_fault_text (Pedigree fault) =
    codes "record " ++ decimal fault.record_number ++ codes ": fault "
    ++ decimal (pedigree_cause_number fault.cause) ++ codes " " ++ pedigree_cause_name fault.cause
request_fault_text NoPlace = codes "no reader's place"

abbrev pub number_fault_code : NumberFault → ℕ
number_fault_code Length = 1
number_fault_code (Letter place) = 2
number_fault_code SexLetter = 3
number_fault_code (NumberCharacter place) = 4

abbrev pub number_fault_name : NumberFault → List ℕ
number_fault_name Length = codes "Length"
number_fault_name (Letter place) = codes "Letter"
number_fault_name SexLetter = codes "SexLetter"
number_fault_name (NumberCharacter place) = codes "NumberCharacter"

abbrev pub number_fault_text : NumberFault → List ℕ
number_fault_text fault =
    codes "animal number fault " ++ decimal (number_fault_code fault) ++ codes " " ++ number_fault_name fault
