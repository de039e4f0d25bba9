-- The end of a program that an order of a pedigree ends early.
use Rattle.herd_pedigree_report.specs.declared.pedigree_report_fault.PedigreeReportFault.{PedigreeReportFault}
use Rattle.herd_pedigree_report.specs.declared.pedigree_report_fault.PedigreeReportFault.TheVariants.{Record, NotRegistered}
use Rattle.herd_pedigree_report.specs.declared.pedigree_report_fault.PedigreeReportFault.TheVariants.{NoThread, Memory, Write}
use Rattle.herd_orders.specs.declared.run_fault.RunFault.TheVariants as run
use Rattle.herdbook.specs.declared.request_fault.RequestFault.{RequestFault}
use Rattle.herdbook.specs.declared.request_fault.RequestFault.TheVariants.{Run, Pedigree}

-- the fault of a request for one of an order of a pedigree
abbrev pub fault_of_pedigree : PedigreeReportFault → RequestFault
fault_of_pedigree (Record fault) = Pedigree fault
fault_of_pedigree NotRegistered = Run run.NotRegistered
fault_of_pedigree NoThread = Run run.NoThread
fault_of_pedigree Memory = Run run.Memory
fault_of_pedigree Write = Run run.Write
