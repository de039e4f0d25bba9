-- The end of a program that clerks end early.
use Rattle.herd_orders.specs.declared.run_fault.RunFault.TheVariants as run
use Rattle.herd_clerks.specs.declared.clerks_fault.ClerksFault.{ClerksFault}
use Rattle.herd_clerks.specs.declared.clerks_fault.ClerksFault.TheVariants.{Line, NoThread, Memory, Write, NoPlace as Unclosed}
use Rattle.herdbook.specs.declared.request_fault.RequestFault.{RequestFault}
use Rattle.herdbook.specs.declared.request_fault.RequestFault.TheVariants.{Run, NoPlace}

-- the fault of a request for one of clerks
abbrev pub fault_of_clerks : ClerksFault → RequestFault
fault_of_clerks (Line fault) = Run (run.Line fault)
fault_of_clerks NoThread = Run run.NoThread
fault_of_clerks Memory = Run run.Memory
fault_of_clerks Write = Run run.Write
fault_of_clerks Unclosed = NoPlace
