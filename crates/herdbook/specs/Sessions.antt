-- The end of a program that a session ends early.
use Rattle.herd_orders.specs.declared.run_fault.RunFault.TheVariants as run
use Rattle.herd_session.specs.declared.session_fault.SessionFault.{SessionFault}
use Rattle.herd_session.specs.declared.session_fault.SessionFault.TheVariants.{Line, NoThread, Memory, Write, NoPlace as Unclosed}
use Rattle.herdbook.specs.declared.request_fault.RequestFault.{RequestFault}
use Rattle.herdbook.specs.declared.request_fault.RequestFault.TheVariants.{Run, NoPlace}

-- the fault of a request for one of a session
abbrev pub fault_of_session : SessionFault → RequestFault
fault_of_session (Line fault) = Run (run.Line fault)
fault_of_session NoThread = Run run.NoThread
fault_of_session Memory = Run run.Memory
fault_of_session Write = Run run.Write
fault_of_session Unclosed = NoPlace
