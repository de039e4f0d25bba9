-- The faults of a part of a run, as those of the run.
use Rattle.herd_pool.specs.declared.pool_fault.PoolFault.{PoolFault}
use Rattle.herd_pool.specs.declared.pool_fault.PoolFault.TheVariants as pool
use Rattle.herd_report.specs.declared.writing.named_animals_fault.NamedAnimalsFault.{NamedAnimalsFault}
use Rattle.herd_report.specs.declared.writing.named_animals_fault.NamedAnimalsFault.TheVariants as named
use Rattle.herd_text.specs.declared.report_fault.ReportFault.{ReportFault}
use Rattle.herd_text.specs.declared.report_fault.ReportFault.TheVariants as report
use Rattle.herd_orders.specs.declared.run_fault.RunFault.{RunFault}
use Rattle.herd_orders.specs.declared.run_fault.RunFault.TheVariants.{NotRegistered, NoThread, Memory, Write}

abbrev pub run_fault_of : ReportFault → RunFault
run_fault_of report.Write = Write
run_fault_of report.Memory = Memory

abbrev pub run_fault_of_named : NamedAnimalsFault → RunFault
run_fault_of_named named.NotRegistered = NotRegistered
run_fault_of_named (named.Report fault) = run_fault_of fault

abbrev pub run_fault_of_pool : PoolFault → RunFault
run_fault_of_pool pool.NoThread = NoThread
run_fault_of_pool pool.Memory = Memory
