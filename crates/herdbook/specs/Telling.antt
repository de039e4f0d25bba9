-- The faults that a request ends by, told by what they come of.
use Rattle.std.specs.Prelude.{◌≡◌, ⊤}
use Rattle.herd_orders.specs.declared.run_fault.RunFault.TheVariants as run
use Rattle.herdbook.specs.declared.request_fault.RequestFault.{RequestFault}
use Rattle.herdbook.specs.declared.request_fault.RequestFault.TheVariants.{Run, Pedigree, NoPlace}

-- the fault is that of a cause of which something holds
pub record Tells
    {Cause : Type 0} (fault_of : Cause → RequestFault) (Holds : Cause → Type 0) (fault : RequestFault) : Type 0 where
  pub cause : Cause
  pub is : fault ≡ fault_of cause
  pub holds : Holds cause

-- the faults that clerks or a session, who file in an office, can end by, whatever is read
abbrev pub CanEndOffice : RequestFault → Type 0
CanEndOffice (Run (run.Line fault)) = ⊤
CanEndOffice (Run run.NotRegistered) = ⊥
CanEndOffice (Run run.NoThread) = ⊤
CanEndOffice (Run run.Memory) = ⊤
CanEndOffice (Run run.Write) = ⊤
CanEndOffice (Pedigree fault) = ⊥
CanEndOffice NoPlace = ⊤
