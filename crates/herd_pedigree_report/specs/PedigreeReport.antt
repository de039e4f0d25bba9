-- What is written of a pedigree file, and how that may end.
use Rattle.std.specs.Prelude.{◌≡◌, ◌⊎◌, ◌<◌, ◌&&◌, ℕ, Bool, true, false, ⊤, List, length, Option, Ok}
use Rattle.std.specs.Io.KnownBytes.{Appends}
use Rattle.herd_lineage.specs.declared.lineage.Parents.{Parents}
use Rattle.herd_pedigree_file.specs.PedigreeFile.{IsToldOf, lineage_in}
use Rattle.herd_pool.specs.declared.pool_fault.PoolFault.{PoolFault}
use Rattle.herd_pool.specs.declared.pool_fault.PoolFault.TheVariants as pool
use Rattle.herd_text.specs.Text.{AppendsFront}
use Rattle.herd_text.specs.declared.report_fault.ReportFault.{ReportFault}
use Rattle.herd_text.specs.declared.report_fault.ReportFault.TheVariants as report
use Rattle.herd_pedigree_report.specs.InbreedingList.{inbreeding_text}
use Rattle.herd_pedigree_report.specs.InverseList.{inverse_text}
use Rattle.herd_pedigree_report.specs.Named.{all_there, ranks_of}
use Rattle.herd_pedigree_report.specs.RelationshipList.{relationships_text}
use Rattle.herd_pedigree_report.specs.declared.pedigree_order.PedigreeOrder.{PedigreeOrder}
use Rattle.herd_pedigree_report.specs.declared.pedigree_order.PedigreeOrder.TheVariants.{Inbreeding, Inverse, Relationships}
use Rattle.herd_pedigree_report.specs.declared.pedigree_report_fault.PedigreeReportFault.{PedigreeReportFault}
use Rattle.herd_pedigree_report.specs.declared.pedigree_report_fault.PedigreeReportFault.TheVariants.{Record, NotRegistered, NoThread, Memory, Write}

-- the faults of a part, as those of the whole
abbrev pub fault_of_report : ReportFault → PedigreeReportFault
fault_of_report report.Write = Write
fault_of_report report.Memory = Memory

abbrev pub fault_of_pool : PoolFault → PedigreeReportFault
fault_of_pool pool.NoThread = NoThread
fault_of_pool pool.Memory = Memory

-- ---- what is ordered of a lineage

-- the text that an order wants
abbrev pub wanted : PedigreeOrder → List Parents → List ℕ
wanted (Inbreeding plan in_units) lineage = inbreeding_text in_units lineage
wanted Inverse lineage = inverse_text lineage
wanted (Relationships animals others in_units) lineage =
    relationships_text in_units lineage (ranks_of animals.now) (ranks_of others.now)

-- each animal that the order names is there
abbrev pub are_there : PedigreeOrder → List Parents → Bool
are_there (Relationships animals others in_units) lineage =
    all_there (length lineage) animals.now && all_there (length lineage) others.now
are_there order lineage = true

-- the order names animals
abbrev pub Names : PedigreeOrder → Type 0
Names (Relationships animals others in_units) = ⊤
Names order = ⊥

-- the order is for work that more than one worker share
abbrev pub IsShared : PedigreeOrder → Type 0
IsShared (Inbreeding plan in_units) = 1 < plan.workers
IsShared order = ⊥

-- a fault that an order can end by, whatever is read
abbrev pub CanEndBy : PedigreeOrder → PedigreeReportFault → Type 0
CanEndBy order (Record fault) = ⊤
CanEndBy order NotRegistered = Names order
CanEndBy order NoThread = IsShared order
CanEndBy order Memory = ⊤
CanEndBy order Write = ⊤

-- each animal that the order names is there, and what the order wants was written
pub record IsReported (order : PedigreeOrder) (lineage : List Parents) (old new : Option (List ℕ)) : Type 0 where
  pub there : are_there order lineage ≡ true
  pub written : Appends old new (wanted order lineage)

-- each is there, and what the order wants was written but for some of its end
pub record StopsWriting (order : PedigreeOrder) (lineage : List Parents) (old new : Option (List ℕ)) : Type 0 where
  pub there : are_there order lineage ≡ true
  pub front : AppendsFront old new (wanted order lineage)

-- how that may end early: `NotRegistered` comes before coefficients are computed, which `NoThread` or `Memory` ends, and
-- these come before the text is written, which `Memory` or `Write` ends
abbrev pub EndsReporting : PedigreeOrder → List Parents → Option (List ℕ) → Option (List ℕ) → PedigreeReportFault → Type 0
EndsReporting order lineage old new (Record fault) = ⊥
EndsReporting order lineage old new NotRegistered = (are_there order lineage ≡ false) × (new ≡ old)
EndsReporting order lineage old new NoThread = IsShared order × (new ≡ old)
EndsReporting order lineage old new Memory = (new ≡ old) ⊎ StopsWriting order lineage old new
EndsReporting order lineage old new Write = StopsWriting order lineage old new

-- ---- what is ordered of the lineage of a pedigree file

-- the file, with at most so many animals, has a lineage, and what the order wants of it was written
pub record IsAnswered (most : ℕ) (order : PedigreeOrder) (bytes : List ℕ) (old new : Option (List ℕ)) : Type 0 where
  pub lineage : List Parents
  pub read : lineage_in most bytes ≡ Ok lineage
  pub reported : IsReported order lineage old new

-- the file has a lineage, and what is ordered of it ended early
pub record EndsAnswering (most : ℕ) (order : PedigreeOrder) (bytes : List ℕ) (old new : Option (List ℕ))
    (fault : PedigreeReportFault) : Type 0 where
  pub lineage : List Parents
  pub read : lineage_in most bytes ≡ Ok lineage
  pub ends : EndsReporting order lineage old new fault

-- how answering may end early: the file has a fault, or its reading was interrupted, and nothing was written; or what
-- is ordered of its lineage ended early
abbrev pub EndsBy : ℕ → PedigreeOrder → List ℕ → Option (List ℕ) → Option (List ℕ) → PedigreeReportFault → Type 0
EndsBy most order bytes old new (Record fault) = IsToldOf most (lineage_in most bytes) fault × (new ≡ old)
EndsBy most order bytes old new fault = EndsAnswering most order bytes old new fault
