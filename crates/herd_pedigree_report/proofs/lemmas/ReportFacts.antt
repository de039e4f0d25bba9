-- How an order ends early, and what is written of a file's lineage.
use Rattle.std.proofs.Common.{◌≡◌, ℕ, List, Option, Ok, Result}
use Rattle.std.specs.Prelude.{IfErr}
use Rattle.std.proofs.lemmas.Result.{IfErr-weaker}
use Rattle.herd_lineage.specs.declared.lineage.Parents.{Parents}
use Rattle.herd_pedigree_file.specs.PedigreeFile.{lineage_in}
use Rattle.herd_text.specs.declared.report_fault.ReportFault.TheVariants as report
use Rattle.herd_pedigree_report.specs.PedigreeReport.{CanEndBy, EndsBy, EndsReporting}
use Rattle.herd_pedigree_report.specs.declared.pedigree_order.PedigreeOrder.{PedigreeOrder}
use Rattle.herd_pedigree_report.specs.declared.pedigree_order.PedigreeOrder.TheVariants.{Inbreeding, Inverse, Relationships}
use Rattle.herd_pedigree_report.specs.declared.pedigree_report_fault.PedigreeReportFault.{PedigreeReportFault}
use Rattle.herd_pedigree_report.specs.declared.pedigree_report_fault.PedigreeReportFault.TheVariants.{Record, NotRegistered, NoThread, Memory, Write}

-- what is ordered of a file's lineage ended early
pub answer_ends : (most : ℕ) (order : PedigreeOrder) (bytes : List ℕ) (lineage : List Parents) (old new : Option (List ℕ)) (fault : PedigreeReportFault)
    → lineage_in most bytes ≡ Ok lineage → EndsReporting order lineage old new fault → EndsBy most order bytes old new fault
answer_ends most order bytes lineage old new (Record fault) read ends = absurd ends
answer_ends most order bytes lineage old new NotRegistered read ends = record { lineage = lineage; read = read; ends = ends }
answer_ends most order bytes lineage old new NoThread read ends = record { lineage = lineage; read = read; ends = ends }
answer_ends most order bytes lineage old new Memory read ends = record { lineage = lineage; read = read; ends = ends }
answer_ends most order bytes lineage old new Write read ends = record { lineage = lineage; read = read; ends = ends }

-- a fault by which an order of a lineage ended is one that it can end by
can_end : (order : PedigreeOrder) (lineage : List Parents) (old new : Option (List ℕ)) (fault : PedigreeReportFault) → EndsReporting order lineage old new fault → CanEndBy order fault
can_end order lineage old new (Record fault) ends = absurd ends
can_end (Inbreeding plan in_units) lineage old new NotRegistered ends = absurd (cc ends.0)
can_end Inverse lineage old new NotRegistered ends = absurd (cc ends.0)
can_end (Relationships animals others in_units) lineage old new NotRegistered ends = tt
can_end order lineage old new NoThread ends = ends.0
can_end order lineage old new Memory ends = tt
can_end order lineage old new Write ends = tt

pub answer_can_end : {T : Type 0} (order : PedigreeOrder) (lineage : List Parents) (old new : Option (List ℕ)) (result : Result T PedigreeReportFault)
    → IfErr result (EndsReporting order lineage old new) → IfErr result (CanEndBy order)
answer_can_end order lineage old new result ends = IfErr-weaker result _ _ (λ fault end. can_end order lineage old new fault end) ends
