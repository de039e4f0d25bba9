-- The animals that were read, and those of the records that are still to come, are the file's.
use Rattle.std.proofs.Common.{◌-◌, ◌≤◌, length}
use Rattle.std.specs.Prelude.{IfSome}
use Rattle.csv_records.specs.Upcoming.{IsSetUp}
use Rattle.herd_pedigree_file.proofs.lemmas.ReadingFacts.{HasRead}
use Rattle.herd_pedigree_file.specs.PedigreeFile.{lineage_in}
use Rattle.herd_pedigree_file.proofs.reading.read_lineage.Given as goal

abbrev pub invariant-loop-builder : goal.invariant-loop-builder
invariant-loop-builder g l = record {
  set_up : IsSetUp l.records;
  within : length l.builder ≤ l.most;
  read : IfSome (g.R.Read.remaining l.fn.reader) (λ bytes. HasRead g.R.Read.remaining l.most (lineage_in l.most bytes) l.builder l.records);
}

abbrev pub decreases-loop-builder : goal.decreases-loop-builder
decreases-loop-builder g l = l.most - length l.builder
