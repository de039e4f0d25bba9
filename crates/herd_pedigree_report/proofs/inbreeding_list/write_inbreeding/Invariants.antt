-- `write_inbreeding`: what was written, what waits and the lines of the animals that are left are the whole text.
use Rattle.std.proofs.Common.{drop, length}
use Rattle.std.specs.List.{flat_map, range_with_len}
use Rattle.herd_text.proofs.lemmas.TextFacts.{Holds}
use Rattle.herd_pedigree_report.specs.InbreedingList.{animal_line, inbreeding_text}
use Rattle.herd_pedigree_report.proofs.inbreeding_list.write_inbreeding.Given as goal

abbrev pub invariant-loop-rank : goal.invariant-loop-rank
invariant-loop-rank g l =
    Holds (g.W.Write.contents l.fn.writer) (g.W.Write.contents l.writer) (inbreeding_text l.in_units l.lineage) l.text
    (flat_map (animal_line l.in_units l.lineage) (drop l.rank (range_with_len 0 (length l.lineage))))
