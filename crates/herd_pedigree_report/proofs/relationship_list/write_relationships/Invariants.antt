-- `write_relationships`: what was written, what waits and the lines of the animals that are left are the whole text.
use Rattle.std.proofs.Common.{◌==◌, drop, length}
use Rattle.herd_text.proofs.lemmas.TextFacts.{Holds}
use Rattle.herd_pedigree_report.specs.RelationshipList.{pair_lines, relationships_text}
use Rattle.herd_pedigree_report.proofs.relationship_list.write_relationships.Given as goal

abbrev pub invariant-loop-place : goal.invariant-loop-place
invariant-loop-place g l =
    Holds (g.W.Write.contents l.fn.writer) (g.W.Write.contents l.writer) (relationships_text l.in_units l.lineage l.animals l.others) l.text
    (pair_lines l.in_units l.lineage (length l.others == 0) l.others (drop l.place l.animals))
