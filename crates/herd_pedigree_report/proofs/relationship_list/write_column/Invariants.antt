-- `write_column`: what was written, what waits and the lines with the partners that are left are the whole text.
use Rattle.std.proofs.Common.{◌++◌, drop}
use Rattle.herd_text.proofs.lemmas.TextFacts.{Holds}
use Rattle.herd_pedigree_report.specs.RelationshipList.{lines_with}
use Rattle.herd_pedigree_report.proofs.relationship_list.write_column.Given as goal

abbrev pub invariant-loop-partner : goal.invariant-loop-partner
invariant-loop-partner g l =
    let lines = lines_with l.in_units l.column.rows l.column.rank in
    Holds (g.W.Write.contents l.fn.writer) (g.W.Write.contents l.writer) (l.fn.text ++ lines l.partners) l.text
    (lines (drop l.partner-index l.partners))
