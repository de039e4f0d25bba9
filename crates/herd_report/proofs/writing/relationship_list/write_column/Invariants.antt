-- `write_column`: what was written, what waits and the lines with the partners that are left are the whole text.
use Rattle.std.proofs.Common.{◌++◌, drop}
use Rattle.herd_frozen.specs.freezing.Frozen.{book_of}
use Rattle.herd_advice.specs.FrozenAncestry.{number_of_row}
use Rattle.herd_text.proofs.lemmas.TextFacts.{Holds}
use Rattle.herd_report.specs.writing.RelationshipList.{lines_with, names_of}
use Rattle.herd_report.proofs.writing.relationship_list.write_column.Given as goal

abbrev pub invariant-loop-partner : goal.invariant-loop-partner
invariant-loop-partner g l =
    let book = book_of l.column.rows in
    let own = number_of_row l.column.rows l.column.rank in
    Holds (g.W.Write.contents l.fn.writer) (g.W.Write.contents l.writer)
    (l.fn.text ++ lines_with book own (names_of l.partners)) l.text
    (lines_with book own (names_of (drop l.partner-index l.partners)))
