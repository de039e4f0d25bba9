-- `write_relationships`: what was written, what waits and the lines of the animals that are left are the whole text.
use Rattle.std.proofs.Common.{◌==◌, drop, length}
use Rattle.herd_frozen.specs.freezing.Frozen.{book_of}
use Rattle.herd_text.proofs.lemmas.TextFacts.{Holds}
use Rattle.herd_report.specs.writing.RelationshipList.{names_of, pair_lines, relationships_text}
use Rattle.herd_report.proofs.writing.relationship_list.write_relationships.Given as goal

abbrev pub invariant-loop-place : goal.invariant-loop-place
invariant-loop-place g l =
    let book = book_of l.frozen in
    Holds (g.W.Write.contents l.fn.writer) (g.W.Write.contents l.writer) (relationships_text book l.numbers l.others) l.text
    (pair_lines book (length l.others == 0) (names_of l.named.items) (drop l.place (names_of l.asked.items)))
