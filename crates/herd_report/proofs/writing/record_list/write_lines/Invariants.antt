-- `write_lines`: what was written, what waits and the lines of the numbers that are left are the whole text.
use Rattle.std.proofs.Common.{drop}
use Rattle.std.specs.List.{flat_map}
use Rattle.herd_frozen.specs.freezing.Frozen.{book_of}
use Rattle.herd_text.proofs.lemmas.TextFacts.{Holds}
use Rattle.herd_report.specs.writing.RecordList.{line_under}
use Rattle.herd_report.proofs.writing.record_list.write_lines.Given as goal

abbrev pub invariant-loop-number : goal.invariant-loop-number
invariant-loop-number g l =
    let line = line_under (book_of l.frozen) in
    Holds (g.W.Write.contents l.fn.writer) (g.W.Write.contents l.writer) (flat_map line l.numbers) l.text
    (flat_map line (drop l.number-index l.numbers))
