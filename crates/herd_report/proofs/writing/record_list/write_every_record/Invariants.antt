-- `write_every_record`: what was written, what waits and the lines of the animals that are left are the whole text.
use Rattle.std.proofs.Common.{drop}
use Rattle.herd_text.proofs.lemmas.TextFacts.{Holds}
use Rattle.herd_report.specs.writing.RecordList.{every_record}
use Rattle.herd_report.proofs.writing.record_list.write_every_record.Given as goal

abbrev pub invariant-loop-rank : goal.invariant-loop-rank
invariant-loop-rank g l =
    Holds (g.W.Write.contents l.fn.writer) (g.W.Write.contents l.writer) (every_record l.frozen) l.text
    (every_record (drop l.rank l.frozen))
