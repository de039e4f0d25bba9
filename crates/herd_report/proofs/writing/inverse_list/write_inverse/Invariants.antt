use Rattle.std.proofs.Common.{drop, length}
use Rattle.std.specs.List.{flat_map, range_with_len}
use Rattle.herd_text.proofs.lemmas.TextFacts.{Holds}
use Rattle.herd_report.specs.writing.InverseList.{contributions_text, inverse_text}
use Rattle.herd_report.proofs.writing.inverse_list.write_inverse.Given as goal

abbrev pub invariant-loop-rank : goal.invariant-loop-rank
invariant-loop-rank g l =
    Holds (g.W.Write.contents l.fn.writer) (g.W.Write.contents l.writer) (inverse_text l.frozen) l.text
    (flat_map (contributions_text l.frozen) (drop l.rank (range_with_len 0 (length l.frozen))))
