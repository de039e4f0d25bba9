-- `sort_out`: the numbers so far are sorted out.
use Rattle.std.proofs.Common.{◌≡◌, ◌++◌, take}
use Rattle.std.specs.List.{flat_map}
use Rattle.herd_frozen.specs.freezing.Frozen.{book_of}
use Rattle.herd_report.specs.writing.RelationshipList.{AreAsked, absent_line}
use Rattle.herd_report.proofs.writing.relationship_list.sort_out.Given as goal

abbrev pub invariant-loop-number : goal.invariant-loop-number
invariant-loop-number g l = record {
  text : l.text ≡ l.fn.text ++ flat_map (absent_line (book_of l.frozen)) (take l.number-index l.numbers);
  asked : AreAsked l.frozen (take l.number-index l.numbers) l.asked.items;
}
