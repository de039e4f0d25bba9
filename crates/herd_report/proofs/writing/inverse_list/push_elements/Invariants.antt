use Rattle.std.proofs.Common.{◌≡◌, ◌++◌, take}
use Rattle.std.specs.List.{flat_map}
use Rattle.herd_report.specs.writing.InverseList.{contribution_line}
use Rattle.herd_report.proofs.writing.inverse_list.push_elements.Given as goal

abbrev pub invariant-loop-element : goal.invariant-loop-element
invariant-loop-element g l = l.text ≡ l.fn.text ++ flat_map (contribution_line l.frozen l.number) (take l.element-index l.elements)
