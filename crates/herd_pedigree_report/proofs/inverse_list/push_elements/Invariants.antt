use Rattle.std.proofs.Common.{◌≡◌, ◌++◌, take}
use Rattle.std.specs.List.{flat_map}
use Rattle.herd_pedigree_report.specs.InverseList.{contribution_line}
use Rattle.herd_pedigree_report.proofs.inverse_list.push_elements.Given as goal

abbrev pub invariant-loop-element : goal.invariant-loop-element
invariant-loop-element g l = l.text ≡ l.fn.text ++ flat_map (contribution_line l.rank) (take l.element-index l.elements)
