use Rattle.std.proofs.Common.{◌≡◌, ◌++◌, map, take}
use Rattle.herd_report.specs.writing.Ancestors.{letter_of}
use Rattle.herd_report.proofs.writing.ancestors.push_letters.Given as goal

abbrev pub invariant-loop-parent : goal.invariant-loop-parent
invariant-loop-parent g l = l.text ≡ l.fn.text ++ map letter_of (take l.parent-index l.path)
