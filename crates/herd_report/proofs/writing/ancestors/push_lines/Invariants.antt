use Rattle.std.proofs.Common.{◌≡◌, ◌++◌, take}
use Rattle.std.specs.List.{flat_map}
use Rattle.herd_frozen.specs.freezing.Frozen.{book_of}
use Rattle.herd_advice.specs.FrozenAncestry.{number_of_row}
use Rattle.herd_report.specs.writing.Certificate.{ancestor_line}
use Rattle.herd_report.proofs.writing.ancestors.push_lines.Given as goal

abbrev pub invariant-loop-path : goal.invariant-loop-path
invariant-loop-path g l =
    l.text ≡ l.fn.text ++ flat_map (λ path. ancestor_line (book_of l.frozen) (number_of_row l.frozen l.rank) path.now) (take l.path-index l.paths)
