use Rattle.std.proofs.Common.{◌≡◌, take}
use Rattle.std.specs.List.{AllWithin}
use Rattle.merkle_tree.specs.Tree.{IsBytes}
use Rattle.herd_seal.specs.Certificate.{leaves_of, row_bytes}
use Rattle.herd_seal.proofs.check.leaves_of.Given as goal

abbrev pub invariant-loop-row : goal.invariant-loop-row
invariant-loop-row g l =
    (l.leaves.items ≡ take l.row-index (leaves_of l.rows)) × AllWithin (λ row. IsBytes (row_bytes row)) l.rows 0 l.row-index
