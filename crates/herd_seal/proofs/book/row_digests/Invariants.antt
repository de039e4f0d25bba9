use Rattle.std.proofs.Common.{◌≡◌, take}
use Rattle.merkle_tree.specs.Tree.{digests_of}
use Rattle.herd_seal.specs.Seal.{rows_of}
use Rattle.herd_seal.proofs.book.row_digests.Given as goal

abbrev pub invariant-loop-place : goal.invariant-loop-place
invariant-loop-place g l = l.digests.items ≡ take l.place (digests_of (rows_of l.frozen))
