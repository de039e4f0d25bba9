use Rattle.std.proofs.Common.{◌≡◌, ◌+◌, ◌≤◌, ◌++◌, length}
use Rattle.std.specs.List.{All, flat_map}
use Rattle.merkle_tree.specs.Tree.{IsDigest}
use Rattle.herd_seal.specs.CertificateText.{digest_line}
use Rattle.herd_seal.proofs.reading.read_digests.Given as goal

abbrev pub invariant-loop-rest : goal.invariant-loop-rest
invariant-loop-rest g l = record {
  joined : flat_map digest_line l.digests.items ++ l.rest ≡ l.text;
  written : All IsDigest l.digests.items;
  few : length l.digests.items + length l.rest ≤ length l.text;
}

abbrev pub decreases-loop-rest : goal.decreases-loop-rest
decreases-loop-rest g l = length l.rest
