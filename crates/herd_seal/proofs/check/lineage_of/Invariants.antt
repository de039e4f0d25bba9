use Rattle.std.proofs.Common.{◌≡◌, length}
use Rattle.herd_seal.specs.Certificate.{AreLinked}
use Rattle.herd_seal.proofs.check.lineage_of.Given as goal

abbrev pub invariant-loop-at : goal.invariant-loop-at
invariant-loop-at g l = (length l.builder ≡ l.at) × AreLinked l.rows l.builder
