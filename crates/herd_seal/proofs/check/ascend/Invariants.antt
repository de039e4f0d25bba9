use Rattle.herd_seal.specs.CheckFaults.{AscendTo}
use Rattle.herd_seal.proofs.check.ascend.Given as goal

abbrev pub invariant-loop-at : goal.invariant-loop-at
invariant-loop-at l = AscendTo l.rows l.at
