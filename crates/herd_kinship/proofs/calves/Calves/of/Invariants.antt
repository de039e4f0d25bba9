use Rattle.herd_kinship.specs.CalfLinks.{AreLinked}
use Rattle.herd_kinship.proofs.calves.Calves.of.Given as goal

-- the calves so far are linked
abbrev pub invariant-loop-calf : goal.invariant-loop-calf
invariant-loop-calf g l = AreLinked l.lineage l.calf l.latest.items l.earlier.items
