use Rattle.std.proofs.Common.{ℕ, ◌<◌}
use Rattle.herd_kinship.specs.CalfLinks.{IsCalf}
use Rattle.herd_kinship.proofs.calves.has_calves.Given as goal

-- none of the animals so far has both parents known
abbrev pub invariant-loop-calf : goal.invariant-loop-calf
invariant-loop-calf g l = (s x : ℕ) → x < l.calf → IsCalf l.lineage s x → ⊥
