use Rattle.std.proofs.Common.{◌≡◌, ◌-◌, length}
use Rattle.herd_kinship.proofs.pending.Pending.take_nearest.Given as goal

-- nothing is written on the way to the first chunk with a bit
abbrev pub invariant-loop-self : goal.invariant-loop-self
invariant-loop-self g l = l.self.chunks.items ≡ l.initial.self.chunks.items

abbrev pub decreases-loop-self : goal.decreases-loop-self
decreases-loop-self g l = length l.self.chunks.items - l.self.first
