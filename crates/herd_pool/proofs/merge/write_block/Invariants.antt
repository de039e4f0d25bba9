use Rattle.std.proofs.Common.{◌≡◌, ℕ, length, map}
use Rattle.herd_kinship.specs.CalfCoefficients.{Keeps}
use Rattle.herd_pool.proofs.Writes.{HasBefore}
use Rattle.herd_pool.proofs.merge.write_block.Given as goal

abbrev pub invariant-loop-rank : goal.invariant-loop-rank
invariant-loop-rank l =
    (f : ℕ → ℕ) → l.numerators ≡ map f l.ranks
    → Keeps f l.initial.known l.known × HasBefore f l.known l.ranks (length l.yielded)
