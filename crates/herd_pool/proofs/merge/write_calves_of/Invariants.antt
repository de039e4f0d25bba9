use Rattle.std.proofs.Common.{ℕ, All}
use Rattle.herd_kinship.specs.CalfCoefficients.{AreWritten, HaveValues}
use Rattle.herd_pool.proofs.Writes.{AreBlocksWritten}
use Rattle.herd_pool.proofs.merge.write_calves_of.Given as goal

abbrev pub invariant-loop-block : goal.invariant-loop-block
invariant-loop-block g l =
    (f : ℕ → ℕ) → All (λ block. HaveValues f block.output.items) l.blocks → AreBlocksWritten f (λ known block. AreWritten f known block.output.items) l.initial.known l.known l.blocks l.block-index
