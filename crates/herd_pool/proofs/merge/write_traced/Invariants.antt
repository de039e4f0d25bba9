use Rattle.herd_lineage.specs.Lineage.{level_of}
use Rattle.herd_lineage.specs.declared.TheConstants.{DEPTH_LIMIT}
use Rattle.herd_kinship.specs.Coefficients.{coefficient_at}
use Rattle.herd_pool.proofs.Writes.{AreBlocksWritten, HasBlock}
use Rattle.herd_pool.proofs.merge.write_traced.Given as goal

abbrev pub invariant-loop-block : goal.invariant-loop-block
invariant-loop-block g l =
    let f = coefficient_at DEPTH_LIMIT l.level.lineage.now in
    AreBlocksWritten f (HasBlock f l.level.block (level_of l.level.depth l.level.lineage.now)) l.initial.known l.known l.blocks l.block-index
