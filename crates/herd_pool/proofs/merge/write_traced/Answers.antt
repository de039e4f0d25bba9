-- `write_traced`: what `write_block` requires, its loop, and its clause `written`.
use Rattle.std.proofs.Common.{ℕ, Vec, arith, ◌∙◌, ap, map, slice_index, subst, sym}
use Rattle.std.specs.List.{All}
use Rattle.std.proofs.lemmas.List.{take_all}
use Rattle.herd_lineage.specs.Lineage.{level_of}
use Rattle.herd_lineage.specs.declared.TheConstants.{DEPTH_LIMIT}
use Rattle.herd_kinship.specs.Coefficients.{coefficient_at}
use Rattle.herd_kinship.proofs.lemmas.sires.CalfListFacts.{kept-stays}
use Rattle.herd_pool.specs.Levels.{AreTraced, HasAt, block_of}
use Rattle.herd_pool.specs.declared.work.ComputedBlock.{ComputedBlock}
use Rattle.herd_pool.proofs.LevelFacts.{block_of-ranks}
use Rattle.herd_pool.proofs.Writes.{HasBlock, block_written}
use Rattle.herd_pool.proofs.merge.write_traced.Goals as goal

pub write_block-requires : goal.write_block-requires
write_block-requires g c = λ k d below.
    let at = block_of-ranks c.args.level.lineage.now c.args.level.depth c.args.level.block c.block-item.result.number c.ranks.result.now c.ranks.ensures k d below in
    omega (arith, at.within)

pub loop-block-preserved : goal.loop-block-preserved
loop-block-preserved g c =
    let level = c.args.level in
    let rows = level.lineage.now in
    let f = coefficient_at DEPTH_LIMIT rows in
    let ranks = level_of level.depth rows in
    let block = c.block-item.result in
    let known = c.loop-block.known in
    let new = c.write_block.new.known in
    let Right : ComputedBlock (Vec ℕ _) → Type 0 = λ b. AreTraced DEPTH_LIMIT rows level.depth level.block b.number b.output.items in
    let right : Right block = subst Right (sym c.block-item.is) (c.requires.traced c.loop-block.block-index block c.loop-block-test.true) in
    let wrote = c.write_block.ensures f (c.deref.ensures.value ∙ right ∙ ap (map f) (sym c.ranks.ensures)) in
    block_written f (HasBlock f level.block ranks) c.args.blocks.now c.loop-block.block-index block c.args.known.now known new c.loop-block-test.true c.block-item.is
    (λ b had i low. kept-stays f known new wrote.0 (slice_index (block_of level.block b.number ranks) i) (had i low)) wrote.0 (subst (HasAt f new) c.ranks.ensures wrote.1) c.loop-block.invariant

pub returns-clause-written : goal.returns-clause-written
returns-clause-written g c =
    let level = c.args.level in
    let rows = level.lineage.now in
    subst (All (HasBlock (coefficient_at DEPTH_LIMIT rows) level.block (level_of level.depth rows) c.loop-block.known)) (take_all c.loop-block.block-index c.args.blocks.now (omega arith)) c.loop-block.invariant.written
