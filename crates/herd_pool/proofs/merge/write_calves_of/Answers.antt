-- `write_calves_of`: its loop and its result.
use Rattle.std.proofs.Common.{ℕ, List, Vec, arith, get_or, subst, sym}
use Rattle.std.specs.List.{All}
use Rattle.std.proofs.lemmas.List.{take_all}
use Rattle.herd_kinship.specs.CalfCoefficients.{AreWritten, HasWritten, HaveValues}
use Rattle.herd_kinship.specs.declared.calves.CalfCoefficient.{CalfCoefficient}
use Rattle.herd_kinship.proofs.lemmas.sires.CalfListFacts.{kept-stays}
use Rattle.herd_pool.specs.declared.work.ComputedBlock.{ComputedBlock}
use Rattle.herd_pool.proofs.Writes.{block_written}
use Rattle.herd_pool.proofs.merge.write_calves_of.Goals as goal

pub loop-block-preserved : goal.loop-block-preserved
loop-block-preserved g c = λ f values.
    let block = c.block-item.result in
    let i = c.loop-block.block-index in
    let known = c.loop-block.known in
    let new = c.write_calves.new.known in
    let Right : ComputedBlock (Vec CalfCoefficient _) → Type 0 = λ b. HaveValues f b.output.items in
    let mine : Right block = subst Right (sym c.block-item.is) (values i block c.loop-block-test.true) in
    let has : HasWritten f block.output.items known new =
    subst (λ (calves : List CalfCoefficient). HasWritten f calves known new) c.deref.ensures.value
    (c.write_calves.ensures.written f (subst (λ (calves : List CalfCoefficient). HaveValues f calves) (sym c.deref.ensures.value) mine)) in
    let Has : List ℕ → ComputedBlock (Vec CalfCoefficient _) → Type 0 = λ now b. AreWritten f now b.output.items in
    block_written f Has c.args.blocks.now i block c.args.known.now known new c.loop-block-test.true c.block-item.is
    (λ b had k d low. kept-stays f known new has.kept (get_or b.output.items k d).rank (had k d low)) has.kept has.written (c.loop-block.invariant f values)

pub returns : goal.returns
returns g c = λ f values.
    let was = c.loop-block.invariant f values in (
      was.kept,
      subst (λ (blocks : List (ComputedBlock (Vec CalfCoefficient _))). All (λ block. AreWritten f c.loop-block.known block.output.items) blocks)
          (take_all c.loop-block.block-index c.args.blocks.now (omega arith)) was.written,
    )
