-- `SireLevel::count_calves`: what `calves` requires, that nothing overflows, its loop, and its result.
use Rattle.std.proofs.Common.{◌≤◌, arith, length, ◌∙◌, ap, subst, sym}
use Rattle.std.specs.List.{sum_by}
use Rattle.std.proofs.lemmas.List.{take_all}
use Rattle.std.proofs.lemmas.List.Sums.{sum_by_more, sum_by_more_le}
use Rattle.herd_kinship.specs.CalfLinks.{calf_count}
use Rattle.herd_pool.proofs.LevelFacts.{block_of-ranks}
use Rattle.herd_pool.proofs.WorthFacts.{calves-few}
use Rattle.herd_pool.proofs.sires.SireLevel.count_calves.Goals as goal

pub count-calves-requires-clause-sire : goal.count-calves-requires-clause-sire
count-calves-requires-clause-sire g c =
    let level = c.args.self.now.level in
    (block_of-ranks level.lineage.now level.depth level.block c.args.number c.ranks-sire-items.result.now c.ranks-sire-items.ensures c.loop-sire.sire-index 0 c.loop-sire-test.true).within

-- the calves so far and the next sire's are within those of the block
pub overflow_add-calves : goal.overflow_add-calves
overflow_add-calves g c =
    let level = c.args.self.now.level in
    let rows = level.lineage.now in
    let ranks = c.ranks-sire-items.result.now in
    let i = c.loop-sire.sire-index in
    let most : sum_by (calf_count rows) ranks ≤ length rows =
    subst (λ xs. sum_by (calf_count rows) xs ≤ length rows) (sym c.ranks-sire-items.ensures) (calves-few rows level.depth level.block c.args.number) in
    let few = c.requires.lineage.few in
    let within = sum_by_more_le (calf_count rows) ranks i 0 c.loop-sire-test.true in
    let before = c.loop-sire.invariant.calves in
    let more = c.count-calves.ensures in
    omega arith

pub loop-sire-preserved : goal.loop-sire-preserved
loop-sire-preserved g c =
    let rows = c.args.self.now.level.lineage.now in
    let ranks = c.ranks-sire-items.result.now in
    let i = c.loop-sire.sire-index in
    record {
      ranks = c.ranks-sire-items.ensures;
      calves = let before = c.loop-sire.invariant.calves in let more = c.count-calves.ensures in let next = sum_by_more (calf_count rows) ranks i 0 c.loop-sire-test.true in omega arith;
    }

pub returns : goal.returns
returns g c =
    let level = c.args.self.now.level in
    let rows = level.lineage.now in
    c.loop-sire.invariant.calves
    ∙ ap (sum_by (calf_count rows)) (take_all c.loop-sire.sire-index c.ranks-sire-items.result.now (omega arith) ∙ c.ranks-sire-items.ensures)
