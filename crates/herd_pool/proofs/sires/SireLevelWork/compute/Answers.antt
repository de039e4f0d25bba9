-- `SireLevelWork::compute`: what `append_calves` requires, its loop, and its clause `computed`.
use Rattle.std.proofs.Common.{◌≡◌, ℕ, List, arith, length, slice_index, sym, subst}
use Rattle.herd_lineage.specs.declared.TheConstants.{DEPTH_LIMIT, MOST_ANIMALS}
use Rattle.herd_kinship.proofs.lemmas.sires.BySires.{less_deep-ancestors}
use Rattle.herd_pool.specs.Sires.{AreCalvesAmong}
use Rattle.herd_pool.proofs.LevelFacts.{block_of-ascending, block_of-ranks}
use Rattle.herd_pool.proofs.SireFacts.{calves_at_first, calves_further}
use Rattle.herd_pool.proofs.sires.SireLevelWork.compute.Goals as goal

pub loop-sire-init : goal.loop-sire-init
loop-sire-init g c =
    let rows = c.args.self.now.level.lineage.now in
    let ranks = c.ranks-sire-items.result.now in
    record {
      ranks = c.ranks-sire-items.ensures;
      ready = c.requires.ready;
      calves = subst (AreCalvesAmong DEPTH_LIMIT rows ranks 0) (sym c.new-output.ensures.items) (calves_at_first DEPTH_LIMIT rows ranks);
    }

pub append_calves-requires-clause-sire : goal.append_calves-requires-clause-sire
append_calves-requires-clause-sire g c =
    let level = c.args.self.now.level in
    (block_of-ranks level.lineage.now level.depth level.block c.args.number c.ranks-sire-items.result.now c.ranks-sire-items.ensures c.loop-sire.sire-index 0 c.loop-sire-test.true).within

pub append_calves-requires-clause-known : goal.append_calves-requires-clause-known
append_calves-requires-clause-known g c =
    let level = c.args.self.now.level in
    let ranks = c.ranks-sire-items.result.now in
    let i = c.loop-sire.sire-index in
    let at = block_of-ranks level.lineage.now level.depth level.block c.args.number ranks c.ranks-sire-items.ensures i 0 c.loop-sire-test.true in
    let deep = at.deep in
    less_deep-ancestors DEPTH_LIMIT MOST_ANIMALS level.lineage.now c.requires.knows.linked.lineage level.depth (slice_index ranks i) c.args.self.now.known.now at.within (omega arith) c.requires.knows.reached

pub loop-sire-preserved : goal.loop-sire-preserved
loop-sire-preserved g c =
    let level = c.args.self.now.level in
    let ranks = c.ranks-sire-items.result.now in
    let ascending = block_of-ascending level.lineage.now level.depth level.block c.args.number ranks c.ranks-sire-items.ensures in
    record {
      ranks = c.ranks-sire-items.ensures;
      ready = c.append_calves.ensures.ready;
      calves = calves_further DEPTH_LIMIT level.lineage.now ranks c.loop-sire.sire-index c.loop-sire.output.items c.append_calves.new.list.items ascending c.loop-sire-test.true c.loop-sire.invariant.calves
          c.in_ok-append_calves.ensures.calves;
    }

pub returns-clause-computed : goal.returns-clause-computed
returns-clause-computed g c =
    let rows = c.args.self.now.level.lineage.now in
    let ranks = c.ranks-sire-items.result.now in
    let calves = c.loop-sire.output.items in
    let all : c.loop-sire.sire-index ≡ length ranks = omega arith in
    subst (λ (xs : List ℕ). AreCalvesAmong DEPTH_LIMIT rows xs (length xs) calves) c.ranks-sire-items.ensures
    (subst (λ (n : ℕ). AreCalvesAmong DEPTH_LIMIT rows ranks n calves) all c.loop-sire.invariant.calves)
