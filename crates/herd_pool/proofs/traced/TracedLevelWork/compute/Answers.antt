-- `TracedLevelWork::compute`: what `trace` requires and its loop.
use Rattle.std.proofs.Common.{◌≡◌, ◌∙◌, slice_index}
use Rattle.herd_lineage.specs.declared.TheConstants.{DEPTH_LIMIT, MOST_ANIMALS}
use Rattle.herd_kinship.specs.Coefficients.{coefficient_at}
use Rattle.herd_pool.proofs.LevelFacts.{ancestors_known, block_of-ranks, inbred-entry, numerators_more}
use Rattle.herd_pool.proofs.traced.TracedLevelWork.compute.Goals as goal

pub trace-requires-clause-rank : goal.trace-requires-clause-rank
trace-requires-clause-rank g c =
    let level = c.args.self.now.level in
    (block_of-ranks level.lineage.now level.depth level.block c.args.number c.ranks-rank-items.result.now c.ranks-rank-items.ensures c.loop-rank.rank-index 0 c.loop-rank-test.true).within

pub trace-requires-clause-known : goal.trace-requires-clause-known
trace-requires-clause-known g c =
    let level = c.args.self.now.level in
    let ranks = c.ranks-rank-items.result.now in
    let i = c.loop-rank.rank-index in
    ancestors_known DEPTH_LIMIT MOST_ANIMALS level.lineage.now c.args.self.now.known.now level.depth (slice_index ranks i) c.requires.knows
    (block_of-ranks level.lineage.now level.depth level.block c.args.number ranks c.ranks-rank-items.ensures i 0 c.loop-rank-test.true)

pub loop-rank-preserved : goal.loop-rank-preserved
loop-rank-preserved g c =
    let level = c.args.self.now.level in
    let rows = level.lineage.now in
    let ranks = c.ranks-rank-items.result.now in
    let i = c.loop-rank.rank-index in
    let at = block_of-ranks rows level.depth level.block c.args.number ranks c.ranks-rank-items.ensures i 0 c.loop-rank-test.true in
    let value : c.inbred.result ≡ coefficient_at DEPTH_LIMIT rows (slice_index ranks i) =
    c.inbred.ensures.value ∙ inbred-entry DEPTH_LIMIT MOST_ANIMALS rows (slice_index ranks i) c.in_ok-value.value c.requires.knows.lineage at.within c.in_ok-value.ensures in
    record {
      ranks = c.ranks-rank-items.ensures;
      output = numerators_more (coefficient_at DEPTH_LIMIT rows) ranks c.loop-rank.output.items c.push.new.self.items i c.inbred.result c.loop-rank-test.true c.loop-rank.invariant.output value c.in_ok-push.ensures.items;
    }
