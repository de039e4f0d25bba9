use Rattle.herd_lineage.specs.declared.TheConstants.{DEPTH_LIMIT, MOST_ANIMALS}
use Rattle.herd_pool.specs.Levels.{KnowsBelow}
use Rattle.herd_pool.proofs.pool.coefficients.Given as goal

abbrev pub invariant-loop-depth : goal.invariant-loop-depth
invariant-loop-depth g l = KnowsBelow DEPTH_LIMIT MOST_ANIMALS l.lineage l.known.items l.depth
