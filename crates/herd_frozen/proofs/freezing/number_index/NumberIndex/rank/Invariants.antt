-- The ranks of the number that are left.
use Rattle.herd_frozen.specs.freezing.Frozen.{numbers_of}
use Rattle.herd_frozen.proofs.lemmas.freezing.IndexFacts.{IsFollowed}
use Rattle.herd_frozen.proofs.freezing.number_index.NumberIndex.rank.Given as goal

abbrev pub invariant-loop-after : goal.invariant-loop-after
invariant-loop-after g l = IsFollowed (numbers_of l.rows) l.number l.after

abbrev pub decreases-loop-after : goal.decreases-loop-after
decreases-loop-after g l = l.after
