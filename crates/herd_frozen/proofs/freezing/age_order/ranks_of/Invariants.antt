-- The ranks of the keys so far.
use Rattle.std.proofs.Common.{◌≡◌, length}
use Rattle.herd_frozen.proofs.lemmas.freezing.RankFacts.{AreRanksBelow}
use Rattle.herd_frozen.proofs.freezing.age_order.ranks_of.Given as goal

abbrev pub invariant-loop-rank : goal.invariant-loop-rank
invariant-loop-rank g l = (length l.ranks.items ≡ length l.keys) × AreRanksBelow l.keys l.ranks.items l.rank
