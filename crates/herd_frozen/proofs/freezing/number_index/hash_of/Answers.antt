-- `hash_of`: its result.
use Rattle.std.proofs.Common.{rules}
use Rattle.herd_frozen.specs.freezing.NumberIndex.{hash_of}
use Rattle.herd_frozen.proofs.freezing.number_index.hash_of.Goals as goal

pub returns : goal.returns
unfolding hash_of
returns c = search rules
