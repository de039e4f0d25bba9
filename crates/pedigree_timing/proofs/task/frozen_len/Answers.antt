-- The frozen rows are as many as the animals.
use Rattle.std.proofs.Common.{refl, ◌∙◌}
use Rattle.pedigree_timing.proofs.BookFacts.{length-IsFrozenFrom}
use Rattle.pedigree_timing.proofs.task.frozen_len.Goals as goal

pub returns : goal.returns
returns c =
    c.len.ensures.value ∙ length-IsFrozenFrom _ _ _ _ _ c.in_ok-frozen.ensures refl
