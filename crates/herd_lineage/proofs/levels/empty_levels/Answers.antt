-- `empty_levels`: its result.
use Rattle.std.proofs.Common.{arith, ◌∙◌, ◌≡◌, ◌+◌}
use Rattle.herd_lineage.specs.declared.TheConstants.{DEPTH_LIMIT}
use Rattle.herd_lineage.proofs.lemmas.LevelFacts.{levels_of-none}
use Rattle.herd_lineage.proofs.levels.empty_levels.Goals as goal

pub returns : goal.returns
returns g c =
    let end : c.loop.counter ≡ DEPTH_LIMIT + 1 = let a = c.loop.auto in let t = c.loop-test.false in omega arith in
    c.loop.invariant.empty ∙ levels_of-none DEPTH_LIMIT c.loop.counter end
