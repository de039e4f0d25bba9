-- `symmetry`: its result.
use Rattle.herd_frozen.specs.declared.TheConstants.{DEPTH_LIMIT, MOST_ANIMALS}
use Rattle.herd_advice.specs.FrozenAncestry.{ancestry_of, number_of_row}
use Rattle.herd_advice.proofs.lemmas.FrozenFacts.{frozen-lawful, frozen-member, frozen-shallow}
use Rattle.herd_kinship.proofs.lemmas.laws.LawFacts.{symmetric}
use Rattle.herd_advice.proofs.laws.symmetry.Goals as goal

pub returns : goal.returns
returns g c =
    let rows = c.args.frozen.now in
    symmetric (ancestry_of rows) (frozen-lawful DEPTH_LIMIT MOST_ANIMALS rows c.len.ensures.frozen) DEPTH_LIMIT (frozen-shallow DEPTH_LIMIT MOST_ANIMALS rows c.len.ensures.frozen)
    (number_of_row rows c.args.x) (number_of_row rows c.args.y) (frozen-member rows c.args.x c.requires.first) (frozen-member rows c.args.y c.requires.second)
