-- `unit`: its result.
use Rattle.herd_frozen.specs.freezing.Frozen.{book_of}
use Rattle.herd_frozen.specs.declared.TheConstants.{DEPTH_LIMIT, MOST_ANIMALS}
use Rattle.herd_advice.proofs.lemmas.BookPaths.{depth_from_book}
use Rattle.herd_advice.specs.FrozenAncestry.{ancestry_of, number_of_row}
use Rattle.herd_advice.proofs.lemmas.FrozenFacts.{frozen-lawful, frozen-member}
use Rattle.herd_kinship.proofs.lemmas.laws.LawFacts.{keeps-halves}
use Rattle.herd_kinship.proofs.lemmas.ancestry.Depth.{Below-depth}
use Rattle.herd_advice.proofs.laws.unit.Goals as goal

pub returns : goal.returns
returns g c =
    let rows = c.args.frozen.now in
    let kin = ancestry_of rows in
    let x = number_of_row rows c.args.x in
    let y = number_of_row rows c.args.y in
    λ d e dx dy.
    keeps-halves kin (frozen-lawful DEPTH_LIMIT MOST_ANIMALS rows c.len.ensures.frozen) x y d e
    (Below-depth kin d x (frozen-member rows c.args.x c.requires.first) (depth_from_book (book_of rows) x d dx))
    (Below-depth kin e y (frozen-member rows c.args.y c.requires.second) (depth_from_book (book_of rows) y e dy))
