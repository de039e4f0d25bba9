-- `unit`: its result.
use Rattle.herd_lineage.specs.declared.TheConstants.{DEPTH_LIMIT, MOST_ANIMALS}
use Rattle.herd_kinship.specs.Ranks.{ranked}
use Rattle.herd_lineage.specs.Lineage.{depth_at}
use Rattle.herd_kinship.proofs.lemmas.laws.LawFacts.{keeps-halves}
use Rattle.herd_kinship.proofs.lemmas.lineages.LineageFacts.{ranked-below_depth, ranked-lawful}
use Rattle.herd_kinship.proofs.laws.unit.Goals as goal

pub returns : goal.returns
returns g c =
    let rows = c.args.lineage.now in
    let is = c.len.ensures.lineage in
    keeps-halves (ranked rows) (ranked-lawful DEPTH_LIMIT MOST_ANIMALS rows is) c.args.x c.args.y (depth_at rows c.args.x) (depth_at rows c.args.y)
    (ranked-below_depth DEPTH_LIMIT MOST_ANIMALS rows is c.args.x c.requires.first) (ranked-below_depth DEPTH_LIMIT MOST_ANIMALS rows is c.args.y c.requires.second)
