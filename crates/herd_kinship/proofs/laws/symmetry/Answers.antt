-- `symmetry`: its result.
use Rattle.std.proofs.Common.{length}
use Rattle.herd_lineage.specs.declared.TheConstants.{DEPTH_LIMIT, MOST_ANIMALS}
use Rattle.herd_kinship.specs.Ranks.{ranked}
use Rattle.herd_kinship.proofs.lemmas.laws.LawFacts.{symmetric}
use Rattle.herd_kinship.proofs.lemmas.lineages.LineageFacts.{ranked-lawful, ranked-shallow}
use Rattle.herd_kinship.proofs.lemmas.lineages.Ranks.{rank-in}
use Rattle.herd_kinship.proofs.laws.symmetry.Goals as goal

pub returns : goal.returns
returns g c =
    let rows = c.args.lineage.now in
    let is = c.len.ensures.lineage in
    symmetric (ranked rows) (ranked-lawful DEPTH_LIMIT MOST_ANIMALS rows is) DEPTH_LIMIT (ranked-shallow DEPTH_LIMIT MOST_ANIMALS rows is)
    c.args.x c.args.y (rank-in (length rows) c.args.x c.requires.first) (rank-in (length rows) c.args.y c.requires.second)
