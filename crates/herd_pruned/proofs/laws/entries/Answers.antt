-- `entries`: its result.
use Rattle.std.proofs.Common.{List, subst}
use Rattle.herd_lineage.specs.Lineage.{IsLineage}
use Rattle.herd_lineage.specs.declared.lineage.Parents.{Parents}
use Rattle.herd_lineage.specs.declared.TheConstants.{DEPTH_LIMIT, MOST_ANIMALS}
use Rattle.herd_pruned.proofs.lemmas.EntryFacts.{entry-kept}
use Rattle.herd_pruned.proofs.laws.entries.Goals as goal

pub returns : goal.returns
returns g c =
    entry-kept DEPTH_LIMIT MOST_ANIMALS c.args.whole.now c.args.pruned.now
    (subst (λ (rows : List Parents). IsLineage DEPTH_LIMIT MOST_ANIMALS rows) c.lineage.ensures.value c.lineage.ensures.lineage)
    c.requires.pruned c.args.x c.args.y c.requires.first c.requires.second
