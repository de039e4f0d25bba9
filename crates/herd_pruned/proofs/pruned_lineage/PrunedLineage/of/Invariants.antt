use Rattle.herd_lineage.specs.Lineage.{IsLineage}
use Rattle.herd_lineage.specs.declared.TheConstants.{DEPTH_LIMIT, MOST_ANIMALS}
use Rattle.herd_pruned.proofs.lemmas.PruningFacts.{IsPruning}
use Rattle.herd_pruned.proofs.pruned_lineage.PrunedLineage.of.Given as goal

-- of the animals before the rank those that are marked are kept
abbrev pub invariant-loop-rank : goal.invariant-loop-rank
invariant-loop-rank g l = record {
  lineage : IsLineage DEPTH_LIMIT MOST_ANIMALS l.kept;
  pruning : IsPruning l.lineage l.marks.items l.rank l.kept l.ranks.items l.places.items;
}
