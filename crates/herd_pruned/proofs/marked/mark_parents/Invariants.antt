use Rattle.herd_pruned.specs.Marked.{IsMarked}
use Rattle.herd_pruned.proofs.lemmas.MarkedFacts.{IsMarking}
use Rattle.herd_pruned.proofs.marked.mark_parents.Given as goal

-- the parents of the animals from the rank on are marked
abbrev pub invariant-loop-rank : goal.invariant-loop-rank
invariant-loop-rank g l = IsMarking l.lineage (IsMarked l.fn.marks) l.rank l.marks
