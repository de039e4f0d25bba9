use Rattle.herd_lineage.specs.declared.TheConstants.{DEPTH_LIMIT}
use Rattle.herd_kinship.proofs.lemmas.sires.PassedOn.{AreRelated}
use Rattle.herd_kinship.proofs.relationships.Relationships.of.Given as goal

-- the relationships with the ranks so far are made
abbrev pub invariant-loop-j : goal.invariant-loop-j
invariant-loop-j g l = AreRelated DEPTH_LIMIT l.lineage l.rank l.j l.column.items
