use Rattle.std.proofs.Common.{drop}
use Rattle.herd_report.proofs.lemmas.writing.AncestorFacts.{LeadsFrom}
use Rattle.herd_report.proofs.writing.ancestors.ancestor.Given as goal

abbrev pub invariant-loop-parent : goal.invariant-loop-parent
invariant-loop-parent g l = LeadsFrom l.frozen l.start l.path l.rank (drop l.parent-index l.path)
