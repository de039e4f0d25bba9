-- `write_all`: its clauses `no_calves` and `known`.
use Rattle.std.proofs.Common.{length}
use Rattle.herd_lineage.specs.declared.TheConstants.{DEPTH_LIMIT}
use Rattle.herd_kinship.specs.Coefficients.{IsBefore}
use Rattle.herd_kinship.proofs.lemmas.sires.BySires.{reached-nobody}
use Rattle.herd_kinship.proofs.coefficients.write_all.Goals as goal

pub returns-then-has_calves-clause-no_calves : goal.returns-then-has_calves-clause-no_calves
returns-then-has_calves-clause-no_calves g c = λ none.
    let calf = c.has_calves.ensures.yes c.if-has_calves.true in
    absurd (none calf.0 calf.1 calf.2)

pub returns-else-has_calves-clause-known : goal.returns-else-has_calves-clause-known
returns-else-has_calves-clause-known g c =
    reached-nobody DEPTH_LIMIT c.args.lineage.now (IsBefore 0) (IsBefore (length c.args.lineage.now)) c.args.known.now (c.has_calves.ensures.no c.if-has_calves.false) c.requires
