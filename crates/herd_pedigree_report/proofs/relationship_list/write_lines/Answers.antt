-- `write_lines`: its lines are those of its column.
use Rattle.std.proofs.Common.{◌<◌, length, arith}
use Rattle.herd_text.proofs.lemmas.Exits.{on_err}
use Rattle.herd_text.proofs.lemmas.TextFacts.{front_nothing, some_after}
use Rattle.herd_pedigree_report.proofs.lemmas.PairFacts.{some_lines_with}
use Rattle.herd_pedigree_report.specs.RelationshipList.{lines_with}
use Rattle.herd_pedigree_report.proofs.relationship_list.write_lines.Goals as goal

pub returns-in_err-column-clause-err : goal.returns-in_err-column-clause-err
returns-in_err-column-clause-err g c =
    let partners = c.args.partners.now in
    let lineage = c.args.lineage.now in
    let given : 0 < length partners = grind arith in
    let lines = lines_with c.args.in_units lineage c.args.first partners in
    on_err c.from_residual.result (front_nothing _ _ (some_after c.args.text.now lines (some_lines_with c.args.in_units lineage c.args.first partners given)))

pub write_column-requires : goal.write_column-requires
write_column-requires g c = rw c.in_ok-column.ensures c.requires.partners

pub returns-clause-ok : goal.returns-clause-ok
returns-clause-ok g c = rw c.in_ok-column.ensures at c.write_column.ensures.ok

pub returns-clause-err : goal.returns-clause-err
returns-clause-err g c = rw c.in_ok-column.ensures at c.write_column.ensures.err
