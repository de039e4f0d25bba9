-- `write_lines`: its lines are those of its column.
use Rattle.std.proofs.Common.{◌<◌, [], length, arith}
use Rattle.std.proofs.lemmas.List.{length-map}
use Rattle.std.proofs.lemmas.Option.{get_or_from_slice_get}
use Rattle.herd_frozen.specs.freezing.Frozen.{book_of, numbers_of}
use Rattle.herd_text.proofs.lemmas.Exits.{on_err}
use Rattle.herd_text.proofs.lemmas.TextFacts.{front_nothing, some_after}
use Rattle.herd_report.proofs.lemmas.writing.RelationshipFacts.{some_lines_with}
use Rattle.herd_report.specs.declared.writing.relationship_list.Asked.{Asked}
use Rattle.herd_report.specs.writing.RelationshipList.{lines_with, names_of}
use Rattle.herd_report.proofs.writing.relationship_list.write_lines.Goals as goal

pub returns-in_err-column-clause-err : goal.returns-in_err-column-clause-err
returns-in_err-column-clause-err g c =
    let names = names_of c.args.partners.now in
    let given : 0 < length c.args.partners.now = grind arith in
    let some : 0 < length names =
    omega (arith, given, length-map c.args.partners.now (λ (animal : Asked). animal.number)) in
    let lines = lines_with (book_of c.args.frozen.now) c.args.first.number names in
    let left = some_lines_with (book_of c.args.frozen.now) c.args.first.number names some in
    on_err c.from_residual.result (front_nothing _ _ (some_after c.args.text.now lines left))

pub write_column-requires : goal.write_column-requires
write_column-requires g c = rw c.in_ok-column.ensures c.requires.partners

pub returns-clause-ok : goal.returns-clause-ok
returns-clause-ok g c =
    let numbers = numbers_of c.args.frozen.now in
    let own = get_or_from_slice_get numbers c.args.first.rank c.args.first.number [] c.requires.first in
    rw (← own) (rw c.in_ok-column.ensures at c.write_column.ensures.ok)

pub returns-clause-err : goal.returns-clause-err
returns-clause-err g c =
    let numbers = numbers_of c.args.frozen.now in
    let own = get_or_from_slice_get numbers c.args.first.rank c.args.first.number [] c.requires.first in
    rw (← own) (rw c.in_ok-column.ensures at c.write_column.ensures.err)
