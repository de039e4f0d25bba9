-- `write_column`: what a look-up requires, and its loop.
use Rattle.std.proofs.Common.{◌≡◌, ◌*◌, ◌+◌, ◌<◌, ◌++◌, ◌∙◌, [], ap, drop, length, slice_get, Some}
use Rattle.std.proofs.lemmas.Option.{get_or_from_slice_get}
use Rattle.herd_frozen.proofs.lemmas.ListFacts.{slice_get-item}
use Rattle.herd_frozen.specs.declared.TheConstants.{DEPTH_LIMIT}
use Rattle.herd_frozen.specs.freezing.Frozen.{book_of, numbers_of}
use Rattle.herd_advice.specs.FrozenAncestry.{ancestry_of, book_ancestry, number_of_row}
use Rattle.herd_kinship.specs.Table.{entry}
use Rattle.herd_text.proofs.lemmas.Exits.{on_err}
use Rattle.herd_text.proofs.lemmas.TextFacts.{front_passed, front_waiting, holds_passed, holds_piece, some_before}
use Rattle.herd_report.proofs.lemmas.writing.RelationshipFacts.{asked-at, asked-within, holds_made, lines_with-next}
use Rattle.herd_report.proofs.lemmas.writing.RelationshipFacts.{some_relationship_line}
use Rattle.herd_report.specs.writing.RelationshipList.{lines_with, names_of, relationship_line}
use Rattle.herd_report.proofs.writing.relationship_list.write_column.Given.{Over}
use Rattle.herd_report.proofs.writing.relationship_list.write_column.Goals.{After-pass_on}
use Rattle.herd_report.proofs.writing.relationship_list.write_column.Goals as goal

pub loop-partner-init : goal.loop-partner-init
loop-partner-init g c =
    let its = c.args.column.now in
    holds_made _ c.args.text.now
    (lines_with (book_of its.rows) (number_of_row its.rows its.rank) (names_of c.args.partners.now))

pub returns-in_err-pass_on-clause-err : goal.returns-in_err-pass_on-clause-err
returns-in_err-pass_on-clause-err g c =
    on_err c.from_residual.result (front_waiting c.loop-partner.invariant c.in_err-pass_on.ensures.err)

-- the partner that is next
next : (g : Over) (c : After-pass_on g)
    → slice_get c.args.partners.now c.loop-partner.partner-index ≡ Some c.partner-item.result
next g c =
    slice_get-item c.args.partners.now c.loop-partner.partner-index c.partner-item.result c.loop-partner-test.true
    c.partner-item.is

pub with-requires : goal.with-requires
with-requires g c =
    let rows = c.args.column.now.rows in
    let partner = c.partner-item.result in
    let there = next g (goal.at.with-requires g c).After-pass_on in
    asked-within rows partner
    (asked-at rows c.args.partners.now c.loop-partner.partner-index partner c.requires there)

-- its line, and those of the partners after it
split : (g : Over) (c : After-pass_on g)
    → let its = c.args.column.now in
    let own = number_of_row its.rows its.rank in
    let partner = c.partner-item.result.number in
    let place = c.loop-partner.partner-index in
    lines_with (book_of its.rows) own (names_of (drop place c.args.partners.now))
    ≡ relationship_line own partner
    (entry (book_ancestry (book_of its.rows)) (2 * DEPTH_LIMIT) (Some own) (Some partner))
    ++ lines_with (book_of its.rows) own (names_of (drop (place + 1) c.args.partners.now))
split g c =
    let its = c.args.column.now in
    lines_with-next (book_of its.rows) (number_of_row its.rows its.rank) c.args.partners.now
    c.loop-partner.partner-index c.partner-item.result (next g c)

pub returns-in_err-push_relationship-clause-err : goal.returns-in_err-push_relationship-clause-err
returns-in_err-push_relationship-clause-err g c =
    let its = c.args.column.now in
    let next = split g (goal.at.returns-in_err-push_relationship-clause-err g c).After-pass_on in
    let own = number_of_row its.rows its.rank in
    let left = names_of (drop c.loop-partner.partner-index c.args.partners.now) in
    let line = some_relationship_line own c.partner-item.result.number _ in
    let some : 0 < length (lines_with (book_of its.rows) own left) = rw next (some_before _ _ line) in
    on_err c.from_residual-in_err-push_relationship.result
    (front_passed (holds_passed c.loop-partner.invariant c.in_ok-pass_on.ensures.ok) some)

pub loop-partner-preserved : goal.loop-partner-preserved
loop-partner-preserved g c =
    let its = c.args.column.now in
    let own = number_of_row its.rows its.rank in
    let partner = c.partner-item.result in
    let there = next g (goal.at.loop-partner-preserved g c).After-pass_on in
    let is = asked-at its.rows c.args.partners.now c.loop-partner.partner-index partner c.requires there in
    let named = get_or_from_slice_get (numbers_of its.rows) partner.rank partner.number [] is in
    let value =
    c.with.ensures.value ∙ ap (λ y. entry (ancestry_of its.rows) (2 * DEPTH_LIMIT) (Some own) (Some y)) named in
    let joined = rw (value, c.number-number.ensures) at c.in_ok-push_relationship.ensures in
    holds_piece _ _ (holds_passed c.loop-partner.invariant c.in_ok-pass_on.ensures.ok)
    (split g (goal.at.loop-partner-preserved g c).After-pass_on) joined
