-- `write_column`: its loop.
use Rattle.std.proofs.Common.{ℕ, ◌*◌, get_or, Some}
use Rattle.std.proofs.lemmas.Option.{slice_get-get_or}
use Rattle.herd_lineage.specs.declared.TheConstants.{DEPTH_LIMIT}
use Rattle.herd_kinship.specs.Ranks.{ranked}
use Rattle.herd_kinship.specs.Table.{entry}
use Rattle.herd_text.proofs.lemmas.Exits.{on_err}
use Rattle.herd_text.proofs.lemmas.TextFacts.{front_passed, front_waiting, holds_passed}
use Rattle.herd_text.proofs.lemmas.Pieces.{holds_element, some_left}
use Rattle.herd_text.proofs.lemmas.Pieces.{holds_made}
use Rattle.herd_pedigree_report.proofs.lemmas.PairFacts.{some_pair_line}
use Rattle.herd_pedigree_report.specs.RelationshipList.{lines_with, pair_line}
use Rattle.herd_pedigree_report.proofs.relationship_list.write_column.Goals as goal

pub loop-partner-init : goal.loop-partner-init
loop-partner-init g c =
    let its = c.args.column.now in
    holds_made _ c.args.text.now (lines_with c.args.in_units its.rows its.rank c.args.partners.now)

pub returns-in_err-pass_on-clause-err : goal.returns-in_err-pass_on-clause-err
returns-in_err-pass_on-clause-err g c = on_err c.from_residual.result (front_waiting c.loop-partner.invariant c.in_err-pass_on.ensures.err)

pub returns-in_err-push_pair-clause-err : goal.returns-in_err-push_pair-clause-err
returns-in_err-push_pair-clause-err g c =
    let its = c.args.column.now in
    let partners = c.args.partners.now in
    let place = c.loop-partner.partner-index in
    let partner = get_or partners place 0 in
    let numerator = λ (y : ℕ). entry (ranked its.rows) (2 * DEPTH_LIMIT) (Some its.rank) (Some y) in
    let line = λ (y : ℕ). pair_line c.args.in_units its.rank y (numerator y) in
    let there = slice_get-get_or partners place 0 c.loop-partner-test.true in
    let some = some_left line partners place partner there (some_pair_line c.args.in_units its.rank partner (numerator partner)) in
    on_err c.from_residual-in_err-push_pair.result (front_passed (holds_passed c.loop-partner.invariant c.in_ok-pass_on.ensures.ok) some)

pub loop-partner-preserved : goal.loop-partner-preserved
loop-partner-preserved g c =
    let its = c.args.column.now in
    let partners = c.args.partners.now in
    let place = c.loop-partner.partner-index in
    let partner = get_or partners place 0 in
    let numerator = λ (y : ℕ). entry (ranked its.rows) (2 * DEPTH_LIMIT) (Some its.rank) (Some y) in
    let line = λ (y : ℕ). pair_line c.args.in_units its.rank y (numerator y) in
    let there = slice_get-get_or partners place 0 c.loop-partner-test.true in
    let joined = rw (c.with.ensures.value, c.rank-first.ensures) at c.in_ok-push_pair.ensures in
    holds_element line partners place partner (holds_passed c.loop-partner.invariant c.in_ok-pass_on.ensures.ok) there joined
