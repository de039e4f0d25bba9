-- `write_rows`: its loop.
use Rattle.std.proofs.lemmas.List.{take_all}
use Rattle.std.proofs.lemmas.Option.{slice_get-get_or}
use Rattle.herd_text.proofs.lemmas.Exits.{on_err}
use Rattle.herd_text.proofs.lemmas.Pieces.{holds_element, holds_made, some_left}
use Rattle.herd_text.proofs.lemmas.TextFacts.{front_passed, front_waiting, holds_passed}
use Rattle.std.proofs.Common.{◌++◌, List, ℕ, ap, subst, ◌∙◌, get_or}
use Rattle.std.specs.List.{All, flat_map}
use Rattle.herd_seal.specs.Reading.{IsWrittenRow}
use Rattle.herd_certificate.proofs.PartFacts.{line_is, some_line}
use Rattle.herd_certificate.proofs.WrittenFacts.{first_rows, told_next}
use Rattle.herd_certificate.specs.Sealed.{line_at, rows_at}
use Rattle.herd_certificate.proofs.certificate.write_rows.Goals as goal

pub loop-place-init : goal.loop-place-init
loop-place-init g c = record {
  held = holds_made _ c.args.text.now (flat_map (line_at c.args.frozen.now) c.args.places.now);
  told = first_rows c.args.frozen.now;
}

pub returns-in_err-pass_on-clause-err : goal.returns-in_err-pass_on-clause-err
returns-in_err-pass_on-clause-err g c =
    on_err c.from_residual.result (front_waiting c.loop-place.invariant.held c.in_err-pass_on.ensures.err)

pub returns-in_err-push_row_line-clause-err : goal.returns-in_err-push_row_line-clause-err
returns-in_err-push_row_line-clause-err g c =
    let rows = c.args.frozen.now in
    let places = c.args.places.now in
    let at = c.loop-place.place-index in
    let place = get_or places at 0 in
    let there = slice_get-get_or places at 0 c.loop-place-test.true in
    let some = some_left (line_at rows) places at place there (some_line rows place c.row.result c.row.ensures.row) in
    on_err c.from_residual-in_err-push_row_line.result
    (front_passed (holds_passed c.loop-place.invariant.held c.in_ok-pass_on.ensures.ok) some)

pub loop-place-preserved : goal.loop-place-preserved
loop-place-preserved g c =
    let rows = c.args.frozen.now in
    let places = c.args.places.now in
    let at = c.loop-place.place-index in
    let place = get_or places at 0 in
    let there = slice_get-get_or places at 0 c.loop-place-test.true in
    record {
      held = holds_element (line_at rows) places at place
          (holds_passed c.loop-place.invariant.held c.in_ok-pass_on.ensures.ok) there
          (c.in_ok-push_row_line.ensures.text
          ∙ ap (λ (line : List ℕ). c.pass_on.new.self ++ line) (line_is rows place c.row.result c.row.ensures.row));
      told = told_next rows places at place c.row.result there c.row.ensures.row c.loop-place.invariant.told
          c.in_ok-push_row_line.ensures.told;
    }

pub returns-clause-told : goal.returns-clause-told
returns-clause-told g c =
    subst (λ (l : List ℕ). All IsWrittenRow (rows_at c.args.frozen.now l))
    (take_all c.loop-place.place-index c.args.places.now c.loop-place-test.false) c.loop-place.invariant.told
