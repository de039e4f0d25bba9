-- The header, the lines of the rows and those of the digests are the certificate.
use Rattle.std.proofs.Common.{◌≡◌, ◌∙◌, ℕ, List, [], ◌++◌, codes, ap, append-nil, refl, subst, sym}
use Rattle.std.proofs.lemmas.Result.{on_err_weaker, on_ok_weaker}
use Rattle.std.specs.List.{All, flat_map}
use Rattle.herd_text.proofs.lemmas.Exits.{on_err}
use Rattle.herd_text.proofs.lemmas.Pieces.{front_grown, holds_grown}
use Rattle.herd_text.proofs.lemmas.TextFacts.{appends_waiting, front_nothing, front_waiting, Holds}
use Rattle.herd_text.specs.CoefficientText.{coefficient_text}
use Rattle.herd_seal.specs.CertificateText.{digest_line, header_line}
use Rattle.herd_seal.specs.Reading.{IsWrittenRow}
use Rattle.herd_certificate.proofs.WrittenFacts.{IsToldHeader, faultless_text, text_is}
use Rattle.herd_certificate.proofs.PartFacts.{certificate_made, holds_header, some_certificate}
use Rattle.herd_certificate.specs.Sealed.{line_at, rows_at, sealed_at}
use Rattle.herd_certificate.proofs.certificate.write_sealed_at.Given.{Over}
use Rattle.herd_certificate.proofs.certificate.write_sealed_at.Goals.{After-write_digests, After-write_rows}
use Rattle.herd_certificate.proofs.certificate.write_sealed_at.Goals as goal

pub returns-in_err-clone-clause-err : goal.returns-in_err-clone-clause-err
returns-in_err-clone-clause-err g c = on_err c.from_residual.result (front_nothing _ _ (some_certificate c.args.frozen.now c.args.steps c.args.place))

pub returns-in_err-parts-clause-err : goal.returns-in_err-parts-clause-err
returns-in_err-parts-clause-err g c = on_err c.from_residual-in_err-parts.result (front_nothing _ _ (some_certificate c.args.frozen.now c.args.steps c.args.place))

pub returns-in_err-push_header-clause-err : goal.returns-in_err-push_header-clause-err
returns-in_err-push_header-clause-err g c = on_err c.from_residual-in_err-push_header.result (front_nothing _ _ (some_certificate c.args.frozen.now c.args.steps c.args.place))

-- the header waits, before the lines of the rows and of the digests
headed : (g : Over) (c : After-write_rows g)
    → Holds (g.W.Write.contents c.args.writer.now) (g.W.Write.contents c.args.writer.now) (sealed_at c.args.frozen.now c.args.steps c.args.place) c.push_header.new.text
    (flat_map (line_at c.args.frozen.now) c.as_slice.result.now ++ flat_map digest_line c.in_ok-parts.parts.beside.items)
headed g c =
    let rows = c.args.frozen.now in
    let parts = c.in_ok-parts.parts in
    let header = header_line parts.seal parts.claim (coefficient_text (codes ",") parts.coefficient.numerator) in
    let shown = flat_map (line_at rows) c.as_slice.result.now in
    let others = flat_map digest_line parts.beside.items in
    let made : header ++ (shown ++ others) ≡ sealed_at rows c.args.steps c.args.place =
    ap (λ (places : List ℕ). header ++ (flat_map (line_at rows) places ++ others)) c.as_slice.ensures.value ∙ certificate_made rows c.args.steps c.args.place parts c.in_ok-parts.ensures in
    holds_header header shown others made (c.in_ok-push_header.ensures.text ∙ ap (λ (l : List ℕ). l ++ header) c.new-text.ensures)

pub returns-in_err-write_rows-clause-err : goal.returns-in_err-write_rows-clause-err
returns-in_err-write_rows-clause-err g c =
    let shown = flat_map (line_at c.args.frozen.now) c.as_slice.result.now in
    let others = flat_map digest_line c.in_ok-parts.parts.beside.items in
    on_err c.from_residual-in_err-write_rows.result
    (front_grown shown others (headed g (goal.at.returns-in_err-write_rows-clause-err g c).After-write_rows) refl c.in_err-write_rows.ensures.err)

-- the lines of the digests are the rest
last : (g : Over) (c : After-write_digests g) → flat_map digest_line c.in_ok-parts.parts.beside.items ≡ flat_map digest_line c.as_slice-2.result.now ++ []
last g c =
    ap (λ (digests : List (List ℕ)). flat_map digest_line digests) (sym c.as_slice-2.ensures.value) ∙ sym (append-nil (flat_map digest_line c.as_slice-2.result.now))

-- and before them the lines of the rows were added
shown_too : (g : Over) (c : After-write_digests g)
    → Holds (g.W.Write.contents c.args.writer.now) (g.W.Write.contents c.args.writer.now) (sealed_at c.args.frozen.now c.args.steps c.args.place) c.push_header.new.text
    (flat_map (line_at c.args.frozen.now) c.as_slice.result.now ++ flat_map digest_line c.in_ok-parts.parts.beside.items)
    → Holds (g.W.Write.contents c.args.writer.now) (g.W.Write.contents c.write_rows.new.writer) (sealed_at c.args.frozen.now c.args.steps c.args.place) c.write_rows.new.text
    (flat_map digest_line c.in_ok-parts.parts.beside.items)
shown_too g c header =
    holds_grown (flat_map (line_at c.args.frozen.now) c.as_slice.result.now) (flat_map digest_line c.in_ok-parts.parts.beside.items) header refl c.in_ok-write_rows.ensures.ok

pub returns-in_err-write_digests-clause-err : goal.returns-in_err-write_digests-clause-err
returns-in_err-write_digests-clause-err g c =
    let at = goal.at.returns-in_err-write_digests-clause-err g c in
    on_err c.from_residual-in_err-write_digests.result
    (front_grown (flat_map digest_line c.as_slice-2.result.now) [] (shown_too g at.After-write_digests (headed g at.After-write_rows)) (last g at.After-write_digests)
    c.in_err-write_digests.ensures.err)

pub returns-clause-ok : goal.returns-clause-ok
returns-clause-ok g c =
    let at = goal.at.returns-clause-ok g c in
    let shown = shown_too g at.After-write_digests (headed g at.After-write_rows) in
    let whole = holds_grown (flat_map digest_line c.as_slice-2.result.now) [] shown (last g at.After-write_digests) c.in_ok-write_digests.ensures.ok in
    on_ok_weaker c.finish.result (λ written. appends_waiting (g.W.Write.contents c.finish.new.writer) whole written) c.finish.ensures.ok

pub returns-clause-err : goal.returns-clause-err
returns-clause-err g c =
    let at = goal.at.returns-clause-err g c in
    let shown = shown_too g at.After-write_digests (headed g at.After-write_rows) in
    let whole = holds_grown (flat_map digest_line c.as_slice-2.result.now) [] shown (last g at.After-write_digests) c.in_ok-write_digests.ensures.ok in
    on_err_weaker c.finish.result (front_waiting whole) c.finish.ensures.err

pub returns-clause-accepted : goal.returns-clause-accepted
returns-clause-accepted g c =
    let parts = c.in_ok-parts.parts in
    let header = c.in_ok-push_header.ensures in
    let told : IsToldHeader parts.claim parts.coefficient.numerator = record {
      steps = header.steps;
      animals = header.animals;
      place = header.place;
      number = header.number;
      below_one = header.below_one;
    } in
    let shown = subst (λ (l : List ℕ). All IsWrittenRow (rows_at c.args.frozen.now l)) c.as_slice.ensures.value
    c.in_ok-write_rows.ensures.told in
    let text = text_is c.args.frozen.now c.args.steps c.args.place parts c.in_ok-parts.ensures told shown in
    let accepted = faultless_text _ _ _ text c.faultless.ensures in
    on_ok_weaker c.finish.result (λ written. accepted) c.finish.ensures.ok
