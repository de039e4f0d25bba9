use Rattle.std.proofs.Common.{◌≡◌, ◌∙◌, inr, ◌++◌, ◌∷◌, [], List, ℕ, length, sym, subst, arith, length-append, ap}
use Rattle.std.specs.List.{All}
use Rattle.std.proofs.lemmas.List.Elements.{All-append, All-cons, All-nil}
use Rattle.herd_seal.specs.CheckFaults.{at_row}
use Rattle.herd_seal.specs.Reading.{IsWrittenRow}
use Rattle.herd_seal.specs.declared.check_fault.CheckCause.TheVariants.{Row}
use Rattle.herd_seal.specs.declared.certificate.CertifiedRow.{CertifiedRow}
use Rattle.herd_seal.proofs.TextFacts.{rows_more}
use Rattle.herd_seal.proofs.reading.read_rows.Goals as goal

pub loop-line-preserved : goal.loop-line-preserved
loop-line-preserved g c =
    let before = c.loop-line.rows.items in
    let row = c.in-Some-read_row.row in
    let grown = c.in_ok-push.ensures.items in
    let long = ap (λ (l : List CertifiedRow). length l) grown in
    let more = length-append before (row ∷ []) in
    let few = c.loop-line.invariant.few in
    let shorter = c.in-Some.ensures.shorter in
    record {
      joined = rows_more before c.push.new.self.items row c.in-Some.line.now c.in-Some.behind.now c.loop-line.rest.now c.args.text.now
          c.loop-line.invariant.joined c.in-Some.ensures.joined c.in-Some-read_row.ensures.line grown;
      written = subst (λ (l : List CertifiedRow). All IsWrittenRow l) {x = before ++ (row ∷ [])} {y = c.push.new.self.items} (sym grown)
          (All-append IsWrittenRow before (row ∷ []) c.loop-line.invariant.written
          (All-cons IsWrittenRow row [] c.in-Some-read_row.ensures.written (All-nil IsWrittenRow)));
      few = omega (arith, long, more, few, shorter);
    }

pub returns-in_default-read_row-clause-fault : goal.returns-in_default-read_row-clause-fault
returns-in_default-read_row-clause-fault g c =
    let each = c.len.ensures in
    let held = c.loop-line.rows.ok in
    let long : c.len.result ≡ length c.loop-line.rows.items = omega (arith, each, held) in
    inr (
      c.loop-line.rows.items,
      c.loop-line.rest.now,
      c.at_row.ensures.fault (omega (arith, each, held)) ∙ ap (λ (n : ℕ). at_row Row n) long,
      c.loop-line.invariant.written,
      c.loop-line.invariant.joined,
      record {
        line = c.in-Some.line.now;
        behind = c.in-Some.behind.now;
        joined = c.in-Some.ensures.joined;
        plain = c.in-Some.ensures.plain;
        is_line = (c.in-Some.ensures.comma, c.in_default-read_row.ensures.none);
      },
    )
