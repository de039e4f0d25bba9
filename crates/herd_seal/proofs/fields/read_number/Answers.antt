use Rattle.std.proofs.Common.{◌≡◌, ◌∙◌, decimal, sym}
use Rattle.herd_seal.proofs.ReadingFacts.{not_written, unlike}
use Rattle.herd_seal.proofs.fields.read_number.Goals as goal

pub returns-else-eq-clause-none : goal.returns-else-eq-clause-none
returns-else-eq-clause-none c =
    let told : c.as_bytes.result.now ≡ decimal c.in_ok-number.number = c.as_bytes.ensures.value ∙ c.format.ensures.text in
    not_written c.args.text.now c.in_ok-number.number c.in_ok-number.ensures.some
    (λ same. unlike c.as_bytes.result.now c.args.text.now (sym c.eq.ensures ∙ c.if-eq.false) (told ∙ same))
