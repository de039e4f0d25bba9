-- `number_in`: a text that writes a number is read.
use Rattle.std.proofs.Common.{◌≡◌, ◌∙◌, decimal, subst, sym, ap, arith, false, true, Ok}
use Rattle.std.specs.Str.{IsUtf8, bytes_eq}
use Rattle.std.proofs.lemmas.Bool.{false≢true}
use Rattle.std.proofs.lemmas.Fmt.{IsAscii-decimal, parse-decimal}
use Rattle.std.proofs.lemmas.Slice.Eq.{bytes_eq-Decides}
use Rattle.std.proofs.lemmas.Str.{IsUtf8-from_ascii}
use Rattle.herd_pedigree_file.proofs.number.number_in.Goals as goal

pub returns-in_default-clause-none : goal.returns-in_default-clause-none
returns-in_default-clause-none c = λ number small is.
    c.in_default.ensures.cases.0 (subst IsUtf8 (sym is) (IsUtf8-from_ascii (decimal number) (IsAscii-decimal number (omega arith))))

pub returns-in_default-parse-clause-none : goal.returns-in_default-parse-clause-none
returns-in_default-parse-clause-none c = λ number small is.
    let read = parse-decimal 32 number c.in-Ok.characters.now c.parse.result small (omega arith) (c.in-Ok.ensures.cases.0 ∙ is) c.parse.ensures.value.0 in
    c.in_default-parse.not-Ok number read

pub returns-else-eq-clause-none : goal.returns-else-eq-clause-none
returns-else-eq-clause-none c = λ number small is.
    let read = parse-decimal 32 number c.in-Ok.characters.now c.parse.result small (omega arith) (c.in-Ok.ensures.cases.0 ∙ is) c.parse.ensures.value.0 in
    let same : c.in-Ok-parse.number ≡ number = cc (read, c.in-Ok-parse.is) in
    let written : c.as_bytes.result.now ≡ c.args.text.now = c.as_bytes.ensures.value ∙ c.format.ensures.text ∙ ap decimal same ∙ sym is in
    absurd (false≢true (sym c.if-eq.false ∙ c.eq.ensures ∙ (bytes_eq-Decides c.as_bytes.result.now c.args.text.now).1 written))
