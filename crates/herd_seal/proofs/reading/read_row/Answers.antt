use Rattle.herd_record_line.proofs.CutFacts.{behind_is, field_is, has_comma, if_none}
use Rattle.herd_seal.specs.Reading.{IsRowText}
use Rattle.herd_seal.proofs.TextFacts.{row_joined}
use Rattle.herd_seal.proofs.reading.read_row.Goals as goal

pub returns-clause-line : goal.returns-clause-line
returns-clause-line c =
    row_joined c.args.line.now c.in_ok-place.place.now c.in_ok-sire.sire.now c.in_ok-dam.dam.now c.in_ok-dam.«record».now
    c.in_ok-place.rest.now c.in_ok-sire.rest.now
    c.in_ok-read_place.field-0 c.in_ok-read_parent.field-0 c.in_ok-read_parent-2.field-0
    c.in_ok-read_record.field-0.number c.in_ok-read_record.field-0.animal
    c.in_ok-place.ensures.joined c.in_ok-sire.ensures.joined c.in_ok-dam.ensures.joined
    c.in_ok-read_place.ensures.some c.in_ok-read_parent.ensures.some c.in_ok-read_parent-2.ensures.some
    c.in_ok-read_record.ensures.some

pub returns-clause-written : goal.returns-clause-written
returns-clause-written c = record {
  place = c.in_ok-read_place.ensures.small;
  sire = c.in_ok-read_parent.ensures.small;
  dam = c.in_ok-read_parent-2.ensures.small;
  told = c.in_ok-read_record.ensures.told;
}

pub returns-in_err-place-clause-none : goal.returns-in_err-place-clause-none
returns-in_err-place-clause-none c = if_none c.from_residual.result _
    (λ (h : IsRowText c.args.line.now).
    has_comma _ c.in_err-place.ensures.none h)

pub returns-in_err-sire-clause-none : goal.returns-in_err-sire-clause-none
returns-in_err-sire-clause-none c = if_none c.from_residual-in_err-sire.result _
    (λ (h : IsRowText c.args.line.now).
    let h1 = behind_is _ _ _ c.in_ok-place.ensures.joined c.in_ok-place.ensures.first h in
    has_comma _ c.in_err-sire.ensures.none h1)

pub returns-in_err-dam-clause-none : goal.returns-in_err-dam-clause-none
returns-in_err-dam-clause-none c = if_none c.from_residual-in_err-dam.result _
    (λ (h : IsRowText c.args.line.now).
    let h1 = behind_is _ _ _ c.in_ok-place.ensures.joined c.in_ok-place.ensures.first h in
    let h2 = behind_is _ _ _ c.in_ok-sire.ensures.joined c.in_ok-sire.ensures.first h1 in
    has_comma _ c.in_err-dam.ensures.none h2)

pub returns-in_err-read_place-clause-none : goal.returns-in_err-read_place-clause-none
returns-in_err-read_place-clause-none c = if_none c.from_residual-in_err-read_place.result _
    (λ (h : IsRowText c.args.line.now).
    c.in_err-read_place.ensures.none (field_is _ _ _ c.in_ok-place.ensures.joined c.in_ok-place.ensures.first h))

pub returns-in_err-read_parent-clause-none : goal.returns-in_err-read_parent-clause-none
returns-in_err-read_parent-clause-none c = if_none c.from_residual-in_err-read_parent.result _
    (λ (h : IsRowText c.args.line.now).
    let h1 = behind_is _ _ _ c.in_ok-place.ensures.joined c.in_ok-place.ensures.first h in
    c.in_err-read_parent.ensures.none (field_is _ _ _ c.in_ok-sire.ensures.joined c.in_ok-sire.ensures.first h1))

pub returns-in_err-read_parent-2-clause-none : goal.returns-in_err-read_parent-2-clause-none
returns-in_err-read_parent-2-clause-none c = if_none c.from_residual-in_err-read_parent-2.result _
    (λ (h : IsRowText c.args.line.now).
    let h1 = behind_is _ _ _ c.in_ok-place.ensures.joined c.in_ok-place.ensures.first h in
    let h2 = behind_is _ _ _ c.in_ok-sire.ensures.joined c.in_ok-sire.ensures.first h1 in
    c.in_err-read_parent-2.ensures.none (field_is _ _ _ c.in_ok-dam.ensures.joined c.in_ok-dam.ensures.first h2))

pub returns-in_err-read_record-clause-none : goal.returns-in_err-read_record-clause-none
returns-in_err-read_record-clause-none c = if_none c.from_residual-in_err-read_record.result _
    (λ (h : IsRowText c.args.line.now).
    let h1 = behind_is _ _ _ c.in_ok-place.ensures.joined c.in_ok-place.ensures.first h in
    let h2 = behind_is _ _ _ c.in_ok-sire.ensures.joined c.in_ok-sire.ensures.first h1 in
    let h3 = behind_is _ _ _ c.in_ok-dam.ensures.joined c.in_ok-dam.ensures.first h2 in
    c.in_err-read_record.ensures.none h3)
