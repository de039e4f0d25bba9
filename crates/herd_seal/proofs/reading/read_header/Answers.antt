use Rattle.std.proofs.Common.{subst}
use Rattle.herd_animal.specs.AnimalNumber.{IsAnimalNumber}
use Rattle.herd_record_line.proofs.CutFacts.{behind_is, field_is, has_comma, if_none}
use Rattle.herd_seal.specs.Reading.{IsHeaderText}
use Rattle.herd_seal.proofs.ReadingFacts.{field_here, plain_rest}
use Rattle.herd_seal.proofs.TextFacts.{header_joined}
use Rattle.herd_seal.proofs.reading.read_header.Goals as goal

pub returns-clause-line : goal.returns-clause-line
returns-clause-line c =
    header_joined c.args.line.now c.in_ok-kind.kind.now c.in_ok-seal.seal.now c.in_ok-steps.steps.now
    c.in_ok-animals.animals.now c.in_ok-place.place.now
    c.in_ok-number.number.now c.in_ok-number.coefficient.now c.in_ok-kind.rest.now c.in_ok-seal.rest.now
    c.in_ok-steps.rest.now c.in_ok-animals.rest.now c.in_ok-place.rest.now
    c.in_ok-read_digest.field-0 _ c.in_ok-kind.ensures.joined c.in_ok-seal.ensures.joined c.in_ok-steps.ensures.joined
    c.in_ok-animals.ensures.joined c.in_ok-place.ensures.joined
    c.in_ok-number.ensures.joined c.in_ok-read_kind.ensures.some c.in_ok-read_digest.ensures.written
    c.in_ok-read_number.ensures.some c.in_ok-read_place.ensures.some
    c.in_ok-read_place-2.ensures.some c.in_ok-read_animal_number.ensures.some

pub returns-clause-written : goal.returns-clause-written
returns-clause-written c =
    let p1 = plain_rest 10 44 _ _ _ c.in_ok-kind.ensures.joined c.requires in
    let p2 = plain_rest 10 44 _ _ _ c.in_ok-seal.ensures.joined p1 in
    let p3 = plain_rest 10 44 _ _ _ c.in_ok-steps.ensures.joined p2 in
    let p4 = plain_rest 10 44 _ _ _ c.in_ok-animals.ensures.joined p3 in
    let p5 = plain_rest 10 44 _ _ _ c.in_ok-place.ensures.joined p4 in
    let p6 = plain_rest 10 44 _ _ _ c.in_ok-number.ensures.joined p5 in
    record {
      digest = c.in_ok-read_digest.ensures.digest;
      steps = c.in_ok-read_number.ensures.small;
      animals = c.in_ok-read_place.ensures.small;
      place = c.in_ok-read_place-2.ensures.small;
      number = c.in_ok-read_animal_number.ensures.told;
      one_line = p6;
    }

pub returns-clause-text : goal.returns-clause-text
returns-clause-text c =
    field_here _ _ _ c.in_ok-kind.ensures.joined c.in_ok-kind.ensures.first c.in_ok-read_kind.ensures.some
    (field_here _ _ _ c.in_ok-seal.ensures.joined c.in_ok-seal.ensures.first
    (c.in_ok-read_digest.field-0, c.in_ok-read_digest.ensures.digest, c.in_ok-read_digest.ensures.written)
    (field_here _ _ _ c.in_ok-steps.ensures.joined c.in_ok-steps.ensures.first
    (c.in_ok-read_number.field-0, c.in_ok-read_number.ensures.small, c.in_ok-read_number.ensures.some)
    (field_here _ _ _ c.in_ok-animals.ensures.joined c.in_ok-animals.ensures.first
    (c.in_ok-read_place.field-0, c.in_ok-read_place.ensures.small, c.in_ok-read_place.ensures.some)
    (field_here _ _ _ c.in_ok-place.ensures.joined c.in_ok-place.ensures.first
    (c.in_ok-read_place-2.field-0, c.in_ok-read_place-2.ensures.small, c.in_ok-read_place-2.ensures.some)
    (field_here _ _ _ c.in_ok-number.ensures.joined c.in_ok-number.ensures.first
    (subst IsAnimalNumber c.in_ok-read_animal_number.ensures.some c.in_ok-read_animal_number.ensures.told) tt)))))

pub returns-in_err-kind-clause-none : goal.returns-in_err-kind-clause-none
returns-in_err-kind-clause-none c = if_none c.from_residual.result _
    (λ (h : IsHeaderText c.args.line.now).
    has_comma _ c.in_err-kind.ensures.none h)

pub returns-in_err-seal-clause-none : goal.returns-in_err-seal-clause-none
returns-in_err-seal-clause-none c = if_none c.from_residual-in_err-seal.result _
    (λ (h : IsHeaderText c.args.line.now).
    let h1 = behind_is _ _ _ c.in_ok-kind.ensures.joined c.in_ok-kind.ensures.first h in
    has_comma _ c.in_err-seal.ensures.none h1)

pub returns-in_err-steps-clause-none : goal.returns-in_err-steps-clause-none
returns-in_err-steps-clause-none c = if_none c.from_residual-in_err-steps.result _
    (λ (h : IsHeaderText c.args.line.now).
    let h1 = behind_is _ _ _ c.in_ok-kind.ensures.joined c.in_ok-kind.ensures.first h in
    let h2 = behind_is _ _ _ c.in_ok-seal.ensures.joined c.in_ok-seal.ensures.first h1 in
    has_comma _ c.in_err-steps.ensures.none h2)

pub returns-in_err-animals-clause-none : goal.returns-in_err-animals-clause-none
returns-in_err-animals-clause-none c = if_none c.from_residual-in_err-animals.result _
    (λ (h : IsHeaderText c.args.line.now).
    let h1 = behind_is _ _ _ c.in_ok-kind.ensures.joined c.in_ok-kind.ensures.first h in
    let h2 = behind_is _ _ _ c.in_ok-seal.ensures.joined c.in_ok-seal.ensures.first h1 in
    let h3 = behind_is _ _ _ c.in_ok-steps.ensures.joined c.in_ok-steps.ensures.first h2 in
    has_comma _ c.in_err-animals.ensures.none h3)

pub returns-in_err-place-clause-none : goal.returns-in_err-place-clause-none
returns-in_err-place-clause-none c = if_none c.from_residual-in_err-place.result _
    (λ (h : IsHeaderText c.args.line.now).
    let h1 = behind_is _ _ _ c.in_ok-kind.ensures.joined c.in_ok-kind.ensures.first h in
    let h2 = behind_is _ _ _ c.in_ok-seal.ensures.joined c.in_ok-seal.ensures.first h1 in
    let h3 = behind_is _ _ _ c.in_ok-steps.ensures.joined c.in_ok-steps.ensures.first h2 in
    let h4 = behind_is _ _ _ c.in_ok-animals.ensures.joined c.in_ok-animals.ensures.first h3 in
    has_comma _ c.in_err-place.ensures.none h4)

pub returns-in_err-number-clause-none : goal.returns-in_err-number-clause-none
returns-in_err-number-clause-none c = if_none c.from_residual-in_err-number.result _
    (λ (h : IsHeaderText c.args.line.now).
    let h1 = behind_is _ _ _ c.in_ok-kind.ensures.joined c.in_ok-kind.ensures.first h in
    let h2 = behind_is _ _ _ c.in_ok-seal.ensures.joined c.in_ok-seal.ensures.first h1 in
    let h3 = behind_is _ _ _ c.in_ok-steps.ensures.joined c.in_ok-steps.ensures.first h2 in
    let h4 = behind_is _ _ _ c.in_ok-animals.ensures.joined c.in_ok-animals.ensures.first h3 in
    let h5 = behind_is _ _ _ c.in_ok-place.ensures.joined c.in_ok-place.ensures.first h4 in
    has_comma _ c.in_err-number.ensures.none h5)

pub returns-in_err-read_kind-clause-none : goal.returns-in_err-read_kind-clause-none
returns-in_err-read_kind-clause-none c = if_none c.from_residual-in_err-read_kind.result _
    (λ (h : IsHeaderText c.args.line.now).
    c.in_err-read_kind.ensures.none (field_is _ _ _ c.in_ok-kind.ensures.joined c.in_ok-kind.ensures.first h))

pub returns-in_err-read_number-clause-none : goal.returns-in_err-read_number-clause-none
returns-in_err-read_number-clause-none c = if_none c.from_residual-in_err-read_number.result _
    (λ (h : IsHeaderText c.args.line.now).
    let h1 = behind_is _ _ _ c.in_ok-kind.ensures.joined c.in_ok-kind.ensures.first h in
    let h2 = behind_is _ _ _ c.in_ok-seal.ensures.joined c.in_ok-seal.ensures.first h1 in
    c.in_err-read_number.ensures.none (field_is _ _ _ c.in_ok-steps.ensures.joined c.in_ok-steps.ensures.first h2))

pub returns-in_err-read_place-clause-none : goal.returns-in_err-read_place-clause-none
returns-in_err-read_place-clause-none c = if_none c.from_residual-in_err-read_place.result _
    (λ (h : IsHeaderText c.args.line.now).
    let h1 = behind_is _ _ _ c.in_ok-kind.ensures.joined c.in_ok-kind.ensures.first h in
    let h2 = behind_is _ _ _ c.in_ok-seal.ensures.joined c.in_ok-seal.ensures.first h1 in
    let h3 = behind_is _ _ _ c.in_ok-steps.ensures.joined c.in_ok-steps.ensures.first h2 in
    c.in_err-read_place.ensures.none (field_is _ _ _ c.in_ok-animals.ensures.joined c.in_ok-animals.ensures.first h3))

pub returns-in_err-read_place-2-clause-none : goal.returns-in_err-read_place-2-clause-none
returns-in_err-read_place-2-clause-none c = if_none c.from_residual-in_err-read_place-2.result _
    (λ (h : IsHeaderText c.args.line.now).
    let h1 = behind_is _ _ _ c.in_ok-kind.ensures.joined c.in_ok-kind.ensures.first h in
    let h2 = behind_is _ _ _ c.in_ok-seal.ensures.joined c.in_ok-seal.ensures.first h1 in
    let h3 = behind_is _ _ _ c.in_ok-steps.ensures.joined c.in_ok-steps.ensures.first h2 in
    let h4 = behind_is _ _ _ c.in_ok-animals.ensures.joined c.in_ok-animals.ensures.first h3 in
    c.in_err-read_place-2.ensures.none (field_is _ _ _ c.in_ok-place.ensures.joined c.in_ok-place.ensures.first h4))

pub returns-in_err-read_animal_number-clause-none : goal.returns-in_err-read_animal_number-clause-none
returns-in_err-read_animal_number-clause-none c = if_none c.from_residual-in_err-read_animal_number.result _
    (λ (h : IsHeaderText c.args.line.now).
    let h1 = behind_is _ _ _ c.in_ok-kind.ensures.joined c.in_ok-kind.ensures.first h in
    let h2 = behind_is _ _ _ c.in_ok-seal.ensures.joined c.in_ok-seal.ensures.first h1 in
    let h3 = behind_is _ _ _ c.in_ok-steps.ensures.joined c.in_ok-steps.ensures.first h2 in
    let h4 = behind_is _ _ _ c.in_ok-animals.ensures.joined c.in_ok-animals.ensures.first h3 in
    let h5 = behind_is _ _ _ c.in_ok-place.ensures.joined c.in_ok-place.ensures.first h4 in
    c.in_err-read_animal_number.ensures.none (field_is _ _ _ c.in_ok-number.ensures.joined c.in_ok-number.ensures.first h5))

pub returns-in_err-read_digest-clause-none : goal.returns-in_err-read_digest-clause-none
returns-in_err-read_digest-clause-none c = if_none c.from_residual-in_err-read_digest.result _
    (λ (h : IsHeaderText c.args.line.now).
    let h1 = behind_is _ _ _ c.in_ok-kind.ensures.joined c.in_ok-kind.ensures.first h in
    c.in_err-read_digest.ensures.none (field_is _ _ _ c.in_ok-seal.ensures.joined c.in_ok-seal.ensures.first h1))
