use Rattle.std.proofs.Common.{◌∙◌}
use Rattle.herd_record_line.proofs.CutFacts.{behind_is, field_is, field_joined, has_comma, if_none}
use Rattle.herd_record_line.specs.RecordLine.{IsRecordText}
use Rattle.herd_record_line.proofs.ReadingFacts.{record_joined}
use Rattle.herd_record_line.proofs.reading.read_fields.Goals as goal

pub returns-clause-some : goal.returns-clause-some
returns-clause-some c =
    record_joined c.args.text.now c.in_ok-number.number.now c.in_ok-birth.birth.now c.in_ok-sire.sire.now c.in_ok-dam.dam.now c.in_ok-herd.herd.now c.in_ok-since.since.now
    c.in_ok-left.left.now c.in_ok-left.embryo.now c.in_ok-number.rest.now c.in_ok-birth.rest.now c.in_ok-sire.rest.now c.in_ok-dam.rest.now c.in_ok-herd.rest.now c.in_ok-since.rest.now
    c.in_ok-read_number.field-0 _ (field_joined _ _ ∙ c.in_ok-number.ensures.joined) (field_joined _ _ ∙ c.in_ok-birth.ensures.joined) (field_joined _ _ ∙ c.in_ok-sire.ensures.joined) (field_joined _ _ ∙ c.in_ok-dam.ensures.joined) (field_joined _ _ ∙ c.in_ok-herd.ensures.joined) (field_joined _ _ ∙ c.in_ok-since.ensures.joined) (field_joined _ _ ∙ c.in_ok-left.ensures.joined)
    c.in_ok-read_number.ensures.some c.in_ok-read_day.ensures.some c.in_ok-read_known.ensures.some c.in_ok-read_known-2.ensures.some c.in_ok-read_herd.ensures.some c.in_ok-read_day-2.ensures.some
    c.in_ok-read_left.ensures.some c.in_ok-read_embryo.ensures.some

pub returns-in_err-number-clause-none : goal.returns-in_err-number-clause-none
returns-in_err-number-clause-none c = if_none c.from_residual.result _
    (λ (h : IsRecordText c.args.text.now).
    has_comma _ c.in_err-number.ensures.none h)

pub returns-in_err-birth-clause-none : goal.returns-in_err-birth-clause-none
returns-in_err-birth-clause-none c = if_none c.from_residual-in_err-birth.result _
    (λ (h : IsRecordText c.args.text.now).
    let h1 = behind_is _ _ _ c.in_ok-number.ensures.joined c.in_ok-number.ensures.first h in
    has_comma _ c.in_err-birth.ensures.none h1)

pub returns-in_err-sire-clause-none : goal.returns-in_err-sire-clause-none
returns-in_err-sire-clause-none c = if_none c.from_residual-in_err-sire.result _
    (λ (h : IsRecordText c.args.text.now).
    let h1 = behind_is _ _ _ c.in_ok-number.ensures.joined c.in_ok-number.ensures.first h in
    let h2 = behind_is _ _ _ c.in_ok-birth.ensures.joined c.in_ok-birth.ensures.first h1 in
    has_comma _ c.in_err-sire.ensures.none h2)

pub returns-in_err-dam-clause-none : goal.returns-in_err-dam-clause-none
returns-in_err-dam-clause-none c = if_none c.from_residual-in_err-dam.result _
    (λ (h : IsRecordText c.args.text.now).
    let h1 = behind_is _ _ _ c.in_ok-number.ensures.joined c.in_ok-number.ensures.first h in
    let h2 = behind_is _ _ _ c.in_ok-birth.ensures.joined c.in_ok-birth.ensures.first h1 in
    let h3 = behind_is _ _ _ c.in_ok-sire.ensures.joined c.in_ok-sire.ensures.first h2 in
    has_comma _ c.in_err-dam.ensures.none h3)

pub returns-in_err-herd-clause-none : goal.returns-in_err-herd-clause-none
returns-in_err-herd-clause-none c = if_none c.from_residual-in_err-herd.result _
    (λ (h : IsRecordText c.args.text.now).
    let h1 = behind_is _ _ _ c.in_ok-number.ensures.joined c.in_ok-number.ensures.first h in
    let h2 = behind_is _ _ _ c.in_ok-birth.ensures.joined c.in_ok-birth.ensures.first h1 in
    let h3 = behind_is _ _ _ c.in_ok-sire.ensures.joined c.in_ok-sire.ensures.first h2 in
    let h4 = behind_is _ _ _ c.in_ok-dam.ensures.joined c.in_ok-dam.ensures.first h3 in
    has_comma _ c.in_err-herd.ensures.none h4)

pub returns-in_err-since-clause-none : goal.returns-in_err-since-clause-none
returns-in_err-since-clause-none c = if_none c.from_residual-in_err-since.result _
    (λ (h : IsRecordText c.args.text.now).
    let h1 = behind_is _ _ _ c.in_ok-number.ensures.joined c.in_ok-number.ensures.first h in
    let h2 = behind_is _ _ _ c.in_ok-birth.ensures.joined c.in_ok-birth.ensures.first h1 in
    let h3 = behind_is _ _ _ c.in_ok-sire.ensures.joined c.in_ok-sire.ensures.first h2 in
    let h4 = behind_is _ _ _ c.in_ok-dam.ensures.joined c.in_ok-dam.ensures.first h3 in
    let h5 = behind_is _ _ _ c.in_ok-herd.ensures.joined c.in_ok-herd.ensures.first h4 in
    has_comma _ c.in_err-since.ensures.none h5)

pub returns-in_err-left-clause-none : goal.returns-in_err-left-clause-none
returns-in_err-left-clause-none c = if_none c.from_residual-in_err-left.result _
    (λ (h : IsRecordText c.args.text.now).
    let h1 = behind_is _ _ _ c.in_ok-number.ensures.joined c.in_ok-number.ensures.first h in
    let h2 = behind_is _ _ _ c.in_ok-birth.ensures.joined c.in_ok-birth.ensures.first h1 in
    let h3 = behind_is _ _ _ c.in_ok-sire.ensures.joined c.in_ok-sire.ensures.first h2 in
    let h4 = behind_is _ _ _ c.in_ok-dam.ensures.joined c.in_ok-dam.ensures.first h3 in
    let h5 = behind_is _ _ _ c.in_ok-herd.ensures.joined c.in_ok-herd.ensures.first h4 in
    let h6 = behind_is _ _ _ c.in_ok-since.ensures.joined c.in_ok-since.ensures.first h5 in
    has_comma _ c.in_err-left.ensures.none h6)

pub returns-in_err-read_day-clause-none : goal.returns-in_err-read_day-clause-none
returns-in_err-read_day-clause-none c = if_none c.from_residual-in_err-read_day.result _
    (λ (h : IsRecordText c.args.text.now).
    let h1 = behind_is _ _ _ c.in_ok-number.ensures.joined c.in_ok-number.ensures.first h in
    c.in_err-read_day.ensures.none (field_is _ _ _ c.in_ok-birth.ensures.joined c.in_ok-birth.ensures.first h1))

pub returns-in_err-read_known-clause-none : goal.returns-in_err-read_known-clause-none
returns-in_err-read_known-clause-none c = if_none c.from_residual-in_err-read_known.result _
    (λ (h : IsRecordText c.args.text.now).
    let h1 = behind_is _ _ _ c.in_ok-number.ensures.joined c.in_ok-number.ensures.first h in
    let h2 = behind_is _ _ _ c.in_ok-birth.ensures.joined c.in_ok-birth.ensures.first h1 in
    c.in_err-read_known.ensures.none (field_is _ _ _ c.in_ok-sire.ensures.joined c.in_ok-sire.ensures.first h2))

pub returns-in_err-read_known-2-clause-none : goal.returns-in_err-read_known-2-clause-none
returns-in_err-read_known-2-clause-none c = if_none c.from_residual-in_err-read_known-2.result _
    (λ (h : IsRecordText c.args.text.now).
    let h1 = behind_is _ _ _ c.in_ok-number.ensures.joined c.in_ok-number.ensures.first h in
    let h2 = behind_is _ _ _ c.in_ok-birth.ensures.joined c.in_ok-birth.ensures.first h1 in
    let h3 = behind_is _ _ _ c.in_ok-sire.ensures.joined c.in_ok-sire.ensures.first h2 in
    c.in_err-read_known-2.ensures.none (field_is _ _ _ c.in_ok-dam.ensures.joined c.in_ok-dam.ensures.first h3))

pub returns-in_err-read_embryo-clause-none : goal.returns-in_err-read_embryo-clause-none
returns-in_err-read_embryo-clause-none c = if_none c.from_residual-in_err-read_embryo.result _
    (λ (h : IsRecordText c.args.text.now).
    let h1 = behind_is _ _ _ c.in_ok-number.ensures.joined c.in_ok-number.ensures.first h in
    let h2 = behind_is _ _ _ c.in_ok-birth.ensures.joined c.in_ok-birth.ensures.first h1 in
    let h3 = behind_is _ _ _ c.in_ok-sire.ensures.joined c.in_ok-sire.ensures.first h2 in
    let h4 = behind_is _ _ _ c.in_ok-dam.ensures.joined c.in_ok-dam.ensures.first h3 in
    let h5 = behind_is _ _ _ c.in_ok-herd.ensures.joined c.in_ok-herd.ensures.first h4 in
    let h6 = behind_is _ _ _ c.in_ok-since.ensures.joined c.in_ok-since.ensures.first h5 in
    let h7 = behind_is _ _ _ c.in_ok-left.ensures.joined c.in_ok-left.ensures.first h6 in
    c.in_err-read_embryo.ensures.none h7)

pub returns-in_err-read_herd-clause-none : goal.returns-in_err-read_herd-clause-none
returns-in_err-read_herd-clause-none c = if_none c.from_residual-in_err-read_herd.result _
    (λ (h : IsRecordText c.args.text.now).
    let h1 = behind_is _ _ _ c.in_ok-number.ensures.joined c.in_ok-number.ensures.first h in
    let h2 = behind_is _ _ _ c.in_ok-birth.ensures.joined c.in_ok-birth.ensures.first h1 in
    let h3 = behind_is _ _ _ c.in_ok-sire.ensures.joined c.in_ok-sire.ensures.first h2 in
    let h4 = behind_is _ _ _ c.in_ok-dam.ensures.joined c.in_ok-dam.ensures.first h3 in
    c.in_err-read_herd.ensures.none (field_is _ _ _ c.in_ok-herd.ensures.joined c.in_ok-herd.ensures.first h4))

pub returns-in_err-read_day-2-clause-none : goal.returns-in_err-read_day-2-clause-none
returns-in_err-read_day-2-clause-none c = if_none c.from_residual-in_err-read_day-2.result _
    (λ (h : IsRecordText c.args.text.now).
    let h1 = behind_is _ _ _ c.in_ok-number.ensures.joined c.in_ok-number.ensures.first h in
    let h2 = behind_is _ _ _ c.in_ok-birth.ensures.joined c.in_ok-birth.ensures.first h1 in
    let h3 = behind_is _ _ _ c.in_ok-sire.ensures.joined c.in_ok-sire.ensures.first h2 in
    let h4 = behind_is _ _ _ c.in_ok-dam.ensures.joined c.in_ok-dam.ensures.first h3 in
    let h5 = behind_is _ _ _ c.in_ok-herd.ensures.joined c.in_ok-herd.ensures.first h4 in
    c.in_err-read_day-2.ensures.none (field_is _ _ _ c.in_ok-since.ensures.joined c.in_ok-since.ensures.first h5))

pub returns-in_err-read_left-clause-none : goal.returns-in_err-read_left-clause-none
returns-in_err-read_left-clause-none c = if_none c.from_residual-in_err-read_left.result _
    (λ (h : IsRecordText c.args.text.now).
    let h1 = behind_is _ _ _ c.in_ok-number.ensures.joined c.in_ok-number.ensures.first h in
    let h2 = behind_is _ _ _ c.in_ok-birth.ensures.joined c.in_ok-birth.ensures.first h1 in
    let h3 = behind_is _ _ _ c.in_ok-sire.ensures.joined c.in_ok-sire.ensures.first h2 in
    let h4 = behind_is _ _ _ c.in_ok-dam.ensures.joined c.in_ok-dam.ensures.first h3 in
    let h5 = behind_is _ _ _ c.in_ok-herd.ensures.joined c.in_ok-herd.ensures.first h4 in
    let h6 = behind_is _ _ _ c.in_ok-since.ensures.joined c.in_ok-since.ensures.first h5 in
    c.in_err-read_left.ensures.none (field_is _ _ _ c.in_ok-left.ensures.joined c.in_ok-left.ensures.first h6))

pub returns-in_err-read_number-clause-none : goal.returns-in_err-read_number-clause-none
returns-in_err-read_number-clause-none c = if_none c.from_residual-in_err-read_number.result _
    (λ (h : IsRecordText c.args.text.now).
    c.in_err-read_number.ensures.none (field_is _ _ _ c.in_ok-number.ensures.joined c.in_ok-number.ensures.first h))
