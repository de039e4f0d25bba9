-- The certificate at the rank of a number is that of the number.
use Rattle.herd_text.proofs.lemmas.Exits.{if_err}
use Rattle.herd_report.proofs.lemmas.writing.CertificateFacts.{number_is_there}
use Rattle.herd_sealed_report.proofs.SealedFacts.{place_is}
use Rattle.herd_sealed_report.proofs.sealed_certificate.write_sealed.Goals as goal

pub returns-in_err-write_sealed_at-clause-err : goal.returns-in_err-write_sealed_at-clause-err
returns-in_err-write_sealed_at-clause-err g c =
    let rows = c.args.frozen.now in
    let there = number_is_there rows c.in-Some.place c.args.number c.in-Some.ensures.rank in
    let place = place_is rows c.in-Some.ensures.frozen c.in-Some.place c.args.number c.in-Some.ensures.rank in
    if_err c.from_residual.result _ _ c.from_residual.ensures.1 (there, rw place c.in_err-write_sealed_at.ensures.err)

pub returns-in_err-write_sealed_at-clause-untouched : goal.returns-in_err-write_sealed_at-clause-untouched
returns-in_err-write_sealed_at-clause-untouched g c =
    let there = number_is_there c.args.frozen.now c.in-Some.place c.args.number c.in-Some.ensures.rank in
    λ absent. absurd (cc)

pub returns-clause-ok : goal.returns-clause-ok
returns-clause-ok g c =
    let rows = c.args.frozen.now in
    let there = number_is_there rows c.in-Some.place c.args.number c.in-Some.ensures.rank in
    let place = place_is rows c.in-Some.ensures.frozen c.in-Some.place c.args.number c.in-Some.ensures.rank in
    (there, rw place c.in_ok-write_sealed_at.ensures.ok)

pub returns-clause-untouched : goal.returns-clause-untouched
returns-clause-untouched g c =
    let there = number_is_there c.args.frozen.now c.in-Some.place c.args.number c.in-Some.ensures.rank in
    λ absent. absurd (cc)
