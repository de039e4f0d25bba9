use Rattle.std.proofs.Common.{◌≡◌, List, ℕ, inl, inr, subst}
use Rattle.herd_text.proofs.lemmas.Exits.{if_err}
use Rattle.herd_seal.specs.CertificateText.{certificate_text}
use Rattle.herd_seal.specs.Reading.{parts_of}
use Rattle.herd_seal.proofs.check.check_certificate.Goals as goal

pub returns-in_err-certificate-clause-fault : goal.returns-in_err-certificate-clause-fault
returns-in_err-certificate-clause-fault g c =
    if_err c.from_residual-in_err-certificate.result _ _ c.from_residual-in_err-certificate.ensures.1 (inl c.in_err-certificate.ensures.fault)

pub returns-in_err-check_rows-clause-fault : goal.returns-in_err-check_rows-clause-fault
returns-in_err-check_rows-clause-fault g c =
    if_err c.from_residual-in_err-check_rows.result _ _ c.from_residual-in_err-check_rows.ensures.1
    (inr (parts_of c.in_ok-certificate.certificate, c.in_ok-certificate.ensures.text, c.in_err-check_rows.ensures.fault))

pub returns-clause-text : goal.returns-clause-text
returns-clause-text g c =
    let it = c.in_ok-certificate.certificate in
    subst (λ (seal : List ℕ). certificate_text seal it.claim it.coefficient.now it.rows.items it.digests.items ≡ c.args.text.now)
    c.in_ok-check_rows.ensures.same c.in_ok-certificate.ensures.text.joined
