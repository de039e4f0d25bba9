-- The lines on the animal and those of its ancestors are its certificate.
use Rattle.std.proofs.Common.{◌∙◌, ℕ, List, ◌++◌, ap, append_assoc}
use Rattle.std.proofs.lemmas.Result.{IfOk-equal}
use Rattle.herd_frozen.specs.freezing.Frozen.{book_of}
use Rattle.herd_advice.specs.FrozenAncestry.{number_of_row}
use Rattle.herd_report.proofs.lemmas.writing.CertificateFacts.{certificate_made}
use Rattle.herd_report.specs.writing.Certificate.{ancestors_text, animal_text}
use Rattle.herd_report.proofs.writing.certificate.push_certificate.Goals as goal

pub returns : goal.returns
returns g c =
    let rows = c.args.frozen.now in
    let row = c.row.result in
    let own = animal_text row.number row.animal c.args.own.numerator in
    let ancestors = ancestors_text (book_of rows) (number_of_row rows c.args.rank) in
    let made = certificate_made rows c.row.ensures.frozen c.args.rank row c.row.ensures.row c.args.own.numerator c.requires.own in
    IfOk-equal c.push_ancestors.result _ _ _ c.push_ancestors.ensures
    (rw c.in_ok-push_animal.ensures (append_assoc c.args.text.now own ancestors ∙ ap (λ (text : List ℕ). c.args.text.now ++ text) made))
