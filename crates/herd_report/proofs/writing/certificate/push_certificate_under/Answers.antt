-- The certificate at the rank of a number is that of the number, and isn't empty; a number that isn't there has none.
use Rattle.std.proofs.Common.{◌∙◌, ◌∷◌, [], ap, arith, refl, sym}
use Rattle.herd_frozen.specs.declared.TheConstants.{DEPTH_LIMIT}
use Rattle.herd_advice.specs.FrozenAncestry.{ancestry_of}
use Rattle.herd_kinship.specs.Table.{coefficient}
use Rattle.herd_advice.proofs.lemmas.FrozenFacts.{knows-itself}
use Rattle.herd_text.proofs.lemmas.Exits.{on_err}
use Rattle.herd_report.proofs.lemmas.writing.CertificateFacts.{no_certificate, number_at_rank, number_is_there, some_certificate}
use Rattle.herd_report.proofs.writing.certificate.push_certificate_under.Goals as goal

pub push_certificate-requires-clause-own : goal.push_certificate-requires-clause-own
push_certificate-requires-clause-own g c =
    let rows = c.args.frozen.now in
    let stands = c.in-Some.ensures.rank in
    c.numerator.ensures.value
    ∙ knows-itself DEPTH_LIMIT rows (c.args.number ∷ []) c.args.coefficients.now c.requires c.in-Some.rank c.args.number stands (0, omega arith, refl)
    ∙ ap (coefficient (ancestry_of rows) DEPTH_LIMIT) (sym (number_at_rank rows c.in-Some.rank c.args.number stands))

pub returns-clause-made : goal.returns-clause-made
returns-clause-made g c =
    let own = number_at_rank c.args.frozen.now c.in-Some.rank c.args.number c.in-Some.ensures.rank in
    rw own at c.push_certificate.ensures

pub returns-clause-some : goal.returns-clause-some
returns-clause-some g c =
    let there = number_is_there c.args.frozen.now c.in-Some.rank c.args.number c.in-Some.ensures.rank in
    on_err c.push_certificate.result (some_certificate c.args.frozen.now c.args.number there)

pub returns-in_default-clause-made : goal.returns-in_default-clause-made
returns-in_default-clause-made g c = no_certificate c.args.frozen.now c.args.number c.args.text.now c.in_default.ensures.absent
