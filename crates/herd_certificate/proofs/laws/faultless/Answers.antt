use Rattle.std.proofs.Common.{◌∙◌, ℕ, List, ap, subst}
use Rattle.herd_frozen.specs.declared.TheConstants.{DEPTH_LIMIT, MOST_ANIMALS}
use Rattle.herd_lineage.specs.Lineage.{IsLineage}
use Rattle.herd_lineage.specs.declared.lineage.Parents.{Parents}
use Rattle.herd_seal.specs.declared.check_fault.CheckCause.{CheckCause}
use Rattle.herd_seal.specs.declared.check_fault.CheckCause.TheVariants.{Memory}
use Rattle.herd_seal.specs.declared.check_fault.CheckFault.{CheckFault}
use Rattle.herd_certificate.proofs.AcceptedFacts.{faultless}
use Rattle.herd_certificate.proofs.laws.faultless.Goals as goal

abbrev made : CheckCause → ℕ → CheckFault
made cause line = record { cause = cause; line = line }

pub returns : goal.returns
returns g c = λ fault wrong.
    let tree = subst (λ (l : List Parents). IsLineage DEPTH_LIMIT MOST_ANIMALS l) c.lineage.ensures.value
    c.lineage.ensures.lineage in
    let is = faultless c.args.frozen.now c.lineage.ensures.frozen tree c.args.place c.requires c.args.steps
    fault.cause fault.line wrong in
    ap (λ (cause : CheckCause). made cause fault.line) is.0 ∙ ap (λ (line : ℕ). made Memory line) is.1
