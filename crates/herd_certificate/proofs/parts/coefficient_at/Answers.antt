-- What is known of the animal is its coefficient.
use Rattle.std.proofs.Common.{◌∙◌, ◌∷◌, [], List, Contains, ap}
use Rattle.herd_lineage.specs.declared.lineage.Parents.{Parents}
use Rattle.herd_lineage.proofs.lemmas.Contained.{contains_here}
use Rattle.herd_frozen.specs.declared.TheConstants.{DEPTH_LIMIT}
use Rattle.herd_kinship.specs.Coefficients.{coefficient_at}
use Rattle.herd_kinship.specs.Ranks.{ranked}
use Rattle.herd_pruned.proofs.lemmas.MarkedFacts.{comes_itself}
use Rattle.herd_certificate.proofs.parts.coefficient_at.Goals as goal

pub returns : goal.returns
returns g c =
    let lineage = c.lineage.result.now in
    let place = c.args.place in
    c.numerator.ensures.value
    ∙ c.in_ok-known.ensures.right place (comes_itself (ranked lineage) (Contains (place ∷ [])) place (contains_here place []))
    ∙ ap (λ (l : List Parents). coefficient_at DEPTH_LIMIT l place) c.lineage.ensures.value
