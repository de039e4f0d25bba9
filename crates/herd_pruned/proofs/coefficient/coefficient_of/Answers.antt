-- `coefficient_of`: its result.
use Rattle.std.proofs.Common.{Contains, [], ◌∷◌, arith, refl, ◌∙◌}
use Rattle.herd_kinship.specs.Ranks.{ranked}
use Rattle.herd_pruned.proofs.lemmas.MarkedFacts.{comes_itself}
use Rattle.herd_pruned.proofs.coefficient.coefficient_of.Goals as goal

pub returns : goal.returns
returns g c =
    let rank = c.args.rank in
    c.numerator.ensures.value
    ∙ c.in_ok-coefficients.ensures.right rank (comes_itself (ranked c.args.lineage.now) (Contains (rank ∷ [])) rank (0, omega arith, refl))
