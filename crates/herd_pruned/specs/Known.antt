-- Coefficients of inbreeding of some animals and of all their ancestors, in unit 2^-2l, by ranks.
use Rattle.std.specs.Prelude.{◌≡◌, ℕ, List, length, slice_index}
use Rattle.herd_lineage.specs.declared.lineage.Parents.{Parents}
use Rattle.herd_kinship.specs.Coefficients.{coefficient_at}
use Rattle.herd_kinship.specs.Ranks.{ranked}
use Rattle.herd_pruned.specs.Marked.{ComesFrom}

-- there is a numerator for each animal of the lineage; at these and at their ancestors it is their coefficient
pub record AreCoefficientsOf (l : ℕ) (lineage : List Parents) (animals : ℕ → Type 0) (numerators : List ℕ) : Type 0 where
  pub each : length numerators ≡ length lineage
  pub right : (rank : ℕ) → ComesFrom (ranked lineage) animals rank
      → slice_index numerators rank ≡ coefficient_at l lineage rank
