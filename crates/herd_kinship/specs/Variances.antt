-- The Mendelian sampling variances of a lineage that are kept, by ranks.
use Rattle.std.specs.Prelude.{◌≡◌, ℕ, ◌<◌, List, slice_index}
use Rattle.herd_lineage.specs.declared.lineage.Parents.{Parents}
use Rattle.herd_kinship.specs.Ranks.{ranked}
use Rattle.herd_kinship.specs.Table.{mendelian}

-- the numbers by rank are 0, or the animals' Mendelian sampling variances, in unit 2^-2l
pub record AreVariances (l : ℕ) (rows : List Parents) (kept : List ℕ) : Type 0 where
  pub right : (rank : ℕ) → 0 < slice_index kept rank
      → slice_index kept rank ≡ mendelian (ranked rows) l rank
