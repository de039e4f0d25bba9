-- Coefficients of inbreeding of a frozen book's animals, in unit 2^-2l, by ranks.
use Rattle.std.specs.Prelude.{◌≡◌, ℕ, ◌<◌, All, Contains, List, length, slice_index}
use Rattle.herd_frozen.specs.declared.freezing.frozen.Row.{Row}
use Rattle.herd_kinship.specs.Ancestry.{IsAncestor}
use Rattle.herd_kinship.specs.Table.{coefficient}
use Rattle.herd_pruned.specs.Marked.{ComesFrom}
use Rattle.herd_advice.specs.FrozenAncestry.{ancestry_of, number_of_row}

-- there is a numerator for each animal, and it is its coefficient
pub record AreBookCoefficients (l : ℕ) (rows : List Row) (numerators : List ℕ) : Type 0 where
  pub each : length numerators ≡ length rows
  pub right : (rank : ℕ) → rank < length rows
      → slice_index numerators rank ≡ coefficient (ancestry_of rows) l (number_of_row rows rank)

-- there is a numerator for each animal; at the animals of these numbers and at their ancestors it is their coefficient
pub record AreBookCoefficientsOf (l : ℕ) (rows : List Row) (numbers : List (List ℕ)) (numerators : List ℕ) : Type 0 where
  pub each : length numerators ≡ length rows
  pub right : (rank : ℕ) → rank < length rows
      → ComesFrom (ancestry_of rows) (Contains numbers) (number_of_row rows rank)
      → slice_index numerators rank ≡ coefficient (ancestry_of rows) l (number_of_row rows rank)

-- there is a numerator for each animal, and at the ancestors of the animal at a rank it is their coefficient
pub record KnowsBookAncestors (l : ℕ) (rows : List Row) (known : List ℕ) (rank : ℕ) : Type 0 where
  pub each : length known ≡ length rows
  pub right : (p : ℕ) → p < length rows
      → IsAncestor (ancestry_of rows) (number_of_row rows p) (number_of_row rows rank)
      → slice_index known p ≡ coefficient (ancestry_of rows) l (number_of_row rows p)

-- ranks of the book, among them those of these numbers that are in it
pub record AreRanksOf (rows : List Row) (numbers : List (List ℕ)) (ranks : List ℕ) : Type 0 where
  pub within : All (λ rank. rank < length rows) ranks
  pub each : (rank : ℕ) → rank < length rows → Contains numbers (number_of_row rows rank) → Contains ranks rank
