-- Coefficients of inbreeding of a lineage's animals, in unit 2^-2l, by ranks.
use Rattle.std.specs.Prelude.{◌≡◌, ℕ, ◌+◌, ◌*◌, ◌/◌, ◌^◌, ◌<◌, List, length, slice_index, Option, None, Some}
use Rattle.herd_lineage.specs.declared.lineage.Parents.{Parents}
use Rattle.herd_lineage.specs.Lineage.{depth_at, dam_rank, sire_rank}
use Rattle.herd_kinship.specs.Ancestry.{IsAncestor}
use Rattle.herd_kinship.specs.Table.{coefficient, entry}
use Rattle.herd_kinship.specs.Ranks.{ranked}

-- the coefficient of the animal at a rank
abbrev pub coefficient_at : ℕ → List Parents → ℕ → ℕ
coefficient_at l rows rank = coefficient (ranked rows) l rank

-- there is a numerator for each animal, and it is its coefficient
pub record AreCoefficients (l : ℕ) (rows : List Parents) (numerators : List ℕ) : Type 0 where
  pub each : length numerators ≡ length rows
  pub right : (rank : ℕ) → rank < length rows → slice_index numerators rank ≡ coefficient_at l rows rank

-- there is a numerator for each animal, and at the ancestors of the animal at a rank it is their coefficient
pub record KnowsAncestors (l : ℕ) (rows : List Parents) (known : List ℕ) (rank : ℕ) : Type 0 where
  pub each : length known ≡ length rows
  pub right : (p : ℕ) → p < length rows
      → IsAncestor (ranked rows) p rank
      → slice_index known p ≡ coefficient_at l rows p

-- the relationship of the animal at a rank with itself, which is the whole and its coefficient
abbrev pub own_relationship : ℕ → List Parents → ℕ → ℕ
own_relationship l rows rank =
    entry (ranked rows) (2 * l) (Some rank) (Some rank)

-- a quarter of a parent's relationship with itself, which is the whole and its coefficient; 0 of an unknown one
abbrev pub quarter_of : ℕ → List ℕ → Option ℕ → ℕ
quarter_of l known None = 0
quarter_of l known (Some p) = (2 ^ (2 * l) + slice_index known p) / 4

-- there is a numerator for the parent, and it is below 1
pub record IsKnownParent (l : ℕ) (known : List ℕ) (parent : ℕ) : Type 0 where
  pub within : parent < length known
  pub below_one : slice_index known parent < 2 ^ (2 * l)

-- the animals before a rank
abbrev pub IsBefore : ℕ → ℕ → Type 0
IsBefore border rank = rank < border

-- the animals of less depth
abbrev pub IsLessDeep : List Parents → ℕ → ℕ → Type 0
IsLessDeep rows depth rank = depth_at rows rank < depth

-- a parent of the animal is unknown, or its sire is one of these
abbrev pub IsReached : List Parents → (ℕ → Type 0) → ℕ → Type 0
IsReached rows sires x = (s d : ℕ) → sire_rank rows x ≡ Some s → dam_rank rows x ≡ Some d → sires s

-- there is a numerator for each animal, and at those that are reached from these sires it is their coefficient
pub record KnowsReached (l : ℕ) (rows : List Parents) (sires : ℕ → Type 0) (known : List ℕ) : Type 0 where
  pub each : length known ≡ length rows
  pub right : (x : ℕ) → x < length rows → IsReached rows sires x → slice_index known x ≡ coefficient_at l rows x
