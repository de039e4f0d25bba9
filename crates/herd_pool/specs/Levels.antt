-- The levels of a lineage, their blocks, and what is traced of each. l is the limit of depths.
use Rattle.std.specs.Prelude.{◌≡◌, ℕ, ◌*◌, ◌<◌, List, length, map, take, drop, slice_index}
use Rattle.herd_lineage.specs.declared.lineage.Parents.{Parents}
use Rattle.herd_lineage.specs.Lineage.{IsLineage, depth_at, level_of}
use Rattle.herd_kinship.specs.Coefficients.{coefficient_at}

-- the ranks of a block of this length
abbrev pub block_of : ℕ → ℕ → List ℕ → List ℕ
block_of len number ranks = take len (drop (number * len) ranks)

-- some level has more animals than a block of this length, and so more than one block
abbrev pub HasLongLevel : List Parents → ℕ → Type 0
HasLongLevel rows len = (depth : ℕ) × (len < length (level_of depth rows))

-- The numerators of a lineage on the way: there is one for each animal, and those of less depth have their
-- coefficient
pub record KnowsBelow (l most : ℕ) (rows : List Parents) (known : List ℕ) (depth : ℕ) : Type 0 where
  pub lineage : IsLineage l most rows
  pub each : length known ≡ length rows
  pub right : (rank : ℕ) → rank < length rows → depth_at rows rank < depth
      → slice_index known rank ≡ coefficient_at l rows rank

-- these are the coefficients of a block's ranks
abbrev pub AreTraced : ℕ → List Parents → ℕ → ℕ → ℕ → List ℕ → Type 0
AreTraced l rows depth len number numerators =
    numerators ≡ map (coefficient_at l rows) (block_of len number (level_of depth rows))

-- these ranks have f of themselves
abbrev pub HasAt : (ℕ → ℕ) → List ℕ → List ℕ → Type 0
HasAt f known ranks = (i : ℕ) → i < length ranks → slice_index known (slice_index ranks i) ≡ f (slice_index ranks i)
