-- A lineage: the known parents of each animal by their ranks, which are less than its own, and its depth.
use Rattle.std.specs.Prelude.{◌≡◌, ◌==◌, ℕ, ◌+◌, ◌<◌, ◌≤◌, max, Some, List, length, map, slice_get, slice_index_or, Option}
use Rattle.std.specs.List.{filter, range_with_len}
use Rattle.std.specs.Option.{option_and_then, option_map_or}
use Rattle.herd_lineage.specs.declared.lineage.PackedParents.{PackedParents}
use Rattle.herd_lineage.specs.declared.lineage.Parents.{Parents}

-- the ranks of the sire and of the dam of the animal at a rank
abbrev pub sire_rank : List Parents → ℕ → Option ℕ
sire_rank lineage rank = option_and_then (λ parents. parents.sire) (slice_get lineage rank)

abbrev pub dam_rank : List Parents → ℕ → Option ℕ
dam_rank lineage rank = option_and_then (λ parents. parents.dam) (slice_get lineage rank)

-- the depth at a rank, and 0 where there is none
abbrev pub depth_at : List Parents → ℕ → ℕ
depth_at lineage rank = slice_index_or (map (λ parents. parents.depth) lineage) rank 0

-- one more than the depth of a parent, and 0 where it is unknown
abbrev pub depth_above : {A : Type 0} → (A → ℕ) → Option A → ℕ
depth_above depth parent = option_map_or (λ p. depth p + 1) parent 0

-- the depth that the parents' depths give
abbrev pub depth_from : {A : Type 0} → (A → ℕ) → Option A → Option A → ℕ
depth_from depth sire dam = max (depth_above depth sire) (depth_above depth dam)

-- a lineage of at most so many animals, none deeper than l
pub record IsLineage (l most : ℕ) (lineage : List Parents) : Type 0 where
  pub few : length lineage ≤ most
  pub sire : (i p : ℕ) → sire_rank lineage i ≡ Some p → p < i
  pub dam : (i p : ℕ) → dam_rank lineage i ≡ Some p → p < i
  pub depth : (i : ℕ) → i < length lineage
      → depth_at lineage i ≡ depth_from (depth_at lineage) (sire_rank lineage i) (dam_rank lineage i)
  pub shallow : (i : ℕ) → i < length lineage → depth_at lineage i ≤ l

-- the animal can be the next one
pub record IsNextOf (l most : ℕ) (lineage : List Parents) (parents : Parents) : Type 0 where
  pub few : length lineage < most
  pub sire : (p : ℕ) → parents.sire ≡ Some p → p < length lineage
  pub dam : (p : ℕ) → parents.dam ≡ Some p → p < length lineage
  pub depth : parents.depth ≡ depth_from (depth_at lineage) parents.sire parents.dam
  pub shallow : parents.depth ≤ l

-- what is kept of an animal's parents
abbrev pub packed_parents : Parents → PackedParents
packed_parents parents = record { sire = parents.sire; dam = parents.dam; depth = parents.depth }

-- and the parents of which this is kept
abbrev pub parents_kept : PackedParents → Parents
parents_kept packed = record { sire = packed.sire; dam = packed.dam; depth = packed.depth }

-- the ranks of a depth, ascending
unfoldable pub level_of : ℕ → List Parents → List ℕ
level_of depth rows = filter (λ rank. depth_at rows rank == depth) (range_with_len 0 (length rows))

-- the ranks of each depth up to l
unfoldable pub levels_of : ℕ → List Parents → List (List ℕ)
levels_of l rows = map (λ depth. level_of depth rows) (range_with_len 0 (l + 1))
