-- A pruned lineage: some animals of a lineage and all their ancestors, by places of their own.
use Rattle.std.specs.Prelude.{◌≡◌, ℕ, ◌<◌, Contains, List, length, slice_get, slice_index, Some}
use Rattle.std.specs.Option.{option_map}
use Rattle.herd_lineage.specs.declared.lineage.Parents.{Parents}
use Rattle.herd_kinship.specs.Ranks.{ranked}
use Rattle.herd_kinship.specs.Table.{entry}
use Rattle.herd_pruned.specs.Marked.{ComesFrom}

-- the animals that are kept, as a lineage, and the rank of each in the whole
pub record Pruned : Type 0 where
  pub lineage : List Parents
  pub ranks : List ℕ

-- the parents by other names
abbrev pub renamed_parents : (ℕ → ℕ) → Parents → Parents
renamed_parents name parents = record {
  sire = option_map name parents.sire;
  dam = option_map name parents.dam;
  depth = parents.depth;
}

-- animals of the whole in their order, each with its parents
pub record IsPrunedOf (whole : List Parents) (pruned : Pruned) : Type 0 where
  pub each : length pruned.lineage ≡ length pruned.ranks
  pub order : (i j : ℕ) → i < j → j < length pruned.ranks → slice_index pruned.ranks i < slice_index pruned.ranks j
  pub parents : (i : ℕ) (kept : Parents) → slice_get pruned.lineage i ≡ Some kept
      → slice_get whole (slice_index pruned.ranks i) ≡ Some (renamed_parents (slice_index pruned.ranks) kept)

-- these animals are kept with all their ancestors, and no others
pub record KeepsAncestorsOf (whole : List Parents) (animals : List ℕ) (pruned : Pruned) : Type 0 where
  pub ancestors : (rank : ℕ) → ComesFrom (ranked whole) (Contains animals) rank → Contains pruned.ranks rank
  pub others : (rank : ℕ) → Contains pruned.ranks rank → ComesFrom (ranked whole) (Contains animals) rank

-- what stands at each kept animal's rank is its place
abbrev pub ArePlaces : List ℕ → List ℕ → Type 0
ArePlaces ranks places =
    (place rank : ℕ) → slice_get ranks place ≡ Some rank → slice_get places rank ≡ Some place

-- two animals that are kept have the same entry in the table of the pruned lineage as in the whole's
abbrev pub HaveSameEntries : List Parents → Pruned → ℕ → ℕ → Type 0
HaveSameEntries whole pruned x y =
    (k : ℕ) → entry (ranked pruned.lineage) k (Some x) (Some y)
    ≡ entry (ranked whole) k (Some (slice_index pruned.ranks x)) (Some (slice_index pruned.ranks y))
