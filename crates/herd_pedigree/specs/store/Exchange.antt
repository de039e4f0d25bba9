-- The parents by place, with those of one animal exchanged.
use Rattle.std.specs.Prelude.{◌≡◌, ℕ, ◌<◌, List, length, slice_set, Option}
use Rattle.herd_frozen.specs.rules.Paths.{Parentage}
use Rattle.herd_frozen.specs.rules.Depths.{IsParent}
use Rattle.herd_frozen.specs.places.Places.{parentage_at}

-- the places that there are, and the known parents of each
abbrev pub exchanged : List (Option ℕ) → List (Option ℕ) → ℕ → Option ℕ → Option ℕ → Parentage ℕ
exchanged sires dams place sire dam = parentage_at (slice_set sires place sire) (slice_set dams place dam)

-- the animal and all parents are there
pub record IsSound (sires dams : List (Option ℕ)) (place : ℕ) (sire dam : Option ℕ) : Type 0 where
  pub here : place < length sires
  pub wide : length dams ≡ length sires
  pub closed : (p x : ℕ) → IsParent (exchanged sires dams place sire dam) p x → p < length sires
