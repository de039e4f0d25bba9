-- A correction of parents, and the depths that it finds.
use Rattle.std.specs.Prelude.{◌≡◌, ℕ, ◌<◌, ◌≤◌, List, [], ◌∷◌, length, slice_index}
use Rattle.herd_pedigree.specs.declared.store.correction.Correction.{Correction}
use Rattle.herd_frozen.specs.rules.Paths.{Parentage}
use Rattle.herd_frozen.specs.places.Places.{parentage_at}
use Rattle.herd_pedigree.specs.store.Carrying.{IsSettled}
use Rattle.herd_pedigree.specs.store.Exchange.{exchanged}

-- the places that there are, and the known parents of each
abbrev pub corrected : {A : Type 0} → Correction A → Parentage ℕ
corrected c = exchanged c.sires.now.parents c.dams.now.parents c.place c.sire c.dam

-- and those before
abbrev pub uncorrected : {A : Type 0} → Correction A → Parentage ℕ
uncorrected c = parentage_at c.sires.now.parents c.dams.now.parents

-- one depth for each animal: all but that of the animal whose parents are exchanged are settled, and none is above l
pub record AreDepthsBefore {A : Type 0} (l : ℕ) (c : Correction A) (depths : List ℕ) : Type 0 where
  pub long : length depths ≡ length c.sires.now.parents
  pub settled : IsSettled l (corrected c) (slice_index depths) (c.place ∷ [])
  pub shallow : (x : ℕ) → x < length depths → slice_index depths x ≤ l
