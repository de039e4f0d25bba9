-- The ancestry of a lineage, its animals named by their ranks.
use Rattle.std.specs.Prelude.{◌≡◌, ℕ, ◌⊎◌, List, length, nat_eq, nat_lt, slice_get, Option, None, Some}
use Rattle.std.specs.List.{range_with_len}
use Rattle.herd_lineage.specs.declared.lineage.Parents.{Parents}
use Rattle.herd_lineage.specs.Lineage.{sire_rank, dam_rank}
use Rattle.herd_kinship.specs.Ancestry.{Ancestry}

-- the sire or the dam of the animal at a rank isn't known
abbrev pub HasUnknownParent : List Parents → ℕ → Type 0
HasUnknownParent rows rank = (sire_rank rows rank ≡ None) ⊎ (dam_rank rows rank ≡ None)

-- the parents and the depth are those of the row at a rank
abbrev pub AreParentsAt : List Parents → ℕ → Parents → Type 0
AreParentsAt rows rank parents = slice_get rows rank ≡ Some parents

-- n animals, of which rank i has its known parents at the ranks sire i and dam i
abbrev pub ranks : ℕ → (ℕ → Option ℕ) → (ℕ → Option ℕ) → Ancestry ℕ
ranks n sire dam = record { animals = range_with_len 0 n; same = nat_eq; before = nat_lt; sire = sire; dam = dam }

-- the ancestry of the lineage, by ranks
abbrev pub ranked : List Parents → Ancestry ℕ
ranked rows = ranks (length rows) (sire_rank rows) (dam_rank rows)
