-- Animals that are marked, and those from which they come.
use Rattle.std.specs.Prelude.{◌≡◌, ℕ, Bool, true, List, length, slice_get, slice_set, Option, Some}
use Rattle.std.specs.Option.{option_map_or}
use Rattle.herd_lineage.specs.declared.lineage.Parents.{Parents}
use Rattle.herd_kinship.specs.Ancestry.{Ancestry, IsParentIn, PathTo}
use Rattle.herd_kinship.specs.Ranks.{ranked}

-- the animal at a rank is marked
abbrev pub IsMarked : List Bool → ℕ → Type 0
IsMarked marks rank = slice_get marks rank ≡ Some true

-- the marks with one more, where there is one
abbrev pub with_mark : List Bool → Option ℕ → List Bool
with_mark marks animal = option_map_or (λ rank. slice_set marks rank true) animal marks

-- an animal is one of these, or an ancestor of one
abbrev pub ComesFrom : {A : Type 0} → Ancestry A → (A → Type 0) → A → Type 0
ComesFrom {A} kin animals x = (animal : A) × animals animal × (n : ℕ) × PathTo kin n animal x

-- some animals and all their ancestors are marked, and no others
pub record MarksAncestors (lineage : List Parents) (animals : ℕ → Type 0) (marks : List Bool) : Type 0 where
  pub each : length marks ≡ length lineage
  pub themselves : (rank : ℕ) → animals rank → IsMarked marks rank
  pub parents : (rank parent : ℕ) → IsMarked marks rank → IsParentIn (ranked lineage) parent rank → IsMarked marks parent
  pub others : (rank : ℕ) → IsMarked marks rank → ComesFrom (ranked lineage) animals rank
