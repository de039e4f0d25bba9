-- How depths are carried on to the calves of animals whose depth has changed.
use Rattle.std.specs.Prelude.{◌≡◌, ◌⊎◌, ℕ, ◌+◌, List, ◌++◌, All, Contains, IsTrue, min}
use Rattle.herd_frozen.specs.rules.Paths.{Parentage, has_path}
use Rattle.herd_frozen.specs.rules.Depths.{IsParent, depth_from}

-- each animal that isn't pending has the depth that its parents' depths give, cut off above the limit
abbrev pub IsSettled : {A : Type 0} → ℕ → Parentage A → (A → ℕ) → List A → Type 0
IsSettled {A} l parentage depth pending = (x : A) → IsTrue (parentage.is_there x) →
    Contains pending x ⊎ (depth x ≡ min (l + 1) (depth_from depth (parentage.sire x) (parentage.dam x)))

-- from each of the animals there is a path of n steps
abbrev pub HavePaths : {A : Type 0} → Parentage A → ℕ → List A → Type 0
HavePaths parentage n animals = All (λ x. IsTrue (has_path parentage n x)) animals

-- the calves of p were put behind the others
pub record AddsCalves {A : Type 0} (parentage : Parentage A) (p : A) (old new : List A) : Type 0 where
  pub added : List A
  pub is : new ≡ old ++ added
  pub all : (x : A) → IsTrue (parentage.is_there x) → IsParent parentage p x → Contains added x
  pub only : (x : A) → Contains added x → IsTrue (parentage.is_there x) × IsParent parentage p x
