-- From whom animals come: what relationships are made from.
use Rattle.std.specs.Prelude.{◌≡◌, ℕ, zero, suc, ◌⊎◌, Bool, List, Option, Some}

-- the animals, whether two are one, whether one is before another in an order of age, and the known parents of each
pub record Ancestry (A : Type 0) : Type 0 where
  pub animals : List A
  pub same : A → A → Bool
  pub before : A → A → Bool
  pub sire : A → Option A
  pub dam : A → Option A

-- p is a known parent of x
abbrev pub IsParentIn : {A : Type 0} → Ancestry A → A → A → Type 0
IsParentIn kin p x = (kin.sire x ≡ Some p) ⊎ (kin.dam x ≡ Some p)

-- from x to p there is a path of n steps, each to a known parent
unfoldable pub PathTo : {A : Type 0} → Ancestry A → ℕ → A → A → Type 0
PathTo kin zero x p = x ≡ p
PathTo {A} kin (suc n) x p = (q : A) × IsParentIn kin q x × PathTo kin n q p

-- p is an ancestor of x
abbrev pub IsAncestor : {A : Type 0} → Ancestry A → A → A → Type 0
IsAncestor kin p x = (n : ℕ) × PathTo kin (suc n) x p
