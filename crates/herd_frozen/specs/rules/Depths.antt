-- Depths that satisfy one equation at each animal.
use Rattle.std.specs.Prelude.{◌≡◌, ◌⊎◌, ℕ, ◌≤◌, IsTrue, Some}
pub use Rattle.herd_lineage.specs.Lineage.{depth_above, depth_from}
use Rattle.herd_frozen.specs.rules.Paths.{Parentage}

-- p is a known parent of x
abbrev pub IsParent : {A : Type 0} → Parentage A → A → A → Type 0
IsParent parentage p x = (parentage.sire x ≡ Some p) ⊎ (parentage.dam x ≡ Some p)

-- each depth is that which the parents' depths give, and none is above l
pub record AreDepths {A : Type 0} (l : ℕ) (parentage : Parentage A) (depth : A → ℕ) : Type 0 where
  pub closed : (p x : A) → IsTrue (parentage.is_there x) → IsParent parentage p x → IsTrue (parentage.is_there p)
  pub kept : (x : A) → IsTrue (parentage.is_there x) → depth x ≡ depth_from depth (parentage.sire x) (parentage.dam x)
  pub most : (x : A) → IsTrue (parentage.is_there x) → depth x ≤ l
