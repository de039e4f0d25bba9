-- Paths of known parents, and depths, over any way to name the animals.
use Rattle.std.specs.Prelude.{ℕ, zero, suc, ◌≤◌, Bool, false, ◌&&◌, ◌||◌, IsTrue, Option}
use Rattle.std.specs.Option.{option_map_or}

-- who is in a book, and the known parents of each
pub record Parentage (A : Type 0) : Type 0 where
  pub is_there : A → Bool
  pub sire : A → Option A
  pub dam : A → Option A

-- whether from the animal x there is a path of n steps, each to a known parent
unfoldable pub has_path : {A : Type 0} → Parentage A → ℕ → A → Bool
has_path parentage zero x = parentage.is_there x
has_path parentage (suc n) x =
    parentage.is_there x
    && (option_map_or (has_path parentage n) (parentage.sire x) false
    || option_map_or (has_path parentage n) (parentage.dam x) false)

-- the longest path from x has n steps
pub record IsDepth {A : Type 0} (parentage : Parentage A) (x : A) (n : ℕ) : Type 0 where
  pub reached : IsTrue (has_path parentage n x)
  pub longest : (m : ℕ) → IsTrue (has_path parentage m x) → m ≤ n
