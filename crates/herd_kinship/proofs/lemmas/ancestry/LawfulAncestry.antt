-- What a lawful ancestry is, its paths and depths, ancestries that have all animals of another one, and those that differ
-- from it in the names of the animals alone.
use Rattle.std.proofs.Common.{ℕ, zero, suc, ◌+◌, ◌≤◌, ◌≡◌, ◌⊎◌, ◌↔◌, IsTrue, Contains, map}
use Rattle.std.specs.List.{count_by}
use Rattle.std.specs.List.Sorted.{IsPermutation}
use Rattle.std.specs.Option.{option_map}
use Rattle.herd_kinship.specs.Ancestry.{Ancestry, IsParentIn}

-- the animals stand once each in an order in which parents are animals that come before
pub record IsLawful {A : Type 0} (kin : Ancestry A) : Type 0 where
  pub same : (x y : A) → IsTrue (kin.same x y) ↔ (x ≡ y)
  pub once : (x : A) → Contains kin.animals x → count_by (kin.same x) kin.animals ≡ 1
  pub one_way : (x y : A) → IsTrue (kin.before x y) → ¬ (IsTrue (kin.before y x))
  pub chain : (x y z : A) → IsTrue (kin.before x y) → IsTrue (kin.before y z) → IsTrue (kin.before x z)
  pub total : (x y : A) → Contains kin.animals x → Contains kin.animals y →
      (x ≡ y) ⊎ (IsTrue (kin.before x y) ⊎ IsTrue (kin.before y x))
  pub parents : (p x : A) → Contains kin.animals x → IsParentIn kin p x →
      Contains kin.animals p × IsTrue (kin.before p x)

-- from the animal x there is a path of n steps, each to a known parent
unfoldable pub Path : {A : Type 0} → Ancestry A → ℕ → A → Type 0
Path kin zero x = Contains kin.animals x
Path {A} kin (suc n) x = Contains kin.animals x × ((p : A) × IsParentIn kin p x × Path kin n p)

-- the longest path from x has n steps
abbrev pub IsDepth : {A : Type 0} → Ancestry A → A → ℕ → Type 0
IsDepth kin x n = Path kin n x × ((m : ℕ) → Path kin m x → m ≤ n)

-- no path is longer than l
abbrev pub IsShallow : {A : Type 0} → Ancestry A → ℕ → Type 0
IsShallow {A} kin l = (x : A) → ¬ (Path kin (l + 1) x)

-- the animals of kin are among those of kin', where x is named φ x, with the same parents and in the same order
pub record IsIncluded {A B : Type 0} (kin : Ancestry A) (kin' : Ancestry B) (φ : A → B) : Type 0 where
  pub same : (x y : A) → Contains kin.animals x → Contains kin.animals y → kin'.same (φ x) (φ y) ≡ kin.same x y
  pub before : (x y : A) → Contains kin.animals x → Contains kin.animals y → kin'.before (φ x) (φ y) ≡ kin.before x y
  pub sire : (x : A) → Contains kin.animals x → kin'.sire (φ x) ≡ option_map φ (kin.sire x)
  pub dam : (x : A) → Contains kin.animals x → kin'.dam (φ x) ≡ option_map φ (kin.dam x)

-- kin' is the ancestry kin with each animal x named φ x
pub record IsRenamed {A B : Type 0} (kin : Ancestry A) (kin' : Ancestry B) (φ : A → B) : Type 0 where
  pub animals : IsPermutation (map φ kin.animals) kin'.animals
  pub same : (x y : A) → Contains kin.animals x → Contains kin.animals y → kin'.same (φ x) (φ y) ≡ kin.same x y
  pub before : (x y : A) → Contains kin.animals x → Contains kin.animals y → kin'.before (φ x) (φ y) ≡ kin.before x y
  pub sire : (x : A) → Contains kin.animals x → kin'.sire (φ x) ≡ option_map φ (kin.sire x)
  pub dam : (x : A) → Contains kin.animals x → kin'.dam (φ x) ≡ option_map φ (kin.dam x)
