-- The laws of the numerator relationship matrix A, for two animals of any ancestry; l is the limit of depths.
use Rattle.std.specs.Prelude.{ℕ, ◌+◌, ◌*◌, ◌^◌, ◌≡◌, ◌<◌, ◌≤◌, if◌then◌else◌, Option, Some, pos}
use Rattle.herd_kinship.specs.Ancestry.{Ancestry}
use Rattle.herd_kinship.specs.Table.{entry, coefficient, mendelian}
use Rattle.herd_kinship.specs.Shares.{shared}
use Rattle.herd_kinship.specs.InverseRows.{row_product}

-- nothing is lost in halves: from this unit on, halving it doubles the entry
abbrev pub KeepsHalves : {A : Type 0} → Ancestry A → ℕ → A → A → Type 0
KeepsHalves kin from x y =
    (k : ℕ) → from ≤ k → entry kin (k + 1) (Some x) (Some y) ≡ 2 * entry kin k (Some x) (Some y)

-- A is symmetric, in every unit
abbrev pub IsSymmetric : {A : Type 0} → Ancestry A → A → A → Type 0
IsSymmetric kin x y = (k : ℕ) → entry kin k (Some x) (Some y) ≡ entry kin k (Some y) (Some x)

-- an entry is below 2 in every unit, a coefficient below 1, and a Mendelian sampling variance above 0 and at most 1
pub record IsBounded {A : Type 0} (kin : Ancestry A) (l : ℕ) (x y : A) : Type 0 where
  pub entries : (k : ℕ) → entry kin k (Some x) (Some y) < 2 ^ (k + 1)
  pub below_one : coefficient kin l x < 2 ^ (2 * l)
  pub positive : 1 ≤ mendelian kin l x
  pub at_most : mendelian kin l x ≤ 2 ^ (2 * l)

-- A is the shares and the Mendelian sampling variances multiplied: A = T D T'
abbrev pub IsDecomposed : {A : Type 0} → Ancestry A → ℕ → Option A → Option A → Type 0
IsDecomposed kin l x y = shared kin l x y ≡ 2 ^ (2 * l) * entry kin (2 * l) x y

-- The rows diagonalise A, from which it follows that the contributions that they give add up to its inverse; the sum
-- itself isn't formed or proved.
abbrev pub IsDiagonalised : {A : Type 0} → Ancestry A → ℕ → A → A → Type 0
IsDiagonalised kin l i j = row_product kin l i j ≡ pos (if kin.same i j then 4 * mendelian kin l i else 0)
