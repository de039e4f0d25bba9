-- The numerator relationship matrix A by the tabular method, and what is read from it: Wright's coefficient of
-- inbreeding (1922) and the Mendelian sampling variance (Henderson 1976). l is the limit of depths.
use Rattle.std.specs.Prelude.{ℕ, zero, suc, ◌+◌, ◌*◌, ◌-◌, ◌^◌, if◌then◌else◌, Option, None, Some}
use Rattle.herd_kinship.specs.Ancestry.{Ancestry}

-- The entry of two animals in A, in unit 2^-k: 0 where one is unknown; of an animal with itself the whole and
-- its parents' entry; else the older one's entries with the parents of the younger one. A step halves the unit
-- and not the value, so nothing is rounded.
unfoldable pub entry : {A : Type 0} → Ancestry A → ℕ → Option A → Option A → ℕ
entry kin k None y = 0
entry kin k (Some x) None = 0
entry kin zero (Some x) (Some y) = if kin.same x y then 1 else 0
entry kin (suc k) (Some x) (Some y) =
    if kin.same x y then 2 ^ suc k + entry kin k (kin.sire x) (kin.dam x) else (
    if kin.before x y then entry kin k (Some x) (kin.sire y) + entry kin k (Some x) (kin.dam y) else
    entry kin k (Some y) (kin.sire x) + entry kin k (Some y) (kin.dam x))

-- the coefficient of inbreeding of x in unit 2^-2l: half the entry of its parents, 0 where one is unknown
unfoldable pub coefficient : {A : Type 0} → Ancestry A → ℕ → A → ℕ
coefficient kin l x = entry kin (2 * l - 1) (kin.sire x) (kin.dam x)

-- the Mendelian sampling variance of j as a part of the additive variance, in unit 2^-2l: the whole less a quarter of
-- each known parent's entry with itself
unfoldable pub mendelian : {A : Type 0} → Ancestry A → ℕ → A → ℕ
mendelian kin l j =
    2 ^ (2 * l) - entry kin (2 * l - 2) (kin.sire j) (kin.sire j) - entry kin (2 * l - 2) (kin.dam j) (kin.dam j)
