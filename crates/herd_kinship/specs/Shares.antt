-- What animals have of their ancestors: T in A = T D T' (Henderson 1976; Meuwissen and Luo 1992).
use Rattle.std.specs.Prelude.{ℕ, zero, suc, ◌+◌, ◌*◌, ◌^◌, if◌then◌else◌, Option, None, Some, sum_by}
use Rattle.herd_kinship.specs.Ancestry.{Ancestry}
use Rattle.herd_kinship.specs.Table.{mendelian}

-- the share of j's genes in x, in unit 2^-k: all of its own, else what x's parents have of j
unfoldable pub share : {A : Type 0} → Ancestry A → ℕ → Option A → A → ℕ
share kin k None j = 0
share kin zero (Some x) j = if kin.same x j then 1 else 0
share kin (suc k) (Some x) j =
    if kin.same x j then 2 ^ suc k else share kin k (kin.sire x) j + share kin k (kin.dam x) j

-- the shares that x and y have of each animal times its Mendelian sampling variance, added up
unfoldable pub shared : {A : Type 0} → Ancestry A → ℕ → Option A → Option A → ℕ
shared kin l x y = sum_by (λ j. share kin l x j * share kin l y j * mendelian kin l j) kin.animals
