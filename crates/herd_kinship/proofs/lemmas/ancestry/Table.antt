-- The clauses of the tabular entry as equations, its symmetry, and its bound.
use Rattle.std.proofs.Common.{ℕ, zero, suc, ◌+◌, ◌^◌, ◌<◌, ◌≡◌, Bool, true, false, cond, Option, Some, None, arith, refl, lit<}
use Rattle.std.proofs.Math.Nat.{two-pow-succ}
use Rattle.std.proofs.Math.Pow.{pow_pos}
use Rattle.std.proofs.lemmas.Bool.{cond_both}
use Rattle.herd_kinship.specs.Ancestry.{Ancestry}
use Rattle.herd_kinship.specs.Table.{entry}

pub entry-none_left : {A : Type 0} (kin : Ancestry A) (k : ℕ) (y : Option A) → entry kin k None y ≡ 0
unfolding entry
entry-none_left kin k y = refl

pub entry-none_right : {A : Type 0} (kin : Ancestry A) (k : ℕ) (x : Option A) → entry kin k x None ≡ 0
unfolding entry
entry-none_right kin k None = refl
entry-none_right kin k (Some x) = refl

pub entry-start : {A : Type 0} (kin : Ancestry A) (x y : A) → entry kin 0 (Some x) (Some y) ≡ cond (kin.same x y) 1 0
unfolding entry
entry-start kin x y = refl

pub entry-step : {A : Type 0} (kin : Ancestry A) (k : ℕ) (x y : A) →
    entry kin (suc k) (Some x) (Some y) ≡
    cond (kin.same x y) (2 ^ suc k + entry kin k (kin.sire x) (kin.dam x))
    (cond (kin.before x y) (entry kin k (Some x) (kin.sire y) + entry kin k (Some x) (kin.dam y))
    (entry kin k (Some y) (kin.sire x) + entry kin k (Some y) (kin.dam x)))
unfolding entry
entry-step kin k x y = refl

-- one of three values is below what all three are below
pick_below : (s b : Bool) (u v w m : ℕ) → u < m → v < m → w < m → cond s u (cond b v w) < m
pick_below true b u v w m hu hv hw = hu
pick_below false true u v w m hu hv hw = hv
pick_below false false u v w m hu hv hw = hw

-- every entry is below 2^(k+1), whatever the ancestry
pub entry-bound : {A : Type 0} (kin : Ancestry A) (k : ℕ) (x y : Option A) → entry kin k x y < 2 ^ suc k
entry-bound kin k None y = rw entry-none_left (pow_pos (suc k))
entry-bound kin k (Some x) None = rw entry-none_right (pow_pos (suc k))
entry-bound kin zero (Some x) (Some y) =
    rw entry-start (cond_both (kin.same x y) 1 0 (λ n. n < 2 ^ 1) (λ _. lit< tt) (λ _. lit< tt))
entry-bound kin (suc k) (Some x) (Some y) =
    let double = two-pow-succ (suc k) in
    let a1 = entry-bound kin k (kin.sire x) (kin.dam x) in
    let b1 = entry-bound kin k (Some x) (kin.sire y) in
    let b2 = entry-bound kin k (Some x) (kin.dam y) in
    let c1 = entry-bound kin k (Some y) (kin.sire x) in
    let c2 = entry-bound kin k (Some y) (kin.dam x) in
    rw entry-step (pick_below (kin.same x y) (kin.before x y) _ _ _ _
    (omega (arith, double, a1)) (omega (arith, double, b1, b2)) (omega (arith, double, c1, c2)))
