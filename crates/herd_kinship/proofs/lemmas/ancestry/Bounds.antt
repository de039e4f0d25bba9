-- Bounds of coefficients and Mendelian sampling variances, and the entry of an animal with itself.
use Rattle.std.proofs.Common.{ℕ, zero, suc, ◌+◌, ◌*◌, ◌-◌, ◌^◌, ◌<◌, ◌≤◌, ◌≡◌, ◌/◌, ◌⊎◌, ⊎_elim, Some, None, arith, refl, sym, ◌∙◌, ap}
use Rattle.std.proofs.Math.Nat.{two-pow-succ}
use Rattle.herd_kinship.specs.Ancestry.{Ancestry}
use Rattle.herd_kinship.specs.Table.{entry, coefficient, mendelian}
use Rattle.herd_kinship.proofs.lemmas.ancestry.LawfulAncestry.{IsLawful}
use Rattle.herd_kinship.proofs.lemmas.ancestry.Table.{entry-none_left, entry-none_right, entry-start, entry-step, entry-bound}
use Rattle.herd_kinship.proofs.lemmas.ancestry.Depth.{Below, Below-zero, Below-sire, unit}
use Rattle.herd_kinship.proofs.lemmas.ancestry.Shares.{mendelian-whole}

-- the entry of an animal with itself is 1 and its coefficient
pub entry-itself : {A : Type 0} (kin : Ancestry A) → IsLawful kin → (l : ℕ) (x : A) → Below kin (suc l) (Some x) →
    entry kin (2 * l) (Some x) (Some x) ≡ 2 ^ (2 * l) + coefficient kin l x
unfolding coefficient
entry-itself kin w zero x b =
    let sx : kin.sire x ≡ None = Below-zero kin (kin.sire x) (Below-sire kin w 0 x b) in
    rw (entry-start kin x x, (w.same x x).1 refl, sx, entry-none_left kin 0 (kin.dam x)) refl
entry-itself kin w (suc l) x b =
    let e : 2 * suc l ≡ suc (suc (2 * l)) = omega arith in
    let f : suc (suc (2 * l)) - 1 ≡ suc (2 * l) = omega arith in
    rw (e, f, entry-step kin (suc (2 * l)) x x, (w.same x x).1 refl) refl

-- a coefficient is below 1
pub coefficient-bound : {A : Type 0} (kin : Ancestry A) → IsLawful kin → (l : ℕ) (x : A) → Below kin (suc l) (Some x) → coefficient kin l x < 2 ^ (2 * l)
coefficient-bound kin w l x b =
    let e = entry-itself kin w l x b in
    let f = entry-bound kin (2 * l) (Some x) (Some x) in
    let double = two-pow-succ (2 * l) in
    omega (arith, e, f, double)

-- a Mendelian sampling variance is above 0 and at most 1
pub mendelian-positive : {A : Type 0} (kin : Ancestry A) → IsLawful kin → (l : ℕ) (j : A) → Below kin (suc l) (Some j) → 1 ≤ mendelian kin l j
mendelian-positive kin w l j b =
    let e = mendelian-whole kin w l j b in
    let s = entry-bound kin (2 * l) (kin.sire j) (kin.sire j) in
    let d = entry-bound kin (2 * l) (kin.dam j) (kin.dam j) in
    let double = two-pow-succ (2 * l) in
    omega (arith, e, s, d, double)

pub mendelian-at_most : {A : Type 0} (kin : Ancestry A) (l : ℕ) (j : A) → mendelian kin l j ≤ 2 ^ (2 * l)
unfolding mendelian
mendelian-at_most kin l j = omega arith

-- the whole and a parent's coefficient, quartered, are a quarter of its entry with itself, and nothing is left over
pub quarter-is : {A : Type 0} (kin : Ancestry A) → IsLawful kin → (l : ℕ) (p : A) → Below kin l (Some p) →
    (2 ^ (2 * l) + coefficient kin l p) / 4 ≡ entry kin (2 * l - 2) (Some p) (Some p)
quarter-is kin w zero p b =
    let none = Below-zero kin (Some p) b in absurd (cc)
quarter-is kin w (suc l) p b =
    let wide : Below kin (suc (suc l)) (Some p) = λ x i. ((b x i).0, λ m path. let s : m < suc l = (b x i).1 m path in omega arith) in
    let i = entry-itself kin w (suc l) p wide in
    let u1 = unit kin w (2 * l) (Some p) (Some p) (suc l) (suc l) b b (omega arith) in
    let u2 = unit kin w (suc (2 * l)) (Some p) (Some p) (suc l) (suc l) b b (omega arith) in
    let d : 2 * suc l ≡ suc (suc (2 * l)) = omega arith in
    let f : 2 * suc l - 2 ≡ 2 * l = omega arith in
    let whole : 2 ^ (2 * suc l) + coefficient kin (suc l) p ≡ 4 * entry kin (2 * l) (Some p) (Some p) =
    sym i ∙ (ap (λ n. entry kin n (Some p) (Some p)) d ∙ omega (arith, u1, u2)) in
    rw (whole, f) (omega arith)

-- the entry of an animal with itself, less the whole, is its coefficient
pub inbred-is : {A : Type 0} (kin : Ancestry A) → IsLawful kin → (l : ℕ) (x : A) → Below kin (suc l) (Some x) →
    entry kin (2 * l) (Some x) (Some x) - 2 ^ (2 * l) ≡ coefficient kin l x
inbred-is kin w l x b =
    let e = entry-itself kin w l x b in
    rw e (omega arith)

-- where a parent is unknown there is no inbreeding
pub coefficient-none : {A : Type 0} (kin : Ancestry A) (l : ℕ) (x : A) → (kin.sire x ≡ None) ⊎ (kin.dam x ≡ None) → coefficient kin l x ≡ 0
unfolding coefficient
coefficient-none kin l x none =
    ⊎_elim (λ (s : kin.sire x ≡ None). rw (s, entry-none_left kin (2 * l - 1) (kin.dam x)) refl)
    (λ (d : kin.dam x ≡ None). rw (d, entry-none_right kin (2 * l - 1) (kin.sire x)) refl) none
