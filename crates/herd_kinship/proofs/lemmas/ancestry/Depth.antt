-- Depths of known parents, the clauses of the entry in a lawful ancestry, and the law of the unit.
use Rattle.std.proofs.Common.{ℕ, zero, suc, ◌+◌, ◌*◌, ◌-◌, ◌<◌, ◌≤◌, ◌≡◌, inl, inr, ⊎_elim, Bool, true, false, cond, Option, Some, None, arith, refl, sym, Contains, subst}
use Rattle.std.proofs.Math.Nat.{two-pow-succ}
use Rattle.std.proofs.lemmas.Bool.{cases_lt}
use Rattle.herd_kinship.specs.Ancestry.{Ancestry, IsParentIn}
use Rattle.herd_kinship.specs.Table.{entry}
use Rattle.herd_kinship.proofs.lemmas.ancestry.LawfulAncestry.{Path, IsDepth, IsShallow, IsLawful}
use Rattle.herd_kinship.proofs.lemmas.ancestry.Table.{entry-none_left, entry-none_right, entry-start, entry-step}

-- an animal of the ancestry or none, and each path from it has fewer than n steps
abbrev pub Below : {A : Type 0} → Ancestry A → ℕ → Option A → Type 0
Below {A} kin n o = (x : A) → o ≡ Some x → Contains kin.animals x × ((m : ℕ) → Path kin m x → m < n)

pub Below-member : {A : Type 0} (kin : Ancestry A) (n : ℕ) (x : A) → Below kin n (Some x) → Contains kin.animals x
Below-member kin n x b = (b x refl).0

-- with no room for a path there is no animal
pub Below-zero : {A : Type 0} (kin : Ancestry A) (o : Option A) → Below kin 0 o → o ≡ None
unfolding Path
Below-zero kin None b = refl
Below-zero kin (Some x) b =
    let start : 0 < 0 = (b x refl).1 0 (b x refl).0 in
    absurd (omega arith)

pub Below-positive : {A : Type 0} (kin : Ancestry A) (n : ℕ) (x : A) → Below kin n (Some x) → 0 < n
unfolding Path
Below-positive kin n x b = (b x refl).1 0 (b x refl).0

Below-parent : {A : Type 0} (kin : Ancestry A) → IsLawful kin → (n : ℕ) (x : A) (o : Option A) → Below kin (suc n) (Some x) → ((p : A) → o ≡ Some p → IsParentIn kin p x) → Below kin n o
unfolding Path
Below-parent kin w n x o b is p e =
    let member = (w.parents p x (b x refl).0 (is p e)).0 in (
      member,
      λ m path.
          let longer : suc m < suc n = (b x refl).1 (suc m) ((b x refl).0, (p, is p e, path)) in
          omega arith,
    )

pub Below-sire : {A : Type 0} (kin : Ancestry A) → IsLawful kin → (n : ℕ) (x : A) → Below kin (suc n) (Some x) → Below kin n (kin.sire x)
Below-sire kin w n x b = Below-parent kin w n x (kin.sire x) b (λ p e. inl e)

pub Below-dam : {A : Type 0} (kin : Ancestry A) → IsLawful kin → (n : ℕ) (x : A) → Below kin (suc n) (Some x) → Below kin n (kin.dam x)
Below-dam kin w n x b = Below-parent kin w n x (kin.dam x) b (λ p e. inr e)

-- a path without its last step
path-shorter : {A : Type 0} (kin : Ancestry A) → IsLawful kin → (m : ℕ) (x : A) → Path kin (suc m) x → Path kin m x
unfolding Path
path-shorter kin w zero x path = path.0
path-shorter kin w (suc m) x path = (path.0, (path.1.0, path.1.1, path-shorter kin w m path.1.0 path.1.2))

paths-shorter : {A : Type 0} (kin : Ancestry A) → IsLawful kin → (d n : ℕ) (x : A) → Path kin (d + n) x → Path kin n x
paths-shorter kin w zero n x path = subst (λ i. Path kin i x) (omega arith) path
paths-shorter kin w (suc d) n x path =
    paths-shorter kin w d n x (path-shorter kin w (d + n) x (subst (λ i. Path kin i x) (omega arith) path))

-- an animal of the ancestry, or none
abbrev pub IsKnown : {A : Type 0} → Ancestry A → Option A → Type 0
IsKnown {A} kin o = (x : A) → o ≡ Some x → Contains kin.animals x

pub known_some : {A : Type 0} (kin : Ancestry A) (x : A) → Contains kin.animals x → IsKnown kin (Some x)
known_some {A} kin x c z e = let same : x ≡ z = cc in subst (λ v. Contains kin.animals v) same c

pub known-sire : {A : Type 0} (kin : Ancestry A) → IsLawful kin → (i : A) → Contains kin.animals i → IsKnown kin (kin.sire i)
known-sire kin w i c p e = (w.parents p i c (inl e)).0

pub known-dam : {A : Type 0} (kin : Ancestry A) → IsLawful kin → (i : A) → Contains kin.animals i → IsKnown kin (kin.dam i)
known-dam kin w i c p e = (w.parents p i c (inr e)).0

-- in an ancestry with no path longer than l
pub Below-shallow : {A : Type 0} (kin : Ancestry A) → IsLawful kin → (l : ℕ) → IsShallow kin l → (o : Option A) → IsKnown kin o → Below kin (suc l) o
Below-shallow kin w l f o known x e = (
  known x e,
  λ m path.
      ⊎_elim (λ t. t)
      (λ t. absurd (f x (paths-shorter kin w (m - suc l) (l + 1) x (subst (λ i. Path kin i x) (omega arith) path))))
      (cases_lt m (suc l)),
)

-- of an animal whose longest path has n steps
pub Below-depth : {A : Type 0} (kin : Ancestry A) (n : ℕ) (x : A) → Contains kin.animals x → IsDepth kin x n → Below kin (suc n) (Some x)
Below-depth {A} kin n x known d z e =
    let same : x ≡ z = cc in
    let P : A → Type 0 = λ v. Contains kin.animals v × ((m : ℕ) → Path kin m v → m < suc n) in
    subst P same (known, λ m path. let s : m ≤ n = d.1 m path in omega arith)

-- a choice among doubles
doubled : (s b : Bool) (u v w u' v' w' : ℕ) → (s ≡ true → u ≡ 2 * u') → v ≡ 2 * v' → w ≡ 2 * w' → cond s u (cond b v w) ≡ 2 * cond s u' (cond b v' w')
doubled true b u v w u' v' w' hu hv hw = hu refl
doubled false true u v w u' v' w' hu hv hw = hv
doubled false false u v w u' v' w' hu hv hw = hw

first_step : (s b : Bool) (u v w : ℕ) → u ≡ 2 → v ≡ 0 → w ≡ 0 → cond s u (cond b v w) ≡ 2 * cond s 1 0
first_step true b u v w hu hv hw = hu
first_step false true u v w hu hv hw = hv
first_step false false u v w hu hv hw = hw

-- One more halving of the unit doubles the entry, once the unit is as small as the two depths ask. By induction on the
-- unit: each step goes from an animal to its parents, which have less depth, and in unit 1 there are none left.
pub unit : {A : Type 0} (kin : Ancestry A) → IsLawful kin → (k : ℕ) (x y : Option A) (m n : ℕ) → Below kin m x → Below kin n y → m + n ≤ suc (suc k) → entry kin (suc k) x y ≡ 2 * entry kin k x y
unit kin w k None y m n bx by' l = simp entry-none_left
unit kin w k (Some x) None m n bx by' l = simp entry-none_right
unit kin w k (Some x) (Some y) zero n bx by' l =
    let room = Below-positive kin 0 x bx in absurd (omega arith)
unit kin w k (Some x) (Some y) (suc m) zero bx by' l =
    let room = Below-positive kin 0 y by' in absurd (omega arith)
unit kin w zero (Some x) (Some y) (suc m) (suc n) bx by' l =
    let m0 : m ≡ 0 = omega arith in
    let n0 : n ≡ 0 = omega arith in
    let sx : kin.sire x ≡ None = Below-zero kin (kin.sire x) (subst (λ i. Below kin i (kin.sire x)) m0 (Below-sire kin w m x bx)) in
    let dx : kin.dam x ≡ None = Below-zero kin (kin.dam x) (subst (λ i. Below kin i (kin.dam x)) m0 (Below-dam kin w m x bx)) in
    let sy : kin.sire y ≡ None = Below-zero kin (kin.sire y) (subst (λ i. Below kin i (kin.sire y)) n0 (Below-sire kin w n y by')) in
    let dy : kin.dam y ≡ None = Below-zero kin (kin.dam y) (subst (λ i. Below kin i (kin.dam y)) n0 (Below-dam kin w n y by')) in
    rw (entry-step kin 0 x y, entry-start kin x y) (first_step (kin.same x y) (kin.before x y) _ _ _
    (rw (sx, entry-none_left kin 0 (kin.dam x)) refl)
    (rw (sy, dy, entry-none_right kin 0 (Some x)) refl)
    (rw (sx, dx, entry-none_right kin 0 (Some y)) refl))
unit kin w (suc k) (Some x) (Some y) (suc m) (suc n) bx by' l =
    let double = two-pow-succ (suc k) in
    let xs = unit kin w k (Some x) (kin.sire y) (suc m) n bx (Below-sire kin w n y by') (omega arith) in
    let xd = unit kin w k (Some x) (kin.dam y) (suc m) n bx (Below-dam kin w n y by') (omega arith) in
    let ys = unit kin w k (Some y) (kin.sire x) (suc n) m by' (Below-sire kin w m x bx) (omega arith) in
    let yd = unit kin w k (Some y) (kin.dam x) (suc n) m by' (Below-dam kin w m x bx) (omega arith) in
    rw (entry-step kin (suc k) x y, entry-step kin k x y) (doubled (kin.same x y) (kin.before x y) _ _ _ _ _ _
    (λ t.
    let e : x ≡ y = (w.same x y).0 t in
    let bx' : Below kin (suc n) (Some x) = subst (λ z. Below kin (suc n) (Some z)) (sym e) by' in
    let sd = unit kin w k (kin.sire x) (kin.dam x) m n (Below-sire kin w m x bx) (Below-dam kin w n x bx') (omega arith) in
    omega (arith, double, sd))
    (omega (arith, xs, xd)) (omega (arith, ys, yd)))
