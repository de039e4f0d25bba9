-- The clauses of the share, its unit, and the halved forms of shares, entries and Mendelian sampling variances.
use Rattle.std.proofs.Common.{ℕ, zero, suc, ◌+◌, ◌*◌, ◌-◌, ◌^◌, ◌≤◌, ◌≡◌, inl, inr, Bool, true, false, cond, Option, Some, None, IsTrue, arith, refl, sym, Contains, subst}
use Rattle.std.proofs.Math.Nat.{two-pow-succ}
use Rattle.std.proofs.lemmas.Bool.{false_from_ne_true}
use Rattle.herd_kinship.specs.Ancestry.{Ancestry}
use Rattle.herd_kinship.specs.Table.{entry, mendelian}
use Rattle.herd_kinship.specs.Shares.{share}
use Rattle.herd_kinship.proofs.lemmas.ancestry.LawfulAncestry.{IsLawful}
use Rattle.herd_kinship.proofs.lemmas.ancestry.Table.{entry-none_left, entry-none_right, entry-start, entry-step, entry-bound}
use Rattle.herd_kinship.proofs.lemmas.ancestry.Depth.{Below, Below-zero, Below-positive, Below-sire, Below-dam, unit}

pub share-none : {A : Type 0} (kin : Ancestry A) (k : ℕ) (j : A) → share kin k None j ≡ 0
unfolding share
share-none kin k j = refl

pub share-start : {A : Type 0} (kin : Ancestry A) (x j : A) → share kin 0 (Some x) j ≡ cond (kin.same x j) 1 0
unfolding share
share-start kin x j = refl

pub share-step : {A : Type 0} (kin : Ancestry A) (k : ℕ) (x j : A) →
    share kin (suc k) (Some x) j ≡ cond (kin.same x j) (2 ^ suc k) (share kin k (kin.sire x) j + share kin k (kin.dam x) j)
unfolding share
share-step kin k x j = refl

-- all of itself
pub share-itself : {A : Type 0} (kin : Ancestry A) → IsLawful kin → (k : ℕ) (x : A) → share kin k (Some x) x ≡ 2 ^ k
share-itself kin w zero x = rw (share-start kin x x, (w.same x x).1 refl) refl
share-itself kin w (suc k) x = rw (share-step kin k x x, (w.same x x).1 refl) refl

-- two different animals, one before the other
pub apart : {A : Type 0} (kin : Ancestry A) → IsLawful kin → (x y : A) → IsTrue (kin.before x y) → kin.same x y ≡ false
apart kin w x y b = false_from_ne_true (kin.same x y) (λ t.
    let e : x ≡ y = (w.same x y).0 t in
    let b' : IsTrue (kin.before y x) = subst (λ z. IsTrue (kin.before z x)) e (subst (λ z. IsTrue (kin.before x z)) (sym e) b) in
    w.one_way x y b b')

pub apart_back : {A : Type 0} (kin : Ancestry A) → IsLawful kin → (x y : A) → IsTrue (kin.before x y) → kin.same y x ≡ false
apart_back kin w x y b = false_from_ne_true (kin.same y x) (λ t.
    let e : x ≡ y = sym ((w.same y x).0 t) in
    let f : kin.same x y ≡ true = (w.same x y).1 e in
    cc (apart kin w x y b, f))

-- nothing of an animal that comes later
pub share-later : {A : Type 0} (kin : Ancestry A) → IsLawful kin → (k : ℕ) (o : Option A) (j : A) → ((x : A) → o ≡ Some x → Contains kin.animals x × IsTrue (kin.before x j)) → share kin k o j ≡ 0
share-later kin w k None j b = share-none kin k j
share-later kin w zero (Some x) j b = rw (share-start kin x j, apart kin w x j (b x refl).1) refl
share-later kin w (suc k) (Some x) j b =
    let s = share-later kin w k (kin.sire x) j (λ p e.
    let known = w.parents p x (b x refl).0 (inl e) in (known.0, w.chain p x j known.1 (b x refl).1)) in
    let d = share-later kin w k (kin.dam x) j (λ p e.
    let known = w.parents p x (b x refl).0 (inr e) in (known.0, w.chain p x j known.1 (b x refl).1)) in
    rw (share-step kin k x j, apart kin w x j (b x refl).1, s, d) refl

-- a parent has nothing of its offspring
pub share-sire_later : {A : Type 0} (kin : Ancestry A) → IsLawful kin → (k : ℕ) (x : A) → Contains kin.animals x → share kin k (kin.sire x) x ≡ 0
share-sire_later kin w k x c = share-later kin w k (kin.sire x) x (λ p e. w.parents p x c (inl e))

pub share-dam_later : {A : Type 0} (kin : Ancestry A) → IsLawful kin → (k : ℕ) (x : A) → Contains kin.animals x → share kin k (kin.dam x) x ≡ 0
share-dam_later kin w k x c = share-later kin w k (kin.dam x) x (λ p e. w.parents p x c (inr e))

share_doubled : (s : Bool) (p q u v : ℕ) → p ≡ 2 * q → u ≡ 2 * v → cond s p u ≡ 2 * cond s q v
share_doubled true p q u v e f = e
share_doubled false p q u v e f = f

-- one more halving of the unit doubles a share, once the unit is as small as the depth asks
share-unit : {A : Type 0} (kin : Ancestry A) → IsLawful kin → (k : ℕ) (o : Option A) (j : A) (n : ℕ) → Below kin n o → n ≤ suc k → share kin (suc k) o j ≡ 2 * share kin k o j
share-unit kin w k None j n b l = simp share-none
share-unit kin w k (Some x) j zero b l =
    let room = Below-positive kin 0 x b in absurd (omega arith)
share-unit kin w zero (Some x) j (suc n) b l =
    let n0 : n ≡ 0 = omega arith in
    let sx : kin.sire x ≡ None = Below-zero kin (kin.sire x) (subst (λ i. Below kin i (kin.sire x)) n0 (Below-sire kin w n x b)) in
    let dx : kin.dam x ≡ None = Below-zero kin (kin.dam x) (subst (λ i. Below kin i (kin.dam x)) n0 (Below-dam kin w n x b)) in
    rw (share-step kin 0 x j, share-start kin x j) (share_doubled (kin.same x j) _ _ _ _ refl
    (rw (sx, dx, share-none kin 0 j) refl))
share-unit kin w (suc k) (Some x) j (suc n) b l =
    let double = two-pow-succ (suc k) in
    let s = share-unit kin w k (kin.sire x) j n (Below-sire kin w n x b) (omega arith) in
    let d = share-unit kin w k (kin.dam x) j n (Below-dam kin w n x b) (omega arith) in
    rw (share-step kin (suc k) x j, share-step kin k x j) (share_doubled (kin.same x j) _ _ _ _
    (omega (arith, double)) (omega (arith, s, d)))

-- a share, doubled, is the sum of the parents' shares
pub share-halved : {A : Type 0} (kin : Ancestry A) → IsLawful kin → (l : ℕ) (x j : A) → Below kin (suc l) (Some x) → kin.same x j ≡ false → 2 * share kin l (Some x) j ≡ share kin l (kin.sire x) j + share kin l (kin.dam x) j
share-halved kin w zero x j b e =
    let sx : kin.sire x ≡ None = Below-zero kin (kin.sire x) (Below-sire kin w 0 x b) in
    let dx : kin.dam x ≡ None = Below-zero kin (kin.dam x) (Below-dam kin w 0 x b) in
    rw (share-start kin x j, e, sx, dx, share-none kin 0 j) refl
share-halved kin w (suc l) x j b e =
    let s = share-unit kin w l (kin.sire x) j (suc l) (Below-sire kin w (suc l) x b) (omega arith) in
    let d = share-unit kin w l (kin.dam x) j (suc l) (Below-dam kin w (suc l) x b) (omega arith) in
    rw (share-step kin l x j, e) (omega (arith, s, d))

-- an entry with itself, doubled
pub entry-halved_same : {A : Type 0} (kin : Ancestry A) → IsLawful kin → (l : ℕ) (x : A) → Below kin (suc l) (Some x) → 2 * entry kin (2 * l) (Some x) (Some x) ≡ 2 * 2 ^ (2 * l) + entry kin (2 * l) (kin.sire x) (kin.dam x)
entry-halved_same kin w zero x b =
    let sx : kin.sire x ≡ None = Below-zero kin (kin.sire x) (Below-sire kin w 0 x b) in
    rw (entry-start kin x x, (w.same x x).1 refl, sx, entry-none_left kin 0 (kin.dam x)) refl
entry-halved_same kin w (suc l) x b =
    let u = suc (2 * l) in
    let e : 2 * suc l ≡ suc u = omega arith in
    let s = unit kin w u (kin.sire x) (kin.dam x) (suc l) (suc l) (Below-sire kin w (suc l) x b) (Below-dam kin w (suc l) x b) (omega arith) in
    rw (e, entry-step kin u x x, (w.same x x).1 refl) (omega (arith, s))

-- an entry, doubled, is the sum of the older one's entries with the parents of the younger one
pub entry-halved : {A : Type 0} (kin : Ancestry A) → IsLawful kin → (l : ℕ) (x y : A) → Below kin (suc l) (Some x) → Below kin (suc l) (Some y) → IsTrue (kin.before x y) →
    2 * entry kin (2 * l) (Some x) (Some y) ≡ entry kin (2 * l) (Some x) (kin.sire y) + entry kin (2 * l) (Some x) (kin.dam y)
entry-halved kin w zero x y bx by' t =
    let sy : kin.sire y ≡ None = Below-zero kin (kin.sire y) (Below-sire kin w 0 y by') in
    let dy : kin.dam y ≡ None = Below-zero kin (kin.dam y) (Below-dam kin w 0 y by') in
    rw (entry-start kin x y, apart kin w x y t, sy, dy, entry-none_right kin 0 (Some x)) refl
entry-halved kin w (suc l) x y bx by' t =
    let u = suc (2 * l) in
    let e : 2 * suc l ≡ suc u = omega arith in
    let s = unit kin w u (Some x) (kin.sire y) (suc (suc l)) (suc l) bx (Below-sire kin w (suc l) y by') (omega arith) in
    let d = unit kin w u (Some x) (kin.dam y) (suc (suc l)) (suc l) bx (Below-dam kin w (suc l) y by') (omega arith) in
    rw (e, entry-step kin u x y, apart kin w x y t, t) (omega (arith, s, d))

-- four times a Mendelian sampling variance
pub mendelian-whole : {A : Type 0} (kin : Ancestry A) → IsLawful kin → (l : ℕ) (j : A) → Below kin (suc l) (Some j) →
    4 * mendelian kin l j + entry kin (2 * l) (kin.sire j) (kin.sire j) + entry kin (2 * l) (kin.dam j) (kin.dam j) ≡ 4 * 2 ^ (2 * l)
unfolding mendelian
mendelian-whole kin w zero j b =
    let sj : kin.sire j ≡ None = Below-zero kin (kin.sire j) (Below-sire kin w 0 j b) in
    let dj : kin.dam j ≡ None = Below-zero kin (kin.dam j) (Below-dam kin w 0 j b) in
    rw (sj, dj, entry-none_left kin 0 None) refl
mendelian-whole kin w (suc l) j b =
    let u = 2 * l in
    let e : 2 * suc l ≡ suc (suc u) = omega arith in
    let f : suc (suc u) - 2 ≡ u = omega arith in
    let bs = Below-sire kin w (suc l) j b in
    let bd = Below-dam kin w (suc l) j b in
    let s1 = unit kin w u (kin.sire j) (kin.sire j) (suc l) (suc l) bs bs (omega arith) in
    let s2 = unit kin w (suc u) (kin.sire j) (kin.sire j) (suc l) (suc l) bs bs (omega arith) in
    let d1 = unit kin w u (kin.dam j) (kin.dam j) (suc l) (suc l) bd bd (omega arith) in
    let d2 = unit kin w (suc u) (kin.dam j) (kin.dam j) (suc l) (suc l) bd bd (omega arith) in
    let sb = entry-bound kin u (kin.sire j) (kin.sire j) in
    let db = entry-bound kin u (kin.dam j) (kin.dam j) in
    let double = two-pow-succ (suc u) in
    rw (e, f) (omega (arith, s1, s2, d1, d2, sb, db, double))
