-- Shares and Mendelian sampling variances are whole in units of their own, which depths give.
use Rattle.std.proofs.Common.{ℕ, zero, suc, ◌+◌, ◌*◌, ◌-◌, ◌/◌, ◌^◌, ◌<◌, ◌≤◌, ◌≡◌, inl, inr, Bool, true, false, cond, Option, Some, None, arith, refl, sym, ◌∙◌, ap, subst}
use Rattle.std.proofs.Math.Nat.{two-pow-succ, pow-succ', mul-div_cancel_left}
use Rattle.std.proofs.Math.Pow.{pow_pos}
use Rattle.std.proofs.lemmas.Nat.{pow-add}
use Rattle.std.proofs.lemmas.Bool.{false_from_ne_true}
use Rattle.herd_kinship.specs.Ancestry.{Ancestry, IsParentIn}
use Rattle.herd_kinship.specs.Table.{entry, mendelian}
use Rattle.herd_kinship.specs.Shares.{share}
use Rattle.herd_kinship.proofs.lemmas.ancestry.LawfulAncestry.{Path, IsLawful}
use Rattle.herd_kinship.proofs.lemmas.ancestry.Depth.{Below, Below-positive, Below-sire, Below-dam, unit}
use Rattle.herd_kinship.proofs.lemmas.ancestry.Shares.{share-none, share-start, share-step, mendelian-whole}

-- a parent of x is not j, where x has no room for one step more than a path from j
not_parent : {A : Type 0} (kin : Ancestry A) → IsLawful kin → (n m : ℕ) (x j : A) (o : Option A) → Below kin n (Some x) → Path kin m j → n ≤ suc m →
    ((p : A) → o ≡ Some p → IsParentIn kin p x) → share kin 0 o j ≡ 0
unfolding Path
not_parent kin w n m x j None b path le is = share-none kin 0 j
not_parent {A} kin w n m x j (Some p) b path le is =
    let apart : kin.same p j ≡ false = false_from_ne_true (kin.same p j) (λ s.
    let e : p ≡ j = (w.same p j).0 s in
    let parent : IsParentIn kin p x = is p refl in
    let path' : Path kin m p = subst (λ v. Path kin m v) (sym e) path in
    let longer : suc m < n = (b x refl).1 (suc m) ((b x refl).0, (p, parent, path')) in
    omega arith) in
    rw (share-start kin p j, apart) refl

doubled_or : (s : Bool) (p q u v : ℕ) → p ≡ 2 * q → (s ≡ false → u ≡ 2 * v) → cond s p u ≡ 2 * cond s q v
doubled_or true p q u v e f = e
doubled_or false p q u v e f = f refl

-- the unit of a share need only be as small as the two depths' difference asks
share-unit_between : {A : Type 0} (kin : Ancestry A) → IsLawful kin → (k : ℕ) (o : Option A) (j : A) (n m : ℕ) → Below kin n o → Path kin m j → n ≤ suc k + m →
    share kin (suc k) o j ≡ 2 * share kin k o j
share-unit_between kin w k None j n m b path le = simp share-none
share-unit_between kin w k (Some x) j zero m b path le =
    let room = Below-positive kin 0 x b in absurd (omega arith)
share-unit_between kin w zero (Some x) j (suc n) m b path le =
    rw (share-step kin 0 x j, share-start kin x j) (doubled_or (kin.same x j) _ _ _ _ refl (λ s.
    rw (
      not_parent kin w (suc n) m x j (kin.sire x) b path (omega arith) (λ p e. inl e),
      not_parent kin w (suc n) m x j (kin.dam x) b path (omega arith) (λ p e. inr e),
    ) refl))
share-unit_between kin w (suc k) (Some x) j (suc n) m b path le =
    let double = two-pow-succ (suc k) in
    let s = share-unit_between kin w k (kin.sire x) j n m (Below-sire kin w n x b) path (omega arith) in
    let d = share-unit_between kin w k (kin.dam x) j n m (Below-dam kin w n x b) path (omega arith) in
    rw (share-step kin (suc k) x j, share-step kin k x j) (doubled_or (kin.same x j) _ _ _ _
    (omega (arith, double)) (λ _. omega (arith, s, d)))

-- a share in a finer unit
pub share-finer : {A : Type 0} (kin : Ancestry A) → IsLawful kin → (d k : ℕ) (o : Option A) (j : A) (n m : ℕ) → Below kin n o → Path kin m j → n ≤ suc k + m →
    share kin (d + k) o j ≡ 2 ^ d * share kin k o j
share-finer kin w zero k o j n m b path le =
    let e : zero + k ≡ k = omega arith in rw e (omega arith)
share-finer kin w (suc d) k o j n m b path le =
    let e : suc d + k ≡ suc (d + k) = omega arith in
    let rest = share-finer kin w d k o j n m b path le in
    let step = share-unit_between kin w (d + k) o j n m b path (omega arith) in
    rw (e, step, rest, pow-succ' 2 d) (omega arith)

-- the share of an animal with a known parent is even, so that it can be halved
pub share-even : {A : Type 0} (kin : Ancestry A) → IsLawful kin → (l : ℕ) (o : Option A) (j p : A) → Below kin (suc l) o → Below kin (suc l) (Some j) → IsParentIn kin p j →
    2 * (share kin l o j / 2) ≡ share kin l o j
unfolding Path
share-even {A} kin w zero o j p b bj is =
    let known = (w.parents p j (bj j refl).0 is).0 in
    let path : Path kin 1 j = ((bj j refl).0, (p, is, known)) in
    let short : 1 < 1 = (bj j refl).1 1 path in
    absurd (omega arith)
share-even {A} kin w (suc l) o j p b bj is =
    let known = (w.parents p j (bj j refl).0 is).0 in
    let path : Path kin 1 j = ((bj j refl).0, (p, is, known)) in
    let e = share-unit_between kin w l o j (suc (suc l)) 1 b path (omega arith) in
    rw e (omega arith)

-- an entry in a finer unit
entry-finer : {A : Type 0} (kin : Ancestry A) → IsLawful kin → (d k : ℕ) (x y : Option A) (m n : ℕ) → Below kin m x → Below kin n y → m + n ≤ suc (suc k) →
    entry kin (d + k) x y ≡ 2 ^ d * entry kin k x y
entry-finer kin w zero k x y m n bx by' le =
    let e : zero + k ≡ k = omega arith in rw e (omega arith)
entry-finer kin w (suc d) k x y m n bx by' le =
    let e : suc d + k ≡ suc (d + k) = omega arith in
    let rest = entry-finer kin w d k x y m n bx by' le in
    let step = unit kin w (d + k) x y m n bx by' (omega arith) in
    rw (e, step, rest, pow-succ' 2 d) (omega arith)

multiplied : (c M N Q R p q : ℕ) → 4 * M + c * Q + c * R ≡ 4 * p → 4 * N + Q + R ≡ 4 * q → p ≡ c * q → M ≡ c * N
multiplied c M N Q R p q e f g =
    let f' : c * (4 * N + Q + R) ≡ c * (4 * q) = ap (λ n. c * n) f in
    omega arith

-- a Mendelian sampling variance in the unit that its own depth asks for
mendelian-finer : {A : Type 0} (kin : Ancestry A) → IsLawful kin → (l g : ℕ) (j : A) → g ≤ l → Below kin (suc g) (Some j) →
    mendelian kin l j ≡ 2 ^ (2 * (l - g)) * mendelian kin g j
mendelian-finer kin w l g j le b =
    let wide : Below kin (suc l) (Some j) = λ x e. ((b x e).0, λ m path. let s : m < suc g = (b x e).1 m path in omega arith) in
    let d : ℕ = 2 * (l - g) in
    let sum : 2 * l ≡ d + 2 * g = omega arith in
    let bs = Below-sire kin w g j b in
    let bd = Below-dam kin w g j b in
    let s : entry kin (2 * l) (kin.sire j) (kin.sire j) ≡ 2 ^ d * entry kin (2 * g) (kin.sire j) (kin.sire j) =
    ap (λ n. entry kin n (kin.sire j) (kin.sire j)) sum ∙ entry-finer kin w d (2 * g) (kin.sire j) (kin.sire j) g g bs bs (omega arith) in
    let t : entry kin (2 * l) (kin.dam j) (kin.dam j) ≡ 2 ^ d * entry kin (2 * g) (kin.dam j) (kin.dam j) =
    ap (λ n. entry kin n (kin.dam j) (kin.dam j)) sum ∙ entry-finer kin w d (2 * g) (kin.dam j) (kin.dam j) g g bd bd (omega arith) in
    multiplied (2 ^ d) (mendelian kin l j) (mendelian kin g j) _ _ (2 ^ (2 * l)) (2 ^ (2 * g))
    (rw (← s, ← t) (mendelian-whole kin w l j wide))
    (mendelian-whole kin w g j b)
    (ap (λ n. 2 ^ n) sum ∙ pow-add 2 d (2 * g))

-- so it is a multiple of each power up to twice what its depth leaves
mendelian-divides : {A : Type 0} (kin : Ancestry A) → IsLawful kin → (l g e : ℕ) (j : A) → g ≤ l → Below kin (suc g) (Some j) → e ≤ 2 * (l - g) →
    2 ^ e * (mendelian kin l j / 2 ^ e) ≡ mendelian kin l j
mendelian-divides kin w l g e j le b small =
    let r : ℕ = 2 * (l - g) - e in
    let sum : 2 * (l - g) ≡ e + r = omega arith in
    let split : mendelian kin l j ≡ 2 ^ e * (2 ^ r * mendelian kin g j) =
    mendelian-finer kin w l g j le b ∙ (ap (λ n. 2 ^ n * mendelian kin g j) sum
    ∙ (ap (λ n. n * mendelian kin g j) (pow-add 2 e r) ∙ omega arith)) in
    let quotient : mendelian kin l j / 2 ^ e ≡ 2 ^ r * mendelian kin g j =
    ap (λ n. n / 2 ^ e) split ∙ mul-div_cancel_left (2 ^ r * mendelian kin g j) (pow_pos e) in
    ap (λ n. 2 ^ e * n) quotient ∙ sym split

-- THE EXACT TERM: of two animals of depths gx and gy and a shared ancestor j of depth g, each in the unit that depths ask for
pub term-exact : {A : Type 0} (kin : Ancestry A) → IsLawful kin → (l gx gy g : ℕ) (x y j : A) → gx ≤ l → gy ≤ l → g ≤ gx → g ≤ gy →
    Below kin (suc gx) (Some x) → Below kin (suc gy) (Some y) → Below kin (suc g) (Some j) → Path kin g j →
    share kin l (Some x) j * share kin l (Some y) j * mendelian kin l j
    ≡ 2 ^ (2 * l) * (share kin (gx - g) (Some x) j * share kin (gy - g) (Some y) j * (mendelian kin l j / 2 ^ (gx + gy - 2 * g)))
term-exact kin w l gx gy g x y j lx ly le le' bx by' bj path =
    let e : ℕ = gx - g in
    let f : ℕ = gy - g in
    let ef : gx + gy - 2 * g ≡ e + f = omega arith in
    let t : ℕ = share kin e (Some x) j in
    let u : ℕ = share kin f (Some y) j in
    let q : ℕ = mendelian kin l j / 2 ^ (e + f) in
    let sx : share kin l (Some x) j ≡ 2 ^ (l - e) * t =
    ap (λ n. share kin n (Some x) j) (let s : l ≡ (l - e) + e = omega arith in s)
    ∙ share-finer kin w (l - e) e (Some x) j (suc gx) g bx path (omega arith) in
    let sy : share kin l (Some y) j ≡ 2 ^ (l - f) * u =
    ap (λ n. share kin n (Some y) j) (let s : l ≡ (l - f) + f = omega arith in s)
    ∙ share-finer kin w (l - f) f (Some y) j (suc gy) g by' path (omega arith) in
    let m : 2 ^ (e + f) * q ≡ mendelian kin l j = mendelian-divides kin w l g (e + f) j (omega arith) bj (omega arith) in
    let powers : 2 ^ (2 * l) ≡ 2 ^ (l - e) * 2 ^ (l - f) * 2 ^ (e + f) =
    ap (λ n. 2 ^ n) (let s : 2 * l ≡ (l - e) + (l - f) + (e + f) = omega arith in s)
    ∙ (pow-add 2 ((l - e) + (l - f)) (e + f) ∙ ap (λ n. n * 2 ^ (e + f)) (pow-add 2 (l - e) (l - f))) in
    let left : share kin l (Some x) j * share kin l (Some y) j * mendelian kin l j ≡ 2 ^ (l - e) * t * (2 ^ (l - f) * u) * (2 ^ (e + f) * q) =
    rw (sx, sy, m) refl in
    rw (ef, left, powers) (omega arith)
