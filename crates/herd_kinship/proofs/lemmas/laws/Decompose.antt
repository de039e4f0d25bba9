-- The entry is symmetric, and is the sum of the shared ancestors' Mendelian sampling variances.
use Rattle.std.proofs.Common.{ℕ, zero, suc, ◌+◌, ◌*◌, ◌^◌, ◌<◌, ◌≤◌, ◌≡◌, ⊎_elim, false, cond, Option, Some, None, IsTrue, arith, refl, sym, Contains, ◌∙◌, ap, subst}
use Rattle.std.proofs.lemmas.Nat.{pow-add}
use Rattle.std.proofs.lemmas.Bool.{false_from_ne_true, cases_Bool, cases_lt}
use Rattle.herd_kinship.specs.Laws.{IsDecomposed}
use Rattle.herd_kinship.specs.Ancestry.{Ancestry}
use Rattle.herd_kinship.specs.Table.{entry, mendelian}
use Rattle.herd_kinship.specs.Shares.{share, shared}
use Rattle.herd_kinship.proofs.lemmas.ancestry.LawfulAncestry.{IsShallow, IsLawful}
use Rattle.herd_kinship.proofs.lemmas.numbers.Sums.{sum_by-agree, sum_by-add, sum_by-scale, sum_by-one, sum_by-none}
use Rattle.herd_kinship.proofs.lemmas.ancestry.Table.{entry-none_left, entry-none_right, entry-start, entry-step}
use Rattle.herd_kinship.proofs.lemmas.ancestry.Depth.{Below, IsKnown, Below-shallow, Below-member, Below-positive, Below-sire, Below-dam}
use Rattle.herd_kinship.proofs.lemmas.ancestry.Shares.{share-none, share-itself, share-later, share-sire_later, share-dam_later, share-halved, apart, apart_back, entry-halved_same, entry-halved, mendelian-whole}

entry-swap_before : {A : Type 0} (kin : Ancestry A) → IsLawful kin → (k : ℕ) (x y : A) → IsTrue (kin.before x y) → entry kin k (Some x) (Some y) ≡ entry kin k (Some y) (Some x)
entry-swap_before kin w zero x y t =
    rw (entry-start kin x y, entry-start kin y x, apart kin w x y t, apart_back kin w x y t) refl
entry-swap_before kin w (suc k) x y t =
    let later : kin.before y x ≡ false = false_from_ne_true (kin.before y x) (w.one_way x y t) in
    rw (entry-step kin k x y, entry-step kin k y x, apart kin w x y t, apart_back kin w x y t, t, later) refl

pub entry-swap : {A : Type 0} (kin : Ancestry A) → IsLawful kin → (k : ℕ) (x y : Option A) → IsKnown kin x → IsKnown kin y → entry kin k x y ≡ entry kin k y x
entry-swap kin w k None y kx ky = rw (entry-none_left kin k y, entry-none_right kin k y) refl
entry-swap kin w k (Some x) None kx ky = rw (entry-none_left kin k (Some x), entry-none_right kin k (Some x)) refl
entry-swap kin w k (Some x) (Some y) kx ky =
    ⊎_elim (λ e. rw e refl)
    (⊎_elim (λ t. entry-swap_before kin w k x y t) (λ t. sym (entry-swap_before kin w k y x t)))
    (w.total x y (kx x refl) (ky y refl))

shared-none_left : {A : Type 0} (kin : Ancestry A) (l : ℕ) (y : Option A) → shared kin l None y ≡ 0
unfolding shared
shared-none_left kin l y =
    sum_by-none (λ j. share kin l None j * share kin l y j * mendelian kin l j) kin.animals
    (λ j. rw (share-none kin l j) (omega arith))

shared-swap : {A : Type 0} (kin : Ancestry A) (l : ℕ) (x y : Option A) → shared kin l x y ≡ shared kin l y x
unfolding shared
shared-swap kin l x y =
    sum_by-agree (λ j. share kin l x j * share kin l y j * mendelian kin l j) (λ j. share kin l y j * share kin l x j * mendelian kin l j) kin.animals
    (λ j _. omega arith)

-- 2 t u m where 2 u is a + b
pub term_halved : (t u a b m : ℕ) → 2 * u ≡ a + b → 2 * (t * u * m) ≡ t * a * m + t * b * m
term_halved t u a b m e =
    let left : 2 * (t * u * m) ≡ t * (2 * u) * m = omega arith in
    rw (left, e) (omega arith)

-- 4 t t m where 2 t is a + b
term_quartered : (t a b m : ℕ) → 2 * t ≡ a + b → 4 * (t * t * m) ≡ a * a * m + (2 * (a * b * m) + b * b * m)
term_quartered t a b m e =
    let left : 4 * (t * t * m) ≡ (2 * t) * (2 * t) * m = omega arith in
    rw (left, e) (omega arith)

-- what an older x shares with y, doubled, is what it shares with y's parents: x has nothing of y itself
shared-halved : {A : Type 0} (kin : Ancestry A) → IsLawful kin → (l : ℕ) (x y : A) → Below kin (suc l) (Some x) → Below kin (suc l) (Some y) → IsTrue (kin.before x y) →
    2 * shared kin l (Some x) (Some y) ≡ shared kin l (Some x) (kin.sire y) + shared kin l (Some x) (kin.dam y)
unfolding shared
shared-halved {A} kin w l x y bx by' t =
    let m : A → ℕ = mendelian kin l in
    let tx : A → ℕ = share kin l (Some x) in
    let ty : A → ℕ = share kin l (Some y) in
    let ts : A → ℕ = share kin l (kin.sire y) in
    let td : A → ℕ = share kin l (kin.dam y) in
    let scale = sum_by-scale 2 (λ j. tx j * ty j * m j) kin.animals in
    let add = sum_by-add (λ j. tx j * ts j * m j) (λ j. tx j * td j * m j) kin.animals in
    let terms = sum_by-agree (λ j. 2 * (tx j * ty j * m j)) (λ j. tx j * ts j * m j + tx j * td j * m j) kin.animals (λ j c.
    ⊎_elim
    (λ s.
    let e : y ≡ j = (w.same y j).0 s in
    let none : tx j ≡ 0 = share-later kin w l (Some x) j (λ z i.
    let xz : x ≡ z = cc in
    (subst (λ v. Contains kin.animals v) xz (Below-member kin (suc l) x bx), subst (λ v. IsTrue (kin.before v j)) xz (subst (λ v. IsTrue (kin.before x v)) e t))) in
    rw none (omega arith))
    (λ s. term_halved (tx j) (ty j) (ts j) (td j) (m j) (share-halved kin w l y j by' s))
    (cases_Bool (kin.same y j))) in
    sym scale ∙ (terms ∙ add)

-- what x shares with itself, four times, is its own part and what its parents share, as in (s + d)^2
shared-quartered : {A : Type 0} (kin : Ancestry A) → IsLawful kin → (l : ℕ) (x : A) → Below kin (suc l) (Some x) →
    4 * shared kin l (Some x) (Some x) ≡ 4 * (2 ^ (2 * l) * mendelian kin l x)
    + (shared kin l (kin.sire x) (kin.sire x) + (2 * shared kin l (kin.sire x) (kin.dam x) + shared kin l (kin.dam x) (kin.dam x)))
unfolding shared
shared-quartered {A} kin w l x b =
    let m : A → ℕ = mendelian kin l in
    let t : A → ℕ = share kin l (Some x) in
    let s : A → ℕ = share kin l (kin.sire x) in
    let d : A → ℕ = share kin l (kin.dam x) in
    let own : ℕ = 4 * (2 ^ (2 * l) * m x) in
    let scale = sum_by-scale 4 (λ j. t j * t j * m j) kin.animals in
    let twice = sum_by-scale 2 (λ j. s j * d j * m j) kin.animals in
    let add3 = sum_by-add (λ j. 2 * (s j * d j * m j)) (λ j. d j * d j * m j) kin.animals in
    let add2 = sum_by-add (λ j. s j * s j * m j) (λ j. 2 * (s j * d j * m j) + d j * d j * m j) kin.animals in
    let add1 = sum_by-add (λ j. cond (kin.same x j) own 0) (λ j. s j * s j * m j + (2 * (s j * d j * m j) + d j * d j * m j)) kin.animals in
    let one = sum_by-one (kin.same x) own kin.animals (w.once x (Below-member kin (suc l) x b)) in
    let terms = sum_by-agree (λ j. 4 * (t j * t j * m j)) (λ j. cond (kin.same x j) own 0 + (s j * s j * m j + (2 * (s j * d j * m j) + d j * d j * m j))) kin.animals (λ j c.
    ⊎_elim
    (λ e.
    let xj : x ≡ j = (w.same x j).0 e in
    let mine : t j ≡ 2 ^ l = subst (λ v. t v ≡ 2 ^ l) xj (share-itself kin w l x) in
    let noneS : s j ≡ 0 = subst (λ v. s v ≡ 0) xj (share-sire_later kin w l x (Below-member kin (suc l) x b)) in
    let noneD : d j ≡ 0 = subst (λ v. d v ≡ 0) xj (share-dam_later kin w l x (Below-member kin (suc l) x b)) in
    let mm : m x ≡ m j = ap m xj in
    let square : 2 ^ l * 2 ^ l ≡ 2 ^ (2 * l) = sym (pow-add 2 l l) ∙ ap (λ i. 2 ^ i) (omega arith) in
    rw (e, mine, noneS, noneD, mm, ← square) (omega arith))
    (λ e. rw e (omega (arith, term_quartered (t j) (s j) (d j) (m j) (share-halved kin w l x j b e))))
    (cases_Bool (kin.same x j))) in
    omega (arith, scale, twice, add1, add2, add3, one, terms)

same_sums : (c D E M P Q R : ℕ) → 4 * D ≡ 4 * (c * M) + (c * Q + (2 * (c * P) + c * R)) → 2 * E ≡ 2 * c + P → 4 * M + Q + R ≡ 4 * c → D ≡ c * E
same_sums c D E M P Q R e f g =
    let f' : c * (2 * E) ≡ c * (2 * c + P) = ap (λ n. c * n) f in
    let g' : c * (4 * M + Q + R) ≡ c * (4 * c) = ap (λ n. c * n) g in
    omega arith

other_sums : (c D E P Q : ℕ) → 2 * D ≡ c * P + c * Q → 2 * E ≡ P + Q → D ≡ c * E
other_sums c D E P Q e f =
    let f' : c * (2 * E) ≡ c * (P + Q) = ap (λ n. c * n) f in
    omega arith

decomposed_same : {A : Type 0} (kin : Ancestry A) → IsLawful kin → (l : ℕ) (x : A) → Below kin (suc l) (Some x) →
    IsDecomposed kin l (kin.sire x) (kin.sire x) → IsDecomposed kin l (kin.sire x) (kin.dam x) → IsDecomposed kin l (kin.dam x) (kin.dam x) →
    IsDecomposed kin l (Some x) (Some x)
decomposed_same kin w l x b ss sd dd =
    same_sums _ _ _ (mendelian kin l x) _ _ _
    (rw (← ss, ← sd, ← dd) (shared-quartered kin w l x b))
    (entry-halved_same kin w l x b)
    (mendelian-whole kin w l x b)

decomposed_before : {A : Type 0} (kin : Ancestry A) → IsLawful kin → (l : ℕ) (x y : A) → Below kin (suc l) (Some x) → Below kin (suc l) (Some y) → IsTrue (kin.before x y) →
    IsDecomposed kin l (Some x) (kin.sire y) → IsDecomposed kin l (Some x) (kin.dam y) → IsDecomposed kin l (Some x) (Some y)
decomposed_before kin w l x y bx by' t s d =
    other_sums _ _ _ _ _ (rw (← s, ← d) (shared-halved kin w l x y bx by' t)) (entry-halved kin w l x y bx by' t)

Below-weaker : {A : Type 0} (kin : Ancestry A) (m n : ℕ) (o : Option A) → m ≤ n → Below kin m o → Below kin n o
Below-weaker kin m n o l b x e = ((b x e).0, λ i path. let s : i < m = (b x e).1 i path in omega arith)

-- By induction on the sum of the two depths. What two animals share and their entry split in the same way over the
-- parents of the younger one, and over an animal's parents where the two are one.
decomposed : {A : Type 0} (kin : Ancestry A) → IsLawful kin → (l : ℕ) (n : ℕ) (x y : Option A) (p q : ℕ) → Below kin p x → Below kin q y → p ≤ suc l → q ≤ suc l → p + q ≤ n → IsDecomposed kin l x y
decomposed kin w l n None y p q bx by' lp lq s = rw (shared-none_left kin l y, entry-none_left kin (2 * l) y) (omega arith)
decomposed kin w l n (Some x) None p q bx by' lp lq s =
    rw (shared-swap kin l (Some x) None, shared-none_left kin l (Some x), entry-none_right kin (2 * l) (Some x)) (omega arith)
decomposed kin w l n (Some x) (Some y) zero q bx by' lp lq s =
    let room = Below-positive kin 0 x bx in absurd (omega arith)
decomposed kin w l n (Some x) (Some y) (suc p) zero bx by' lp lq s =
    let room = Below-positive kin 0 y by' in absurd (omega arith)
decomposed kin w l zero (Some x) (Some y) (suc p) (suc q) bx by' lp lq s = absurd (omega arith)
decomposed {A} kin w l (suc n) (Some x) (Some y) (suc p) (suc q) bx by' lp lq s =
    let fx : Below kin (suc l) (Some x) = Below-weaker kin (suc p) (suc l) (Some x) lp bx in
    let fy : Below kin (suc l) (Some y) = Below-weaker kin (suc q) (suc l) (Some y) lq by' in
    let kx : IsKnown kin (Some x) = λ z e. (bx z e).0 in
    let ky : IsKnown kin (Some y) = λ z e. (by' z e).0 in
    ⊎_elim
    (λ e.
    let same : (r : ℕ) → Below kin (suc r) (Some x) → suc r ≤ suc l → r + r ≤ n → IsDecomposed kin l (Some x) (Some x) =
    λ r b lr f.
    let bs = Below-sire kin w r x b in
    let bd = Below-dam kin w r x b in
    decomposed_same kin w l x fx
    (decomposed kin w l n (kin.sire x) (kin.sire x) r r bs bs (omega arith) (omega arith) f)
    (decomposed kin w l n (kin.sire x) (kin.dam x) r r bs bd (omega arith) (omega arith) f)
    (decomposed kin w l n (kin.dam x) (kin.dam x) r r bd bd (omega arith) (omega arith) f) in
    let itself : IsDecomposed kin l (Some x) (Some x) =
    ⊎_elim (λ f. same p bx lp (omega arith))
    (λ f. same q (subst (λ v. Below kin (suc q) (Some v)) (sym e) by') lq (omega arith)) (cases_lt p q) in
    subst (λ v. IsDecomposed kin l (Some x) (Some v)) e itself)
    (⊎_elim
    (λ t.
    decomposed_before kin w l x y fx fy t
    (decomposed kin w l n (Some x) (kin.sire y) (suc p) q bx (Below-sire kin w q y by') lp (omega arith) (omega arith))
    (decomposed kin w l n (Some x) (kin.dam y) (suc p) q bx (Below-dam kin w q y by') lp (omega arith) (omega arith)))
    (λ t.
    let turned : IsDecomposed kin l (Some y) (Some x) =
    decomposed_before kin w l y x fy fx t
    (decomposed kin w l n (Some y) (kin.sire x) (suc q) p by' (Below-sire kin w p x bx) lq (omega arith) (omega arith))
    (decomposed kin w l n (Some y) (kin.dam x) (suc q) p by' (Below-dam kin w p x bx) lq (omega arith) (omega arith)) in
    rw (shared-swap kin l (Some x) (Some y), entry-swap kin w (2 * l) (Some x) (Some y) kx ky) turned))
    (w.total x y (Below-member kin (suc p) x bx) (Below-member kin (suc q) y by'))

-- THE DECOMPOSITION, where no path is longer than l
pub decomposition : {A : Type 0} (kin : Ancestry A) → IsLawful kin → (l : ℕ) → IsShallow kin l → (x y : Option A) → IsKnown kin x → IsKnown kin y → IsDecomposed kin l x y
decomposition kin w l f x y kx ky =
    decomposed kin w l (suc l + suc l) x y (suc l) (suc l)
    (Below-shallow kin w l f x kx) (Below-shallow kin w l f y ky) (omega arith) (omega arith) (omega arith)
