-- Two rows of the inverse's factor through the numerator relationship matrix.
use Rattle.std.proofs.Common.{ℕ, ◌+◌, ◌*◌, ◌≡◌, inl, inr, ⊎_elim, Bool, true, false, cond, Option, Some, None, IsTrue, arith, refl, sym, Contains, ◌∙◌, ap, subst}
use Rattle.std.specs.List.{sum_by}
use Rattle.std.proofs.lemmas.Int.{ints}
use Rattle.std.proofs.lemmas.Bool.{false_from_ne_true}
use Rattle.std.proofs.Math.IntN.{pos, negsuc, ◌-ℤ◌, ◌*ℤ◌}
use Rattle.herd_kinship.specs.Ancestry.{Ancestry, IsParentIn}
use Rattle.herd_kinship.specs.Table.{entry, mendelian}
use Rattle.herd_kinship.specs.InverseRows.{is_it, half_row, row_product, sum_ints}
use Rattle.herd_kinship.proofs.lemmas.ancestry.LawfulAncestry.{IsShallow, IsLawful}
use Rattle.herd_kinship.proofs.lemmas.numbers.Sums.{sum_by-agree, sum_by-add, sum_by-one, sum_by-none}
use Rattle.herd_kinship.proofs.lemmas.numbers.Ints.{times_differences, sum_ints-difference}
use Rattle.herd_kinship.proofs.lemmas.ancestry.Table.{entry-none_left, entry-none_right}
use Rattle.herd_kinship.proofs.lemmas.ancestry.Depth.{IsKnown, known_some, known-sire, known-dam, Below-shallow}
use Rattle.herd_kinship.proofs.lemmas.ancestry.Shares.{apart, apart_back, entry-halved_same, entry-halved, mendelian-whole}
use Rattle.herd_kinship.proofs.lemmas.laws.Decompose.{entry-swap}

-- what the row has above 0, and what it has below 0
abbrev above : {A : Type 0} → Ancestry A → A → A → ℕ
above kin i p = cond (kin.same i p) 2 0

abbrev under : {A : Type 0} → Ancestry A → A → A → ℕ
under kin i p = cond (is_it kin (kin.sire i) p) 1 0 + cond (is_it kin (kin.dam i) p) 1 0

is_it-some : {A : Type 0} (kin : Ancestry A) → IsLawful kin → (o : Option A) (p : A) → IsTrue (is_it kin o p) → o ≡ Some p
is_it-some kin w None p t = absurd (cc)
is_it-some kin w (Some q) p t = ap Some ((w.same q p).0 t)

-- no parent of itself
not_itself : {A : Type 0} (kin : Ancestry A) → IsLawful kin → (i : A) → Contains kin.animals i → IsParentIn kin i i → ⊥
not_itself kin w i c is =
    let b = (w.parents i i c is).1 in w.one_way i i b b

row_cases : (s a b : Bool) → (s ≡ true → a ≡ false) → (s ≡ true → b ≡ false) →
    cond s (pos 2) (cond a (cond b (negsuc 1) (negsuc 0)) (cond b (negsuc 0) (pos 0))) ≡ pos (cond s 2 0) -ℤ pos (cond a 1 0 + cond b 1 0)
row_cases true true b f g = absurd (cc (f refl))
row_cases true false true f g = absurd (cc (g refl))
row_cases true false false f g = refl
row_cases false true true f g = refl
row_cases false true false f g = refl
row_cases false false true f g = refl
row_cases false false false f g = refl

row-difference : {A : Type 0} (kin : Ancestry A) → IsLawful kin → (i p : A) → Contains kin.animals i →
    half_row kin i p ≡ pos (above kin i p) -ℤ pos (under kin i p)
unfolding half_row
row-difference kin w i p c =
    row_cases (kin.same i p) (is_it kin (kin.sire i) p) (is_it kin (kin.dam i) p)
    (λ s. false_from_ne_true _ (λ t.
    not_itself kin w i c (inl (is_it-some kin w (kin.sire i) p t ∙ ap Some (sym ((w.same i p).0 s))))))
    (λ s. false_from_ne_true _ (λ t.
    not_itself kin w i c (inr (is_it-some kin w (kin.dam i) p t ∙ ap Some (sym ((w.same i p).0 s))))))

-- a sum over the animals that are i
pick_term : (b : Bool) (n c v : ℕ) → (b ≡ true → v ≡ c) → cond b n 0 * v ≡ cond b (n * c) 0
pick_term true n c v e = ap (λ z. n * z) (e refl)
pick_term false n c v e = omega arith

weigh_animal : {A : Type 0} (kin : Ancestry A) → IsLawful kin → (n : ℕ) (i : A) (f : A → ℕ) → Contains kin.animals i →
    sum_by (λ p. cond (kin.same i p) n 0 * f p) kin.animals ≡ n * f i
weigh_animal kin w n i f c =
    sum_by-agree (λ p. cond (kin.same i p) n 0 * f p) (λ p. cond (kin.same i p) (n * f i) 0) kin.animals
    (λ p _. pick_term (kin.same i p) n (f i) (f p) (λ s. ap f (sym ((w.same i p).0 s))))
    ∙ sum_by-one (kin.same i) (n * f i) kin.animals (w.once i c)

-- a sum over the animals that are o, of a measure that is 0 for an unknown animal
weigh_known : {A : Type 0} (kin : Ancestry A) → IsLawful kin → (o : Option A) (f : Option A → ℕ) → IsKnown kin o → f None ≡ 0 →
    sum_by (λ p. cond (is_it kin o p) 1 0 * f (Some p)) kin.animals ≡ f o
weigh_known kin w None f k z =
    sum_by-none (λ p. 0 * f (Some p)) kin.animals (λ p. omega arith) ∙ sym z
weigh_known kin w (Some q) f k z = weigh_animal kin w 1 q (λ p. f (Some p)) (k q refl) ∙ omega arith

weigh_above : {A : Type 0} (kin : Ancestry A) → IsLawful kin → (i : A) (f : Option A → ℕ) → Contains kin.animals i →
    sum_by (λ p. above kin i p * f (Some p)) kin.animals ≡ 2 * f (Some i)
weigh_above kin w i f c = weigh_animal kin w 2 i (λ p. f (Some p)) c

weigh_under : {A : Type 0} (kin : Ancestry A) → IsLawful kin → (i : A) (f : Option A → ℕ) → Contains kin.animals i → f None ≡ 0 →
    sum_by (λ p. under kin i p * f (Some p)) kin.animals ≡ f (kin.sire i) + f (kin.dam i)
weigh_under {A} kin w i f c z =
    let s : A → ℕ = λ p. cond (is_it kin (kin.sire i) p) 1 0 in
    let d : A → ℕ = λ p. cond (is_it kin (kin.dam i) p) 1 0 in
    let split = sum_by-agree (λ p. (s p + d p) * f (Some p)) (λ p. s p * f (Some p) + d p * f (Some p)) kin.animals (λ p _. omega arith) in
    let add = sum_by-add (λ p. s p * f (Some p)) (λ p. d p * f (Some p)) kin.animals in
    let sire = weigh_known kin w (kin.sire i) f (known-sire kin w i c) z in
    let dam = weigh_known kin w (kin.dam i) f (known-dam kin w i c) z in
    split ∙ (add ∙ ap (λ n. n + sum_by (λ p. d p * f (Some p)) kin.animals) sire ∙ ap (λ n. f (kin.sire i) + n) dam)

-- a sum weighed by the two parts of a row
weigh_two : {A : Type 0} (kin : Ancestry A) → IsLawful kin → (i : A) (f g : Option A → ℕ) → Contains kin.animals i → g None ≡ 0 →
    sum_by (λ p. above kin i p * f (Some p) + under kin i p * g (Some p)) kin.animals ≡ 2 * f (Some i) + (g (kin.sire i) + g (kin.dam i))
weigh_two {A} kin w i f g c z =
    let u : A → ℕ = λ p. above kin i p * f (Some p) in
    let v : A → ℕ = λ p. under kin i p * g (Some p) in
    sum_by-add u v kin.animals
    ∙ (ap (λ n. n + sum_by v kin.animals) (weigh_above kin w i f c) ∙ ap (λ n. 2 * f (Some i) + n) (weigh_under kin w i g c z))

-- the same, with the parts taken a and b times
weigh_row : {A : Type 0} (kin : Ancestry A) → IsLawful kin → (i : A) (a b : ℕ) (f : Option A → ℕ) → Contains kin.animals i → f None ≡ 0 →
    sum_by (λ p. a * above kin i p * f (Some p) + b * under kin i p * f (Some p)) kin.animals ≡ a * (2 * f (Some i)) + b * (f (kin.sire i) + f (kin.dam i))
weigh_row {A} kin w i a b f c z =
    sum_by-agree (λ p. a * above kin i p * f (Some p) + b * under kin i p * f (Some p))
    (λ p. above kin i p * (a * f (Some p)) + under kin i p * (b * f (Some p))) kin.animals (λ p _. omega arith)
    ∙ (weigh_two kin w i (λ o. a * f o) (λ o. b * f o) c (rw z (omega arith)) ∙ omega arith)

-- the terms of a product of two rows that are above 0, added up, and those below 0
abbrev pub plus_terms : {A : Type 0} → Ancestry A → (Option A → Option A → ℕ) → A → A → ℕ
plus_terms kin e i j =
    4 * e (Some i) (Some j) + (e (kin.sire i) (kin.sire j) + e (kin.sire i) (kin.dam j) + (e (kin.dam i) (kin.sire j) + e (kin.dam i) (kin.dam j)))

abbrev pub minus_terms : {A : Type 0} → Ancestry A → (Option A → Option A → ℕ) → A → A → ℕ
minus_terms kin e i j =
    2 * (e (Some i) (kin.sire j) + e (Some i) (kin.dam j)) + 2 * (e (kin.sire i) (Some j) + e (kin.dam i) (Some j))

-- Two rows multiplied through A are nine entries, of the two animals and their parents. What is above 0 and what is under
-- 0 in the rows is summed apart, since entries are natural numbers.
row_product-terms : {A : Type 0} (kin : Ancestry A) → IsLawful kin → (l : ℕ) (i j : A) → Contains kin.animals i → Contains kin.animals j →
    row_product kin l i j ≡ pos (plus_terms kin (entry kin (2 * l)) i j) -ℤ pos (minus_terms kin (entry kin (2 * l)) i j)
unfolding row_product
row_product-terms {A} kin w l i j ci cj =
    let e : Option A → Option A → ℕ = entry kin (2 * l) in
    let u : A → ℕ = above kin i in
    let v : A → ℕ = under kin i in
    let g : A → A → ℕ = λ p q. u p * above kin j q * e (Some p) (Some q) + v p * under kin j q * e (Some p) (Some q) in
    let k : A → A → ℕ = λ p q. u p * under kin j q * e (Some p) (Some q) + v p * above kin j q * e (Some p) (Some q) in
    let terms : (p : A) → sum_ints (λ q. half_row kin i p *ℤ half_row kin j q *ℤ pos (e (Some p) (Some q))) kin.animals ≡ pos (sum_by (g p) kin.animals) -ℤ pos (sum_by (k p) kin.animals) =
    λ p. sum_ints-difference (λ q. half_row kin i p *ℤ half_row kin j q *ℤ pos (e (Some p) (Some q))) (g p) (k p) kin.animals
    (λ q. rw (row-difference kin w i p ci, row-difference kin w j q cj) (times_differences (u p) (v p) (above kin j q) (under kin j q) (e (Some p) (Some q)))) in
    let rows = sum_ints-difference (λ p. sum_ints (λ q. half_row kin i p *ℤ half_row kin j q *ℤ pos (e (Some p) (Some q))) kin.animals)
    (λ p. sum_by (g p) kin.animals) (λ p. sum_by (k p) kin.animals) kin.animals terms in
    let plus : sum_by (λ p. sum_by (g p) kin.animals) kin.animals ≡ plus_terms kin e i j =
    sum_by-agree (λ p. sum_by (g p) kin.animals)
    (λ p. u p * (2 * e (Some p) (Some j)) + v p * (e (Some p) (kin.sire j) + e (Some p) (kin.dam j))) kin.animals
    (λ p _. weigh_row kin w j (u p) (v p) (e (Some p)) cj (entry-none_right kin (2 * l) (Some p)))
    ∙ (weigh_two kin w i (λ o. 2 * e o (Some j)) (λ o. e o (kin.sire j) + e o (kin.dam j)) ci
    (rw (entry-none_left kin (2 * l) (kin.sire j), entry-none_left kin (2 * l) (kin.dam j)) refl)
    ∙ omega arith) in
    let minus : sum_by (λ p. sum_by (k p) kin.animals) kin.animals ≡ minus_terms kin e i j =
    sum_by-agree (λ p. sum_by (k p) kin.animals)
    (λ p. u p * (e (Some p) (kin.sire j) + e (Some p) (kin.dam j)) + v p * (2 * e (Some p) (Some j))) kin.animals
    (λ p _.
    sum_by-agree (k p) (λ q. v p * above kin j q * e (Some p) (Some q) + u p * under kin j q * e (Some p) (Some q)) kin.animals
    (λ q _. omega arith)
    ∙ (weigh_row kin w j (v p) (u p) (e (Some p)) cj (entry-none_right kin (2 * l) (Some p)) ∙ omega arith))
    ∙ (weigh_two kin w i (λ o. e o (kin.sire j) + e o (kin.dam j)) (λ o. 2 * e o (Some j)) ci
    (rw (entry-none_left kin (2 * l) (Some j)) refl)
    ∙ omega arith) in
    rows ∙ (ap (λ n. pos n -ℤ pos (sum_by (λ p. sum_by (k p) kin.animals) kin.animals)) plus ∙ ap (λ n. pos (plus_terms kin e i j) -ℤ pos n) minus)

-- the entries of an unknown or older animal with j and with j's parents
older_halved : {A : Type 0} (kin : Ancestry A) → IsLawful kin → (l : ℕ) → IsShallow kin l → (o : Option A) (j : A) → Contains kin.animals j →
    ((p : A) → o ≡ Some p → Contains kin.animals p × IsTrue (kin.before p j)) →
    2 * entry kin (2 * l) o (Some j) ≡ entry kin (2 * l) o (kin.sire j) + entry kin (2 * l) o (kin.dam j)
older_halved kin w l f None j cj older =
    rw (entry-none_left kin (2 * l) (Some j), entry-none_left kin (2 * l) (kin.sire j), entry-none_left kin (2 * l) (kin.dam j)) refl
older_halved {A} kin w l f (Some p) j cj older =
    let known = older p refl in
    entry-halved kin w l p j (Below-shallow kin w l f (Some p) (known_some kin p known.0)) (Below-shallow kin w l f (Some j) (known_some kin j cj)) known.1

-- two animals, the first one older
balance_before : {A : Type 0} (kin : Ancestry A) → IsLawful kin → (l : ℕ) → IsShallow kin l → (i j : A) → Contains kin.animals i → Contains kin.animals j → IsTrue (kin.before i j) →
    plus_terms kin (entry kin (2 * l)) i j ≡ minus_terms kin (entry kin (2 * l)) i j
balance_before kin w l f i j ci cj t =
    let own = older_halved kin w l f (Some i) j cj (λ p e. let same : i ≡ p = cc in (subst (λ v. Contains kin.animals v) same ci, subst (λ v. IsTrue (kin.before v j)) same t)) in
    let sire = older_halved kin w l f (kin.sire i) j cj (λ p e. let q = w.parents p i ci (inl e) in (q.0, w.chain p i j q.1 t)) in
    let dam = older_halved kin w l f (kin.dam i) j cj (λ p e. let q = w.parents p i ci (inr e) in (q.0, w.chain p i j q.1 t)) in
    omega (arith, own, sire, dam)

plus_terms-swap : {A : Type 0} (kin : Ancestry A) → IsLawful kin → (k : ℕ) (i j : A) → Contains kin.animals i → Contains kin.animals j →
    plus_terms kin (entry kin k) i j ≡ plus_terms kin (entry kin k) j i
plus_terms-swap kin w k i j ci cj =
    let si = known-sire kin w i ci in let di = known-dam kin w i ci in let sj = known-sire kin w j cj in let dj = known-dam kin w j cj in
    omega (
      arith,
      entry-swap kin w k (Some i) (Some j) (known_some kin i ci) (known_some kin j cj),
      entry-swap kin w k (kin.sire i) (kin.sire j) si sj,
      entry-swap kin w k (kin.sire i) (kin.dam j) si dj,
      entry-swap kin w k (kin.dam i) (kin.sire j) di sj,
      entry-swap kin w k (kin.dam i) (kin.dam j) di dj,
    )

minus_terms-swap : {A : Type 0} (kin : Ancestry A) → IsLawful kin → (k : ℕ) (i j : A) → Contains kin.animals i → Contains kin.animals j →
    minus_terms kin (entry kin k) i j ≡ minus_terms kin (entry kin k) j i
minus_terms-swap kin w k i j ci cj =
    let si = known-sire kin w i ci in let di = known-dam kin w i ci in let sj = known-sire kin w j cj in let dj = known-dam kin w j cj in
    omega (
      arith,
      entry-swap kin w k (Some i) (kin.sire j) (known_some kin i ci) sj,
      entry-swap kin w k (Some i) (kin.dam j) (known_some kin i ci) dj,
      entry-swap kin w k (kin.sire i) (Some j) si (known_some kin j cj),
      entry-swap kin w k (kin.dam i) (Some j) di (known_some kin j cj),
    )

-- an animal with itself
balance_same : {A : Type 0} (kin : Ancestry A) → IsLawful kin → (l : ℕ) → IsShallow kin l → (i : A) → Contains kin.animals i →
    plus_terms kin (entry kin (2 * l)) i i ≡ minus_terms kin (entry kin (2 * l)) i i + 4 * mendelian kin l i
balance_same kin w l f i ci =
    let b = Below-shallow kin w l f (Some i) (known_some kin i ci) in
    let si = known-sire kin w i ci in
    let di = known-dam kin w i ci in
    let ki = known_some kin i ci in
    let sire = older_halved kin w l f (kin.sire i) i ci (λ p e. w.parents p i ci (inl e)) in
    let dam = older_halved kin w l f (kin.dam i) i ci (λ p e. w.parents p i ci (inr e)) in
    omega (
      arith,
      sire,
      dam,
      entry-halved_same kin w l i b,
      mendelian-whole kin w l i b,
      entry-swap kin w (2 * l) (Some i) (kin.sire i) ki si,
      entry-swap kin w (2 * l) (Some i) (kin.dam i) ki di,
      entry-swap kin w (2 * l) (kin.sire i) (kin.dam i) si di,
    )

difference_is : (a b c : ℕ) → a ≡ b + c → pos a -ℤ pos b ≡ pos c
difference_is a b c e = omega (arith, ints)

-- THE INVERSE ROWS
pub inverse_rows : {A : Type 0} (kin : Ancestry A) → IsLawful kin → (l : ℕ) → IsShallow kin l → (i j : A) → Contains kin.animals i → Contains kin.animals j →
    row_product kin l i j ≡ pos (cond (kin.same i j) (4 * mendelian kin l i) 0)
inverse_rows {A} kin w l f i j ci cj =
    let E : Option A → Option A → ℕ = entry kin (2 * l) in
    let balance : plus_terms kin E i j ≡ minus_terms kin E i j + cond (kin.same i j) (4 * mendelian kin l i) 0 =
    ⊎_elim
    (λ e.
    let P : A → Type 0 = λ v. plus_terms kin E i v ≡ minus_terms kin E i v + cond (kin.same i v) (4 * mendelian kin l i) 0 in
    let itself : P i = rw ((w.same i i).1 refl) (balance_same kin w l f i ci) in
    subst P e itself)
    (⊎_elim
    (λ t. rw (apart kin w i j t) (balance_before kin w l f i j ci cj t ∙ omega arith))
    (λ t.
    let older : plus_terms kin E j i ≡ minus_terms kin E j i = balance_before kin w l f j i cj ci t in
    rw (apart_back kin w j i t, plus_terms-swap kin w (2 * l) i j ci cj, minus_terms-swap kin w (2 * l) i j ci cj)
    (omega arith)))
    (w.total i j ci cj) in
    row_product-terms kin w l i j ci cj ∙ difference_is _ _ _ balance
