-- The chains of calves once an animal joins the calves of a parent.
use Rattle.std.proofs.Common.{ℕ, ◌+◌, ◌<◌, ◌^◌, ◌≡◌, ◌≢◌, ◌==◌, inl, inr, arith, refl, sym, ap, ◌∙◌, subst, cond, List, Option, Some, None, length}
use Rattle.std.proofs.lemmas.Bool.{cases_eq, eq-eqb, ne_eqb}
use Rattle.std.proofs.lemmas.Option.{same_Some}
use Rattle.herd_pedigree.specs.declared.store.progeny.ChainNode.{ChainNode}
use Rattle.herd_pedigree.specs.store.Calves.{AreChained, Show, first_of, next_of, parent_of, previous_of, put}
use Rattle.herd_pedigree.proofs.lemmas.store.ProgenyFacts.{everywhere, is_place, put_at, put_is, put_isnt, put_off}

-- an animal gets its first parent: it is the first calf, and that from before the next
module _ (old new : List ChainNode) (a : AreChained old) (c p : ℕ) (there : p < length old) (none : parent_of old c ≡ None)
    (s : Show new (length old) (put (Some c) (Some p) (parent_of old)) (put (first_of old p) (Some c) (previous_of old)) (put (Some c) (first_of old p) (next_of old)) (put (Some p) (Some c) (first_of old))) where
  seniority_to : ℕ → ℕ
  seniority_to x = cond (x == c) a.top (a.seniority x)

  seniority_c : seniority_to c ≡ a.top
  unfolding seniority_to
  seniority_c = ap (λ t. cond t a.top (a.seniority c)) (eq-eqb c c refl)

  seniority_off : (x : ℕ) → x ≢ c → seniority_to x ≡ a.seniority x
  unfolding seniority_to
  seniority_off x n = ap (λ t. cond t a.top (a.seniority x)) (ne_eqb x c n)

  has_parent : (x q : ℕ) → parent_of old x ≡ Some q → x ≢ c
  has_parent x q e is = let bad : None ≡ Some q = sym none ∙ ap (λ v. parent_of old v) (sym is) ∙ e in absurd (cc)

  parent_c : parent_of new c ≡ Some p
  parent_c = s.parents c ∙ put_at c (Some p) (parent_of old)

  parent_off : (x : ℕ) → x ≢ c → parent_of new x ≡ parent_of old x
  parent_off x n = s.parents x ∙ put_off c (Some p) (parent_of old) x n

  next_c : next_of new c ≡ first_of old p
  next_c = s.after c ∙ put_at c (first_of old p) (next_of old)

  next_off : (x : ℕ) → x ≢ c → next_of new x ≡ next_of old x
  next_off x n = s.after x ∙ put_off c (first_of old p) (next_of old) x n

  previous_f : (x : ℕ) → first_of old p ≡ Some x → previous_of new x ≡ Some c
  previous_f x e = s.before x ∙ put_is (first_of old p) (Some c) (previous_of old) x e

  previous_off : (x : ℕ) → first_of old p ≢ Some x → previous_of new x ≡ previous_of old x
  previous_off x n = s.before x ∙ put_isnt (first_of old p) (Some c) (previous_of old) x n

  -- who isn't the first was not preceded by the calf
  not_first : (x q : ℕ) → parent_of old x ≡ Some q → q ≢ p → first_of old p ≢ Some x
  not_first x q e n is = n (same_Some _ _ (sym e ∙ (a.first p x is).0))

  below_to : (x : ℕ) → seniority_to x < a.top + 1
  below_to x = elim (cases_eq x c) [
    | inl same ↦ let r = ap (λ v. seniority_to v) same in omega (arith, r, seniority_c)
    | inr other ↦ let r = seniority_off x other in let b = a.below x in omega (arith, r, b)
  ]

  within_to : (x q : ℕ) → parent_of new x ≡ Some q → q < length new
  within_to x q e =
      let n = s.long in
      elim (cases_eq x c) [
        | inl same ↦ let is : p ≡ q = same_Some _ _ (sym parent_c ∙ ap (λ v. parent_of new v) (sym same) ∙ e) in omega (arith, is, there, n)
        | inr other ↦ let w = a.within x q (sym (parent_off x other) ∙ e) in omega (arith, w, n)
      ]

  first_to : (q x : ℕ) → first_of new q ≡ Some x → (parent_of new x ≡ Some q) × (previous_of new x ≡ None)
  first_to q x e = elim (cases_eq q p) [
    | inl same ↦
        let is : c ≡ x = same_Some _ _ (sym (put_at p (Some c) (first_of old)) ∙ sym (s.firsts p) ∙ ap (λ v. first_of new v) (sym same) ∙ e) in
        let not : first_of old p ≢ Some c = λ f. has_parent c p (a.first p c f).0 refl in
        subst (λ v. (parent_of new v ≡ Some q) × (previous_of new v ≡ None)) is (parent_c ∙ ap Some (sym same), previous_off c not ∙ (a.single c none).1)
    | inr other ↦
        let was = a.first q x (sym (put_off p (Some c) (first_of old) q other) ∙ sym (s.firsts q) ∙ e) in
        (parent_off x (has_parent x q was.0) ∙ was.0, previous_off x (not_first x q was.0 other) ∙ was.1)
  ]

  foremost_to : (q x : ℕ) → parent_of new x ≡ Some q → previous_of new x ≡ None → first_of new q ≡ Some x
  foremost_to q x e before = elim (cases_eq x c) [
    | inl same ↦
        let is : p ≡ q = same_Some _ _ (sym parent_c ∙ ap (λ v. parent_of new v) (sym same) ∙ e) in
        ap (λ v. first_of new v) (sym is) ∙ s.firsts p ∙ put_at p (Some c) (first_of old) ∙ ap Some (sym same)
    | inr other ↦
        let was : parent_of old x ≡ Some q = sym (parent_off x other) ∙ e in
        elim (is_place (first_of old p) x) [
          | inl f ↦ let bad : None ≡ Some c = sym before ∙ previous_f x f in absurd (cc)
          | inr n ↦
              let old_first = a.foremost q x was (sym (previous_off x n) ∙ before) in
              let not : q ≢ p = λ is. n (ap (λ v. first_of old v) (sym is) ∙ old_first) in
              s.firsts q ∙ put_off p (Some c) (first_of old) q not ∙ old_first
        ]
  ]

  next_to : (x y : ℕ) → next_of new x ≡ Some y → (previous_of new y ≡ Some x) × ((parent_of new y ≡ parent_of new x) × (seniority_to y < seniority_to x))
  next_to x y e = elim (cases_eq x c) [
    | inl same ↦
        let f : first_of old p ≡ Some y = sym next_c ∙ ap (λ v. next_of new v) (sym same) ∙ e in
        let was = a.first p y f in
        let other = has_parent y p was.0 in
        let r = seniority_off y other in
        let b = a.below y in
        let less : seniority_to y < seniority_to c = omega (arith, r, b, seniority_c) in
        subst (λ v. (previous_of new y ≡ Some v) × ((parent_of new y ≡ parent_of new v) × (seniority_to y < seniority_to v))) (sym same)
        (previous_f y f, (parent_off y other ∙ was.0 ∙ sym parent_c, less))
    | inr n ↦
        let was = a.next x y (sym (next_off x n) ∙ e) in
        let other : y ≢ c = λ is. let bad : None ≡ Some x = sym (a.single c none).1 ∙ ap (λ v. previous_of old v) (sym is) ∙ was.0 in absurd (cc) in
        let not : first_of old p ≢ Some y = λ f. let bad : None ≡ Some x = sym (a.first p y f).1 ∙ was.0 in absurd (cc) in
        let ry = seniority_off y other in
        let rx = seniority_off x n in
        let less = was.1.1 in
        (previous_off y not ∙ was.0, (parent_off y other ∙ was.1.0 ∙ sym (parent_off x n), omega (arith, ry, rx, less)))
  ]

  previous_to : (x y : ℕ) → previous_of new y ≡ Some x → next_of new x ≡ Some y
  previous_to x y e = elim (is_place (first_of old p) y) [
    | inl f ↦
        let is : c ≡ x = same_Some _ _ (sym (previous_f y f) ∙ e) in
        ap (λ v. next_of new v) (sym is) ∙ next_c ∙ f
    | inr n ↦
        let was = a.previous x y (sym (previous_off y n) ∙ e) in
        let other : x ≢ c = λ is. let bad : None ≡ Some y = sym (a.single c none).0 ∙ ap (λ v. next_of old v) (sym is) ∙ was in absurd (cc) in
        next_off x other ∙ was
  ]

  single_to : (x : ℕ) → parent_of new x ≡ None → (next_of new x ≡ None) × (previous_of new x ≡ None)
  single_to x e = elim (cases_eq x c) [
    | inl same ↦ let bad : None ≡ Some p = sym e ∙ ap (λ v. parent_of new v) same ∙ parent_c in absurd (cc)
    | inr n ↦
        let was : parent_of old x ≡ None = sym (parent_off x n) ∙ e in
        let both = a.single x was in
        let not : first_of old p ≢ Some x = λ f. let bad : None ≡ Some p = sym was ∙ (a.first p x f).0 in absurd (cc) in
        (next_off x n ∙ both.0, previous_off x not ∙ both.1)
  ]

  pub chained-join : AreChained new
  chained-join = record { few = subst (λ n. n < 2 ^ 32) (sym s.long) a.few; seniority = seniority_to; top = a.top + 1; below = below_to; within = within_to; first = first_to; foremost = foremost_to; next = next_to; previous = previous_to; single = single_to }

-- the four writes that join a calf
pub joined : (old l1 l2 l3 new : List ChainNode) (c p : ℕ) (own shared first : Option ℕ) → own ≡ Some c → shared ≡ Some p → first ≡ first_of old p →
    Show l1 (length old) (parent_of old) (previous_of old) (next_of old) (put shared own (first_of old)) →
    Show l2 (length l1) (parent_of l1) (put first own (previous_of l1)) (next_of l1) (first_of l1) →
    Show l3 (length l2) (parent_of l2) (previous_of l2) (put own first (next_of l2)) (first_of l2) →
    Show new (length l3) (put (Some c) shared (parent_of l3)) (previous_of l3) (next_of l3) (first_of l3) →
    Show new (length old) (put (Some c) (Some p) (parent_of old)) (put (first_of old p) (Some c) (previous_of old)) (put (Some c) (first_of old p) (next_of old)) (put (Some p) (Some c) (first_of old))
joined old l1 l2 l3 new c p own shared first is_own is_shared is_first s t u v =
    let parents = everywhere v.parents ∙ ap (λ f. put (Some c) shared f) (everywhere u.parents ∙ everywhere t.parents ∙ everywhere s.parents) ∙ ap (λ o. put (Some c) o (parent_of old)) is_shared in
    let before = everywhere v.before ∙ everywhere u.before ∙ everywhere t.before ∙ ap (λ f. put first own f) (everywhere s.before) ∙ ap (λ o. put o own (previous_of old)) is_first ∙ ap (λ o. put (first_of old p) o (previous_of old)) is_own in
    let after = everywhere v.after ∙ everywhere u.after ∙ ap (λ f. put own first f) (everywhere t.after ∙ everywhere s.after) ∙ ap (λ o. put o first (next_of old)) is_own ∙ ap (λ o. put (Some c) o (next_of old)) is_first in
    let firsts = everywhere v.firsts ∙ everywhere u.firsts ∙ everywhere t.firsts ∙ everywhere s.firsts ∙ ap (λ o. put o own (first_of old)) is_shared ∙ ap (λ o. put (Some p) o (first_of old)) is_own in
    record {
      long = v.long ∙ u.long ∙ t.long ∙ s.long;
      parents = λ x. ap (λ f. f x) parents;
      before = λ x. ap (λ f. f x) before;
      after = λ x. ap (λ f. f x) after;
      firsts = λ x. ap (λ f. f x) firsts;
    }
