-- The chain of a parent holds its calves, and nobody else.
use Rattle.std.proofs.Common.{◌↔◌, Contains, ℕ, zero, suc, ◌+◌, ◌<◌, ◌≤◌, ◌≡◌, ◌≢◌, ◌⊎◌, ◌==◌, inl, inr, arith, refl, sym, ap, ◌∙◌, cond, subst, List, ◌∷◌, Option, Some, None, length, slice_get, unwrap_or}
use Rattle.std.specs.Option.{ForSome}
use Rattle.std.proofs.lemmas.Bool.{cases_eq, eq-eqb, ne_eqb}
use Rattle.std.proofs.lemmas.Option.{same_Some, slice_get_within, slice_get-get_or, get_or_from_slice_get}
use Rattle.herd_pedigree.specs.declared.store.progeny.ChainNode.{ChainNode}
use Rattle.herd_frozen.specs.places.Places.{parent_at}
use Rattle.herd_frozen.proofs.lemmas.ListFacts.{option_cases}
use Rattle.herd_pedigree.specs.store.Calves.{AreChained, chain, first_of, next_of, parent_of, parents_of, previous_of}
use Rattle.herd_pedigree.proofs.lemmas.store.ProgenyFacts.{animal-within, next-within, parents-seen}

-- where one of some different numbers is n, the last of them stands for it
skipped : (ℕ → ℕ) → ℕ → ℕ → ℕ → ℕ
skipped f n last i = cond (f i == n) (f last) (f i)

skips : (f : ℕ → ℕ) (n last i : ℕ) → ((f i ≡ n) × (skipped f n last i ≡ f last)) ⊎ ((f i ≢ n) × (skipped f n last i ≡ f i))
unfolding skipped
skips f n last i = elim (cases_eq (f i) n) [
  | inl same ↦ inl (same, ap (λ t. cond t (f last) (f i)) (eq-eqb (f i) n same))
  | inr other ↦ inr (other, ap (λ t. cond t (f last) (f i)) (ne_eqb (f i) n other))
]

-- so many different numbers below n are at most n
pigeonhole : (m n : ℕ) (f : ℕ → ℕ) → ((i : ℕ) → i < m → f i < n) → ((i j : ℕ) → i < j → j < m → f i ≢ f j) → m ≤ n
pigeonhole zero n f low apart = omega arith
pigeonhole (suc m) zero f low apart = let bad = low 0 (omega arith) in absurd (omega (arith, bad))
pigeonhole (suc m) (suc n) f low apart =
    let last = low m (omega arith) in
    let fewer = pigeonhole m n (skipped f n m)
    (λ i h.
    let l = low i (omega (arith, h)) in
    let d = apart i m h (omega arith) in
    elim (skips f n m i) [
      | inl s ↦ let a = s.0 in let b = s.1 in omega (arith, a, b, d, last)
      | inr s ↦ let a = s.0 in let b = s.1 in omega (arith, a, b, l)
    ])
    (λ i j h k e.
    let d = apart i j h (omega (arith, k)) in
    let di = apart i m (omega (arith, h, k)) (omega arith) in
    let dj = apart j m k (omega arith) in
    elim (skips f n m i) [
      | inl s ↦ elim (skips f n m j) [
        | inl t ↦ d (s.0 ∙ sym t.0)
        | inr t ↦ dj (sym (sym s.1 ∙ e ∙ t.1))
      ]
      | inr s ↦ elim (skips f n m j) [
        | inl t ↦ di (sym s.1 ∙ e ∙ t.1)
        | inr t ↦ d (sym s.1 ∙ e ∙ t.1)
      ]
    ]) in
    omega (arith, fewer)

-- k calves further on
steps : List ChainNode → ℕ → Option ℕ → Option ℕ
steps nodes zero calf = calf
steps nodes (suc k) None = None
steps nodes (suc k) (Some calf) = steps nodes k (next_of nodes calf)

steps_none : (nodes : List ChainNode) (k : ℕ) → steps nodes k None ≡ None
unfolding steps
steps_none nodes zero = refl
steps_none nodes (suc k) = refl

step_on : (nodes : List ChainNode) (k : ℕ) (at : Option ℕ) (c : ℕ) → steps nodes k at ≡ Some c → steps nodes (suc k) at ≡ next_of nodes c
unfolding steps
step_on nodes zero None c e = absurd (cc)
step_on nodes zero (Some x) c e = ap (λ v. next_of nodes v) (same_Some _ _ e)
step_on nodes (suc k) None c e = absurd (cc)
step_on nodes (suc k) (Some x) c e = step_on nodes k (next_of nodes x) c e

step_past : (nodes : List ChainNode) (k : ℕ) (at : Option ℕ) → steps nodes k at ≡ None → steps nodes (suc k) at ≡ None
unfolding steps
step_past nodes zero None e = refl
step_past nodes zero (Some x) e = absurd (cc)
step_past nodes (suc k) None e = refl
step_past nodes (suc k) (Some x) e = step_past nodes k (next_of nodes x) e

chain-at : (nodes : List ChainNode) (n k : ℕ) (at : Option ℕ) → k < n → slice_get (chain nodes n at) k ≡ steps nodes k at
unfolding steps
chain-at nodes zero k at h = absurd (omega (arith, h))
chain-at nodes (suc n) zero None h = refl
chain-at nodes (suc n) (suc k) None h = refl
chain-at nodes (suc n) zero (Some c) h = refl
chain-at nodes (suc n) (suc k) (Some c) h = chain-at nodes n k (next_of nodes c) (omega (arith, h))

chain-past : (nodes : List ChainNode) (n k : ℕ) (at : Option ℕ) (c : ℕ) → slice_get (chain nodes n at) k ≡ Some c → k < n
chain-past nodes zero k at c e = absurd (cc)
chain-past nodes (suc n) k None c e = absurd (cc)
chain-past nodes (suc n) zero (Some x) c e = omega arith
chain-past nodes (suc n) (suc k) (Some x) c e = let h = chain-past nodes n k (next_of nodes x) c e in omega (arith, h)

-- a chain that ends within so many calves is no longer with one more
chain-more : (nodes : List ChainNode) (n : ℕ) (at : Option ℕ) → steps nodes n at ≡ None → chain nodes (suc n) at ≡ chain nodes n at
unfolding steps
chain-more nodes zero None e = refl
chain-more nodes zero (Some c) e = absurd (cc)
chain-more nodes (suc n) None e = refl
chain-more nodes (suc n) (Some c) e = ap (λ cs. c ∷ cs) (chain-more nodes n (next_of nodes c) e)

chain-behind : (nodes : List ChainNode) (n c : ℕ) → steps nodes n (Some c) ≡ None → chain nodes n (Some c) ≡ c ∷ chain nodes n (next_of nodes c)
unfolding steps
chain-behind nodes zero c e = absurd (cc)
chain-behind nodes (suc n) c e = ap (λ cs. c ∷ cs) (sym (chain-more nodes n (next_of nodes c) e))

module _ (nodes : List ChainNode) (a : AreChained nodes) where
  module _ (at : Option ℕ) (within : ForSome at (λ c. c < length nodes)) where
    -- the calves from an animal on are animals
    steps-within : (k c : ℕ) → steps nodes k at ≡ Some c → c < length nodes
    unfolding steps
    steps-within zero c e = within c e
    steps-within (suc k) c e = elim (option_cases (steps nodes k at)) [
      | inl none ↦ let bad : None ≡ Some c = sym (step_past nodes k at none) ∙ e in absurd (cc)
      | inr some ↦ next-within nodes a some.0 c (sym (step_on nodes k at some.0 some.1) ∙ e)
    ]

    -- those that come later have less seniority
    falls : (i j : ℕ) (x y : ℕ) → i < j → steps nodes i at ≡ Some x → steps nodes j at ≡ Some y → a.seniority y < a.seniority x
    unfolding steps
    falls i zero x y h e f = absurd (omega (arith, h))
    falls i (suc j) x y h e f = elim (option_cases (steps nodes j at)) [
      | inl none ↦ let bad : None ≡ Some y = sym (step_past nodes j at none) ∙ f in absurd (cc)
      | inr some ↦
          let r = (a.next some.0 y (sym (step_on nodes j at some.0 some.1) ∙ f)).1.1 in
          elim (cases_eq i j) [
            | inl same ↦
                let is_x : some.0 ≡ x = same_Some _ _ (sym some.1 ∙ ap (λ k. steps nodes k at) (sym same) ∙ e) in
                let t = ap (λ v. a.seniority v) is_x in omega (arith, r, t)
            | inr other ↦ let t = falls i j x some.0 (omega (arith, h, other)) e some.1 in omega (arith, r, t)
          ]
    ]

    -- a chain goes on without a gap
    all_before : (k i c : ℕ) → i ≤ k → steps nodes k at ≡ Some c → (x : ℕ) × (steps nodes i at ≡ Some x)
    all_before zero i c h e = (c, ap (λ v. steps nodes v at) (let is : i ≡ 0 = omega (arith, h) in is) ∙ e)
    all_before (suc k) i c h e = elim (cases_eq i (suc k)) [
      | inl same ↦ (c, ap (λ v. steps nodes v at) same ∙ e)
      | inr other ↦ elim (option_cases (steps nodes k at)) [
        | inl none ↦ let bad : None ≡ Some c = sym (step_past nodes k at none) ∙ e in absurd (cc)
        | inr some ↦ all_before k i some.0 (omega (arith, h, other)) some.1
      ]
    ]

    at_step : ℕ → ℕ
    at_step i = unwrap_or (steps nodes i at) 0

    at_step_is : (i c : ℕ) → steps nodes i at ≡ Some c → at_step i ≡ c
    unfolding at_step
    at_step_is i c e = ap (λ o. unwrap_or o 0) e

    -- so that it has no more calves than there are animals
    short : (k c : ℕ) → steps nodes k at ≡ Some c → k < length nodes
    short k c e =
        let fits = pigeonhole (suc k) (length nodes) at_step
        (λ i h.
        let x = all_before k i c (omega (arith, h)) e in
        let n = at_step_is i x.0 x.1 in
        let w = steps-within i x.0 x.1 in
        omega (arith, n, w))
        (λ i j h l is.
        let x = all_before k i c (omega (arith, h, l)) e in
        let y = all_before k j c (omega (arith, l)) e in
        let r = falls i j x.0 y.0 h x.1 y.1 in
        let same : x.0 ≡ y.0 = sym (at_step_is i x.0 x.1) ∙ is ∙ at_step_is j y.0 y.1 in
        let t = ap (λ v. a.seniority v) same in
        absurd (omega (arith, r, t))) in
        omega (arith, fits)

    -- and it ends within so many
    ends : steps nodes (length nodes) at ≡ None
    ends = elim (option_cases (steps nodes (length nodes) at)) [
      | inl none ↦ none
      | inr some ↦ let less = short (length nodes) some.0 some.1 in absurd (omega (arith, less))
    ]

  -- one calf further
  pub chain-next : (c : ℕ) → c < length nodes → chain nodes (length nodes) (Some c) ≡ c ∷ chain nodes (length nodes) (next_of nodes c)
  chain-next c here = chain-behind nodes (length nodes) c (ends (Some c) (λ x e. subst (λ n. n < length nodes) (same_Some c x e) here))

  -- a first calf is an animal
  pub first-within : (p c : ℕ) → first_of nodes p ≡ Some c → c < length nodes
  first-within p c e = animal-within nodes c p (a.first p c e).0

  module _ (p : ℕ) where
    -- each calf is reached from the first
    reached : (m c : ℕ) → parent_of nodes c ≡ Some p → a.top ≤ m + a.seniority c → (k : ℕ) × (steps nodes k (first_of nodes p) ≡ Some c)
    unfolding steps
    reached zero c e h = let b = a.below c in absurd (omega (arith, b, h))
    reached (suc m) c e h = elim (option_cases (previous_of nodes c)) [
      | inl none ↦ (0, a.foremost p c e none)
      | inr some ↦
          let on = a.previous some.0 c some.1 in
          let was = a.next some.0 c on in
          let r = was.1.1 in
          let before = reached m some.0 (sym was.1.0 ∙ e) (omega (arith, h, r)) in
          (suc before.0, step_on nodes before.0 (first_of nodes p) some.0 before.1 ∙ on)
    ]

    -- all of them are its calves
    steps_to : (k c : ℕ) → steps nodes k (first_of nodes p) ≡ Some c → parent_of nodes c ≡ Some p
    unfolding steps
    steps_to zero c e = (a.first p c e).0
    steps_to (suc k) c e = elim (option_cases (steps nodes k (first_of nodes p))) [
      | inl none ↦ let bad : None ≡ Some c = sym (step_past nodes k (first_of nodes p) none) ∙ e in absurd (cc)
      | inr some ↦ (a.next some.0 c (sym (step_on nodes k (first_of nodes p) some.0 some.1) ∙ e)).1.0 ∙ steps_to k some.0 some.1
    ]

    -- the chain holds just the calves
    pub calves-told : (c : ℕ) → Contains (chain nodes (length nodes) (first_of nodes p)) c ↔ (parent_at (parents_of nodes) c ≡ Some p)
    calves-told c =
        let calves : List ℕ = chain nodes (length nodes) (first_of nodes p) in (
          λ is.
              let at : slice_get calves is.0 ≡ Some c = slice_get-get_or calves is.0 c is.1 ∙ ap Some is.2 in
              let k = chain-past nodes (length nodes) is.0 (first_of nodes p) c at in
              parents-seen nodes c ∙ steps_to is.0 c (sym (chain-at nodes (length nodes) is.0 (first_of nodes p) k) ∙ at),
          λ e.
              let r = reached a.top c (sym (parents-seen nodes c) ∙ e) (omega arith) in
              let at : slice_get calves r.0 ≡ Some c = chain-at nodes (length nodes) r.0 (first_of nodes p) (short (first_of nodes p) (first-within p) r.0 c r.1) ∙ r.1 in
              (r.0, slice_get_within calves r.0 c at, get_or_from_slice_get calves r.0 c c at),
        )

-- a parent with no first calf has none
pub no-calves : (nodes : List ChainNode) → AreChained nodes → (p : ℕ) → first_of nodes p ≡ None → (c : ℕ) → parent_of nodes c ≡ Some p → ⊥
no-calves nodes a p none c e =
    let r = reached nodes a p a.top c e (omega arith) in
    let bad : None ≡ Some c = sym (steps_none nodes r.0) ∙ ap (λ o. steps nodes r.0 o) (sym none) ∙ r.1 in absurd (cc)

-- the same of what is handed out
pub calves-shown : (nodes : List ChainNode) → AreChained nodes → (p : ℕ) (fs : List ChainNode) (first : Option ℕ) → fs ≡ nodes → first ≡ first_of nodes p → (c : ℕ) → Contains (chain fs (length fs) first) c ↔ (parent_at (parents_of nodes) c ≡ Some p)
calves-shown nodes a p fs first e f c = rw (e, f) (calves-told nodes a p c)
