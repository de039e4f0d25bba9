-- What a list contains, what a filter leaves of it, and whether any of its elements passes a test.
use Rattle.std.proofs.Common.{ℕ, zero, suc, ◌<◌, ◌≡◌, ◌∙◌, ◌⊎◌, ⊎_elim, inl, inr, Bool, true, false, filter, Contains, arith, refl, sym, ap, subst, All, List, [], ◌∷◌, Some, get_or, slice_get}
use Rattle.std.specs.List.{list_any}
use Rattle.std.proofs.lemmas.Bool.{cases_Bool, or_left, or_parts, or_right}
use Rattle.std.proofs.lemmas.List.Elements.{All-head, All-tail, Contains-append_right, Contains-append_cases}
use Rattle.std.proofs.lemmas.Option.{same_Some}

module _ {X : Type 0} where
  pub contains_here : (x : X) (xs : List X) → Contains (x ∷ xs) x
  contains_here x xs = (0, omega arith, refl)

  pub contains_later : (x y : X) (xs : List X) → Contains xs y → Contains (x ∷ xs) y
  contains_later x y xs h = Contains-append_right (x ∷ []) xs y h

  one : (y z : X) → Contains (y ∷ []) z → y ≡ z
  one y z h = at h.0 h.1 h.2
    where
      at : (k : ℕ) → k < 1 → get_or (y ∷ []) k z ≡ z → y ≡ z
      at zero l e = e
      at (suc k) l e = absurd (omega (arith, l))

  pub contains_cases : (x y : X) (xs : List X) → Contains (x ∷ xs) y → (x ≡ y) ⊎ Contains xs y
  contains_cases x y xs h = ⊎_elim (λ a. inl (one x y a)) (λ b. inr b) (Contains-append_cases (x ∷ []) xs y h)

  pub contains_none : (y : X) → Contains [] y → ⊥
  contains_none y h = absurd (omega (arith, h.1))

  -- what passes stays
  pub filter-keeps : (p : X → Bool) (xs : List X) (y : X) → Contains xs y → p y ≡ true → Contains (filter p xs) y
  filter-keeps p [] y h passes = h
  filter-keeps p (x ∷ xs) y h passes =
      ⊎_elim
      (λ (t : p x ≡ true).
      rw t (⊎_elim (λ (e : x ≡ y). subst (λ z. Contains (x ∷ filter p xs) z) e (contains_here x (filter p xs))) (λ r. contains_later x y (filter p xs) (filter-keeps p xs y r passes)) (contains_cases x y xs h)))
      (λ (t : p x ≡ false).
      rw t (⊎_elim (λ (e : x ≡ y). let u : p y ≡ false = subst (λ z. p z ≡ false) e t in absurd (cc)) (λ r. filter-keeps p xs y r passes) (contains_cases x y xs h)))
      (cases_Bool (p x))

  -- and what stays was there and passes
  pub filter-only : (p : X → Bool) (xs : List X) (y : X) → Contains (filter p xs) y → Contains xs y × (p y ≡ true)
  filter-only p [] y h = absurd (contains_none y h)
  filter-only p (x ∷ xs) y h =
      ⊎_elim
      (λ (t : p x ≡ true).
      ⊎_elim
      (λ (e : x ≡ y). (subst (λ z. Contains (x ∷ xs) z) e (contains_here x xs), subst (λ z. p z ≡ true) e t))
      (λ r. let rest = filter-only p xs y r in (contains_later x y xs rest.0, rest.1))
      (contains_cases x y (filter p xs) (rw t at h)))
      (λ (t : p x ≡ false). let rest = filter-only p xs y (rw t at h) in (contains_later x y xs rest.0, rest.1))
      (cases_Bool (p x))

-- a list in which no element passes a test
pub filter_none : {X : Type 0} (p : X → Bool) (xs : List X) → ((x : X) → p x ≡ false) → filter p xs ≡ []
filter_none p [] none = refl
filter_none p (x ∷ xs) none = rw (none x) (filter_none p xs none)

-- tests that agree on each element keep the same ones
pub filter_same : {X : Type 0} (p q : X → Bool) (xs : List X) → All (λ x. p x ≡ q x) xs → filter p xs ≡ filter q xs
filter_same p q [] same = refl
filter_same p q (x ∷ xs) same =
    rw (All-head (λ y. p y ≡ q y) x xs same, filter_same p q xs (All-tail (λ y. p y ≡ q y) x xs same)) refl

-- one element that passes a test is enough
pub any_found : {X : Type 0} (test : X → Bool) (xs : List X) (k : ℕ) (x : X) → slice_get xs k ≡ Some x → test x ≡ true → list_any test xs ≡ true
any_found test [] k x at t = absurd (cc)
any_found test (y ∷ ys) zero x at t = let e : y ≡ x = same_Some _ _ at in or_left (test y) (list_any test ys) (ap test e ∙ t)
any_found test (y ∷ ys) (suc k) x at t = or_right (test y) (list_any test ys) (any_found test ys k x at t)

-- and where none passes, each fails
pub any_not : {X : Type 0} (test : X → Bool) (xs : List X) (c : ℕ) (x : X) → list_any test xs ≡ false → slice_get xs c ≡ Some x → test x ≡ false
any_not test [] c x h at = absurd (cc)
any_not test (y ∷ ys) zero x h at = let e : y ≡ x = same_Some _ _ at in ap test (sym e) ∙ (or_parts (test y) (list_any test ys) h).0
any_not test (y ∷ ys) (suc c) x h at = any_not test ys c x (or_parts (test y) (list_any test ys) h).1 at
