-- What stands in a list that has one element more, and sums over a list.
use Rattle.std.proofs.Common.{◌≡◌, ℕ, zero, suc, ◌≤◌, List, [], ◌∷◌, ◌++◌, length, map, refl, sym, subst, arith, Some, slice_get, ◌⊎◌, ⊎_elim, inl, inr}
use Rattle.std.specs.List.{sum_by}
use Rattle.std.proofs.lemmas.List.Sums.{sum_by-cons}
use Rattle.herd_frozen.proofs.lemmas.ListFacts.{push_cases}

-- an element of a list that has one more is one of the list's, or the new one at the end
pub get_more : {A : Type 0} (xs ys : List A) (x : A) (k : ℕ) (d : A) → ys ≡ xs ++ x ∷ [] → slice_get ys k ≡ Some d → (slice_get xs k ≡ Some d) ⊎ ((k ≡ length xs) × (d ≡ x))
get_more xs ys x k d is at =
    ⊎_elim (λ a. inl a) (λ (b : (k ≡ length xs) × (x ≡ d)). inr (b.0, sym b.1)) (push_cases xs x d k (subst (λ l. slice_get l k ≡ Some d) is at))

-- where no summand is greater, the sum isn't
pub sum_by-each-le : {A : Type 0} (f g : A → ℕ) (xs : List A) → ((k : ℕ) (x : A) → slice_get xs k ≡ Some x → f x ≤ g x) → sum_by f xs ≤ sum_by g xs
sum_by-each-le f g [] le = omega arith
sum_by-each-le f g (x ∷ xs) le =
    omega (arith, le 0 x refl, sum_by-each-le f g xs (λ k y at. le (suc k) y at), sum_by-cons f x xs, sum_by-cons g x xs)

-- and where the sum isn't smaller either, each summand is equal
pub each_equal : {A : Type 0} (f g : A → ℕ) (xs : List A) → ((k : ℕ) (x : A) → slice_get xs k ≡ Some x → f x ≤ g x) → sum_by g xs ≤ sum_by f xs → (k : ℕ) (x : A) → slice_get xs k ≡ Some x → f x ≡ g x
each_equal f g [] le more k x at = absurd (cc (at))
each_equal f g (y ∷ xs) le more zero x at =
    let same : y ≡ x = cc (at) in
    let tail = sum_by-each-le f g xs (λ k z at. le (suc k) z at) in
    let first : f y ≡ g y = omega (arith, le 0 y refl, tail, more, sum_by-cons f y xs, sum_by-cons g y xs) in
    subst (λ z. f z ≡ g z) same first
each_equal f g (y ∷ xs) le more (suc k) x at =
    let head = le 0 y refl in
    each_equal f g xs (λ i z at. le (suc i) z at) (omega (arith, head, more, sum_by-cons f y xs, sum_by-cons g y xs)) k x at

pub sum_by-map : {A B : Type 0} (f : A → B) (h : B → ℕ) (xs : List A) → sum_by h (map f xs) ≡ sum_by (λ x. h (f x)) xs
sum_by-map f h [] = refl
sum_by-map f h (x ∷ xs) = omega (arith, sum_by-cons h (f x) (map f xs), sum_by-cons (λ x. h (f x)) x xs, sum_by-map f h xs)
