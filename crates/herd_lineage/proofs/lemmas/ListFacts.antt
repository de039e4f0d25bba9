-- What a list and an option hold, and the numbers below n + 1.
use Rattle.std.proofs.Common.{ℕ, zero, suc, ◌+◌, ◌<◌, ◌≡◌, ◌∙◌, sym, ◌⊎◌, ⊎_elim, inl, inr, arith, refl, ap, subst, true, false, is_some, List, [], ◌∷◌, ◌++◌, Option, Some, None, length, slice_get, get_or, map, replicate, zero-add}
use Rattle.std.specs.List.{AllByRecursion, range_with_len}
use Rattle.std.specs.Map.{keys_of, values_of}
use Rattle.std.proofs.lemmas.List.{map-id}
use Rattle.std.proofs.lemmas.List.FromFn.{get_or-range_with_len, length-range_with_len, map-range_with_len_more}
use Rattle.std.proofs.lemmas.Option.{same_Some, slice_get-get_or}

-- an option holds nothing or something
pub option_cases : {X : Type 0} (o : Option X) → (o ≡ None) ⊎ ((x : X) × (o ≡ Some x))
option_cases None = inl refl
option_cases (Some x) = inr (x, refl)

-- an option that holds something, and one that holds nothing
pub is_some_with : {X : Type 0} (o : Option X) → is_some o ≡ true → (x : X) × (o ≡ Some x)
is_some_with None h = absurd (cc)
is_some_with (Some x) h = (x, refl)

pub some_is : {X : Type 0} (o : Option X) (x : X) → o ≡ Some x → is_some o ≡ true
some_is o x e = rw e refl

pub none_if : {X : Type 0} (o : Option X) → is_some o ≡ false → o ≡ None
none_if None h = refl
none_if (Some x) h = absurd (cc)

-- within a list there is an element
pub there : {X : Type 0} (xs : List X) (c : ℕ) → c < length xs → (x : X) × (slice_get xs c ≡ Some x)
there [] c h = absurd (omega arith)
there (x ∷ xs) zero h = (x, refl)
there (x ∷ xs) (suc c) h = there xs c (omega arith)

module _ {X : Type 0} where
  -- an element after a push is an earlier one or the pushed
  pub push_cases : (xs : List X) (y z : X) (i : ℕ) → slice_get (xs ++ y ∷ []) i ≡ Some z → (slice_get xs i ≡ Some z) ⊎ ((i ≡ length xs) × (y ≡ z))
  push_cases [] y z zero e = inr (refl, same_Some _ _ e)
  push_cases [] y z (suc i) e = absurd (cc)
  push_cases (x ∷ xs) y z zero e = inl e
  push_cases (x ∷ xs) y z (suc i) e =
      ⊎_elim (λ l. inl l) (λ r. inr (ap suc r.0, r.1)) (push_cases xs y z i e)

  pub push_keeps : (xs : List X) (y z : X) (i : ℕ) → slice_get xs i ≡ Some z → slice_get (xs ++ y ∷ []) i ≡ Some z
  push_keeps [] y z i e = absurd (cc)
  push_keeps (x ∷ xs) y z zero e = e
  push_keeps (x ∷ xs) y z (suc i) e = push_keeps xs y z i e

  pub push_last : (xs : List X) (y : X) → slice_get (xs ++ y ∷ []) (length xs) ≡ Some y
  push_last [] y = refl
  push_last (x ∷ xs) y = push_last xs y

-- what holds of each element
pub all-push : {X : Type 0} (P : X → Type 0) (xs : List X) (y : X) → AllByRecursion P xs → P y → AllByRecursion P (xs ++ y ∷ [])
all-push P [] y h p = (p, tt)
all-push P (x ∷ xs) y h p = (h.0, all-push P xs y h.1 p)

pub all_at : {X : Type 0} (P : X → Type 0) (xs : List X) (c : ℕ) (x : X) → AllByRecursion P xs → slice_get xs c ≡ Some x → P x
all_at P [] c x h at = absurd (cc)
all_at P (y ∷ ys) zero x h at = subst P (same_Some _ _ at) h.0
all_at P (y ∷ ys) (suc c) x h at = all_at P ys c x h.1 at

-- key and value at a place are its entry
pub entry_from_both : {K X : Type 0} (es : List (K × X)) (i : ℕ) (x : K) (a : X) → slice_get (keys_of es) i ≡ Some x → slice_get (values_of es) i ≡ Some a → slice_get es i ≡ Some (x, a)
entry_from_both [] i x a k v = absurd (cc)
entry_from_both (e ∷ es) zero x a k v = let s = same_Some _ _ k in let t = same_Some _ _ v in ap Some (λ j. (s j, t j))
entry_from_both (e ∷ es) (suc i) x a k v = entry_from_both es i x a k v

-- and a value stands under some key
pub entry_from_value : {K X : Type 0} (es : List (K × X)) (i : ℕ) (a : X) → slice_get (values_of es) i ≡ Some a → (x : K) × (slice_get es i ≡ Some (x, a))
entry_from_value [] i a v = absurd (cc)
entry_from_value (e ∷ es) zero a v = let t = same_Some _ _ v in (e.0, ap Some (λ j. (e.0, t j)))
entry_from_value (e ∷ es) (suc i) a v = entry_from_value es i a v

-- the numbers below n + 1 are those below n, and n
pub range-more : (n : ℕ) → range_with_len 0 (n + 1) ≡ range_with_len 0 n ++ n ∷ []
range-more n =
    sym (map-id (range_with_len 0 (n + 1)))
    ∙ (map-range_with_len_more (λ (x : ℕ). x) 0 n n (omega arith) ∙ ap (λ xs. xs ++ n ∷ []) (map-id (range_with_len 0 n)))

-- a list of empty lists
pub nils : {X : Type 0} (f : ℕ → List X) → ((d : ℕ) → f d ≡ []) → (a n : ℕ) → map f (range_with_len a n) ≡ replicate n []
nils f none a zero = refl
nils f none a (suc n) = rw (none a) (ap (λ ls. [] ∷ ls) (nils f none (a + 1) n))

-- the element that a loop over the list reads stands at the rank
pub slice_get-item : {X : Type 0} (xs : List X) (rank : ℕ) (x : X) → rank < length xs → x ≡ get_or xs rank x → slice_get xs rank ≡ Some x
slice_get-item xs rank x within there = slice_get-get_or xs rank x within ∙ ap Some (sym there)

-- a number stands at its own rank among the first n
pub slice_get-range : (n rank : ℕ) → rank < n → slice_get (range_with_len 0 n) rank ≡ Some rank
slice_get-range n rank within =
    slice_get-get_or (range_with_len 0 n) rank 0 (rw (length-range_with_len 0 n) within)
    ∙ ap Some (get_or-range_with_len 0 n rank 0 within ∙ zero-add rank)
