-- Each lawful book has frozen rows.
use Rattle.std.proofs.Common.{ℕ, zero, suc, ◌+◌, ◌<◌, ◌≤◌, ◌≡◌, ⊎_elim, arith, refl, sym, ap, ◌∙◌, subst, Bool, true, false, cond, IsTrue, List, [], ◌∷◌, Option, Some, None, length, slice_get, map, Contains}
use Rattle.std.specs.Prelude.{IsPermutation, IsSorted}
use Rattle.std.specs.declared.cmp.Ordering.{Ordering}
use Rattle.std.specs.declared.cmp.Ordering.TheVariants.{Less, Equal, Greater}
use Rattle.std.specs.Cmp.{IsTotalOrder}
use Rattle.std.specs.List.{enumerate_from, list_any}
use Rattle.std.specs.Map.{keys_of}
use Rattle.std.specs.Ordering.{is_lt, ordering_reverse}
use Rattle.std.proofs.lemmas.Bool.{cases_Bool, cases_lt, not-true}
use Rattle.std.proofs.lemmas.Cmp.{int_cmp_total, nat_cmp_total, nat_list_cmp_total, on_total, then_total}
use Rattle.std.proofs.lemmas.List.Sorted.{Contains-permutation, IsPermutation-cons, IsPermutation-insert, IsPermutation-map, IsPermutation-refl, IsPermutation-trans}
use Rattle.std.proofs.lemmas.Option.{get_or_from_slice_get, same_Some, slice_get-get_or, slice_get_within}
use Rattle.herd_frozen.specs.declared.rules.animal.Animal.{Animal}
use Rattle.herd_frozen.specs.declared.freezing.age_order.AgeKey.{AgeKey}
use Rattle.herd_frozen.specs.declared.freezing.frozen.Row.{Row}
use Rattle.herd_frozen.specs.rules.Book.{Book, IsDepthOf, is_shallow, parentage_of, record_of}
use Rattle.herd_frozen.specs.rules.Lawful.{IsLawful, IsLawfulRecord}
use Rattle.herd_frozen.specs.rules.Paths.{Parentage, has_path, IsDepth}
use Rattle.herd_frozen.specs.freezing.Frozen.{IsFrozenFrom}
use Rattle.herd_frozen.specs.freezing.Freeze.{IsAgeOrder, IsRowOf, age_key, key_cmp}
use Rattle.herd_frozen.specs.places.Places.{IsIndexIn}
use Rattle.herd_frozen.proofs.lemmas.freezing.AgeOrderFacts.{IsKeyOf, key-at}
use Rattle.herd_frozen.proofs.lemmas.freezing.FreezeFacts.{frozen-from}
use Rattle.herd_frozen.proofs.lemmas.freezing.FrozenDepthFacts.{has_path-le}
use Rattle.herd_frozen.proofs.lemmas.rules.BookFacts.{key_from_entry, lookup_at, place_of}

less_reversed : (o : Ordering) → is_lt o ≡ true → is_lt (ordering_reverse o) ≡ false
less_reversed Less e = refl
less_reversed Equal e = refl
less_reversed Greater e = absurd (cc)

module _ {K : Type 0} (cmp : K → K → Ordering) (total : IsTotalOrder cmp) where
  -- the first of a list isn't less than x
  abbrev FirstNotLess : K → List K → Type 0
  FirstNotLess x [] = Unit {0}
  FirstNotLess x (y ∷ ys) = is_lt (cmp y x) ≡ false

  abbrev Rises : List K → Type 0
  Rises [] = Unit {0}
  Rises (x ∷ xs) = FirstNotLess x xs × Rises xs

  -- the elements with one more, before the first that isn't less
  abbrev with_one : K → List K → List K
  with_one x [] = x ∷ []
  with_one x (y ∷ ys) = cond (is_lt (cmp y x)) (y ∷ with_one x ys) (x ∷ y ∷ ys)

  abbrev in_order : List K → List K
  in_order [] = []
  in_order (x ∷ xs) = with_one x (in_order xs)

  first-with_one : (b x : K) (ys : List K) → FirstNotLess b ys → is_lt (cmp x b) ≡ false →
      FirstNotLess b (with_one x ys)
  first-with_one b x [] first low = low
  first-with_one b x (y ∷ ys) first low =
      ⊎_elim
      (λ (t : is_lt (cmp y x) ≡ true). rw t first)
      (λ (t : is_lt (cmp y x) ≡ false). rw t low)
      (cases_Bool (is_lt (cmp y x)))

  rises-with_one : (x : K) (ys : List K) → Rises ys → Rises (with_one x ys)
  rises-with_one x [] rises = (tt, tt)
  rises-with_one x (y ∷ ys) rises =
      ⊎_elim
      (λ (t : is_lt (cmp y x) ≡ true).
      let turned : is_lt (cmp x y) ≡ false = ap (λ o. is_lt o) (total.antisymm x y) ∙ less_reversed (cmp y x) t in
      rw t (first-with_one y x ys rises.0 turned, rises-with_one x ys rises.1))
      (λ (t : is_lt (cmp y x) ≡ false). rw t (t, rises))
      (cases_Bool (is_lt (cmp y x)))

  same-with_one : (x : K) (ys : List K) → IsPermutation (x ∷ ys) (with_one x ys)
  same-with_one x [] = IsPermutation-refl (x ∷ [])
  same-with_one x (y ∷ ys) =
      ⊎_elim
      (λ (t : is_lt (cmp y x) ≡ true).
      let moved : IsPermutation (x ∷ y ∷ ys) (y ∷ x ∷ ys) = IsPermutation-insert (y ∷ ys) 1 x in
      rw t
      (IsPermutation-trans (x ∷ y ∷ ys) (y ∷ x ∷ ys) (y ∷ with_one x ys) moved
      (IsPermutation-cons y (x ∷ ys) (with_one x ys) (same-with_one x ys))))
      (λ (t : is_lt (cmp y x) ≡ false). rw t (IsPermutation-refl (x ∷ y ∷ ys)))
      (cases_Bool (is_lt (cmp y x)))

  rises-in_order : (xs : List K) → Rises (in_order xs)
  rises-in_order [] = tt
  rises-in_order (x ∷ xs) = rises-with_one x (in_order xs) (rises-in_order xs)

  sorted-from_rises : (xs : List K) → Rises xs → IsSorted cmp xs
  sorted-from_rises [] rises k d low high = absurd (omega arith)
  sorted-from_rises (x ∷ []) rises k d low high = absurd (omega arith)
  sorted-from_rises (x ∷ y ∷ xs) rises zero d low high = rises.0
  sorted-from_rises (x ∷ y ∷ xs) rises (suc k) d low high =
      let next : suc k + 1 ≡ suc (k + 1) = omega arith in
      rw next (sorted-from_rises (y ∷ xs) rises.1 k d (omega arith) (omega arith))

  -- a list has the same elements once it is in order
  in_order-same : (xs : List K) → IsPermutation xs (in_order xs)
  in_order-same [] = IsPermutation-refl []
  in_order-same (x ∷ xs) =
      IsPermutation-trans (x ∷ xs) (x ∷ in_order xs) (with_one x (in_order xs))
      (IsPermutation-cons x xs (in_order xs) (in_order-same xs)) (same-with_one x (in_order xs))

  -- and is sorted
  in_order-sorted : (xs : List K) → IsSorted cmp (in_order xs)
  in_order-sorted xs = sorted-from_rises (in_order xs) (rises-in_order xs)

key_cmp-total : IsTotalOrder key_cmp
key_cmp-total =
    then_total (on_total (λ (key : AgeKey). key.birth) int_cmp_total)
    (then_total (on_total (λ (key : AgeKey). key.number) nat_list_cmp_total)
    (on_total (λ (key : AgeKey). key.place) nat_cmp_total))

-- the keys of a book, in age order
abbrev keys_in_order : Book → List AgeKey
keys_in_order book = in_order key_cmp key_cmp-total (map age_key (enumerate_from 0 book))

in_age_order : (book : Book) → IsAgeOrder book (keys_in_order book)
in_age_order book = record {
  same = in_order-same key_cmp key_cmp-total (map age_key (enumerate_from 0 book));
  sorted = in_order-sorted key_cmp key_cmp-total (map age_key (enumerate_from 0 book));
}

-- what there is for each element of a list makes a list
module _ {X Y : Type 0} (P : X → Y → Type 0) where
  abbrev AreChosen : List X → List Y → Type 0
  AreChosen xs ys = (i : ℕ) (x : X) (y : Y) → slice_get xs i ≡ Some x → slice_get ys i ≡ Some y → P x y

  chosen-more : (x : X) (y : Y) (xs : List X) (ys : List Y) → P x y → AreChosen xs ys → AreChosen (x ∷ xs) (y ∷ ys)
  chosen-more x y xs ys p rest zero v w at_x at_y =
      subst (λ z. P z w) (same_Some x v at_x) (subst (λ z. P x z) (same_Some y w at_y) p)
  chosen-more x y xs ys p rest (suc i) v w at_x at_y = rest i v w at_x at_y

  chosen : (xs : List X) → ((i : ℕ) (x : X) → slice_get xs i ≡ Some x → (y : Y) × P x y) →
      (ys : List Y) × (length ys ≡ length xs) × AreChosen xs ys
  chosen [] each = ([], refl, λ i x y at_x at_y. absurd (cc))
  chosen (x ∷ xs) each =
      let first = each 0 x refl in
      let rest = chosen xs (λ i v at. each (suc i) v at) in
      (first.0 ∷ rest.0, ap suc rest.1, chosen-more x first.0 xs rest.0 first.1 rest.2)

-- an animal whose paths are bounded has a longest one
module _ {A : Type 0} (parentage : Parentage A) (x : A) (there : IsTrue (parentage.is_there x)) where
  start : IsTrue (has_path parentage zero x)
  unfolding has_path
  start = there

  depth-within : (n : ℕ) → ((m : ℕ) → IsTrue (has_path parentage m x) → m ≤ n) → (d : ℕ) × IsDepth parentage x d
  depth-within zero bound = (zero, record { reached = start; longest = bound })
  depth-within (suc n) bound =
      ⊎_elim
      (λ (path : has_path parentage (suc n) x ≡ true). (suc n, record { reached = path; longest = bound }))
      (λ (none : has_path parentage (suc n) x ≡ false).
      depth-within n
      (λ m path.
      ⊎_elim
      (λ (more : n < m).
      let most : m ≤ suc n = bound m path in
      let same : m ≡ suc n = omega arith in
      let long : has_path parentage (suc n) x ≡ true = subst (λ k. has_path parentage k x ≡ true) same path in
      absurd (cc))
      (λ le. le)
      (cases_lt n m)))
      (cases_Bool (has_path parentage (suc n) x))

-- a test that an element of a list passes
passes_at : (test : List ℕ → Bool) (xs : List (List ℕ)) (c : ℕ) (x : List ℕ) → slice_get xs c ≡ Some x →
    test x ≡ true → list_any test xs ≡ true
passes_at test [] c x at pass = absurd (cc)
passes_at test (y ∷ ys) zero x at pass = rw (subst (λ z. test z ≡ true) (sym (same_Some y x at)) pass) refl
passes_at test (y ∷ ys) (suc c) x at pass =
    ⊎_elim
    (λ (t : test y ≡ true). rw t refl)
    (λ (t : test y ≡ false). rw t (passes_at test ys c x at pass))
    (cases_Bool (test y))

-- each animal of a shallow book has a depth
depth-exists : (l : ℕ) (book : Book) → IsTrue (is_shallow l book) → (place : ℕ) (x : List ℕ) (animal : Animal) →
    slice_get (keys_of book) place ≡ Some x → record_of book x ≡ Some animal → (n : ℕ) × IsDepthOf book x n
depth-exists l book shallow place x animal at found =
    let parentage : Parentage (List ℕ) = parentage_of book in
    depth-within parentage x (rw found refl) l
    (λ m path.
    ⊎_elim
    (λ (deep : l < m).
    let test : List ℕ → Bool = has_path parentage (l + 1) in
    let longer : test x ≡ true = has_path-le parentage (l + 1) m x (omega arith) path in
    let long : list_any test (keys_of book) ≡ true = passes_at test (keys_of book) place x at longer in
    let short : list_any test (keys_of book) ≡ false = not-true _ shallow in
    absurd (cc))
    (λ le. le)
    (cases_lt l m))

numbers-enumerated : (n : ℕ) (book : Book) →
    map (λ (key : AgeKey). key.number) (map age_key (enumerate_from n book)) ≡ keys_of book
numbers-enumerated n [] = refl
numbers-enumerated n (entry ∷ book) = ap (λ numbers. entry.0 ∷ numbers) (numbers-enumerated (n + 1) book)

module _ (l most : ℕ) (book : Book) (lawful : IsLawful l most book) (keys : List AgeKey)
    (order : IsAgeOrder book keys) where
  abbrev numbers : List (List ℕ)
  numbers = map (λ (key : AgeKey). key.number) keys

  numbers-permuted : IsPermutation (keys_of book) numbers
  numbers-permuted =
      subst (λ (ns : List (List ℕ)). IsPermutation ns numbers) (numbers-enumerated 0 book)
      (IsPermutation-map (λ (key : AgeKey). key.number) (map age_key (enumerate_from 0 book)) keys order.same)

  -- a parent of the book has a rank
  parent-ranked : (parent : Option (List ℕ)) →
      ((p : List ℕ) → parent ≡ Some p → (animal : Animal) × (record_of book p ≡ Some animal)) →
      (rank : Option ℕ) × IsIndexIn numbers rank parent
  parent-ranked None known = (None, tt)
  parent-ranked (Some p) known =
      let its = known p refl in
      let at = place_of book p its.0 its.1 in
      let numbered : slice_get (keys_of book) at.0 ≡ Some p = key_from_entry book at.0 p its.0 at.1 in
      let within : at.0 < length (keys_of book) = slice_get_within (keys_of book) at.0 p numbered in
      let there : Contains (keys_of book) p = (at.0, within, get_or_from_slice_get (keys_of book) at.0 p p numbered) in
      let found : Contains numbers p = Contains-permutation (keys_of book) numbers p numbers-permuted there in
      (Some found.0, slice_get-get_or numbers found.0 p found.1 ∙ ap Some found.2)

  -- each key has a row
  row-exists : (i : ℕ) (key : AgeKey) → slice_get keys i ≡ Some key → (row : Row) × IsRowOf book keys key row
  row-exists i key at =
      let is : IsKeyOf book key = key-at book keys order i key at in
      let animal : Animal = is.animal in
      let found : record_of book key.number ≡ Some animal =
      lookup_at book lawful.once key.place key.number animal is.entry in
      let its : IsLawfulRecord book animal = lawful.records key.number animal found in
      let sire = parent-ranked animal.sire (λ p e. let s = its.sire p e in (s.sire, s.there)) in
      let dam = parent-ranked animal.dam (λ p e. let d = its.dam p e in (d.dam, d.there)) in
      let numbered : slice_get (keys_of book) key.place ≡ Some key.number =
      key_from_entry book key.place key.number animal is.entry in
      let depth = depth-exists l book lawful.shallow key.place key.number animal numbered found in (
        record { number = key.number; animal = animal; sire = sire.0; dam = dam.0; depth = depth.0 },
        record { number = refl; entry = is.entry; sire = sire.1; dam = dam.1; depth = depth.1 },
      )

-- each lawful book has frozen rows
pub frozen-exists : (l most : ℕ) (book : Book) → IsLawful l most book →
    (rows : List Row) × IsFrozenFrom l most book rows
frozen-exists l most book lawful =
    let keys : List AgeKey = keys_in_order book in
    let order : IsAgeOrder book keys = in_age_order book in
    let made = chosen (IsRowOf book keys) keys (row-exists l most book lawful keys order) in
    (made.0, frozen-from book keys made.0 order made.1 made.2 l most lawful)
