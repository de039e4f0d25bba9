-- The keys of a book in age order.
use Rattle.std.proofs.Common.{ℕ, ◌+◌, ◌<◌, ◌≤◌, ◌≡◌, ⊎_elim, false, All, arith, refl, sym, ap, ◌∙◌, subst, List, [], ◌∷◌, ◌++◌, Some, length, slice_get, get_or, take, map}
use Rattle.std.specs.Prelude.{◌<ℤ◌, IsPermutation}
use Rattle.std.specs.Cmp.{IsStrictWeakOrder, int_cmp_is}
use Rattle.std.specs.declared.cmp.Ordering.{Ordering}
use Rattle.std.specs.declared.cmp.Ordering.TheVariants.{Less, Equal, Greater}
use Rattle.std.specs.List.Sorted.{IsSortedBy}
use Rattle.std.specs.Ordering.{int_cmp, is_lt, ordering_then}
use Rattle.std.specs.List.{enumerate_from, range_with_len}
use Rattle.std.proofs.lemmas.Option.{same_Some, slice_get-map, slice_get_within, get_or_from_slice_get}
use Rattle.std.proofs.lemmas.Bool.{cases_lt}
use Rattle.std.proofs.lemmas.Cmp.{int_cmp_total}
use Rattle.std.proofs.lemmas.List.{length-map, take_more, map-append}
use Rattle.std.proofs.lemmas.List.Elements.{All-get_or, All-map}
use Rattle.std.proofs.lemmas.List.Sorted.{All-permutation, IsPermutation-map, length_permutation, ranks_by, sorted_far}
use Rattle.std.proofs.lemmas.List.FromFn.{length-enumerate_from, get_or-enumerate_from}
use Rattle.herd_frozen.specs.declared.rules.animal.Animal.{Animal}
use Rattle.herd_frozen.specs.declared.freezing.age_order.AgeKey.{AgeKey}
use Rattle.herd_frozen.specs.declared.freezing.rows.RowRecord.{RowRecord}
use Rattle.herd_frozen.specs.rules.Book.{Book}
use Rattle.herd_frozen.specs.freezing.Freeze.{IsAgeOrder, age_key, places_of}
use Rattle.herd_frozen.specs.freezing.Rows.{kept_of}
use Rattle.herd_frozen.proofs.lemmas.ListFacts.{there}

-- a comparison that begins with another is no less where that one isn't
first_not_less : (first rest : Ordering) → is_lt (ordering_then first rest) ≡ false → is_lt first ≡ false
first_not_less Less rest e = e
first_not_less Equal rest e = refl
first_not_less Greater rest e = refl

-- one more key
pub key_more : (book : Book) (i : ℕ) (kept : RowRecord) (keys new : List AgeKey) → keys ≡ map age_key (take i (enumerate_from 0 book)) → slice_get (map kept_of book) i ≡ Some kept →
    new ≡ keys ++ record { birth = kept.birth; number = kept.number; place = i } ∷ [] → new ≡ map age_key (take (i + 1) (enumerate_from 0 book))
key_more book i kept keys new before told push =
    let entries : List (ℕ × (List ℕ × Animal)) = enumerate_from 0 book in
    let h : i < length book = subst (λ n. i < n) (length-map book kept_of) (slice_get_within (map kept_of book) i kept told) in
    let w : i < length entries = subst (λ n. i < n) (sym (length-enumerate_from 0 book)) h in
    let entry = there book i h in
    let is : kept_of entry.0 ≡ kept = same_Some (kept_of entry.0) kept (sym (slice_get-map kept_of book i ∙ rw entry.1 refl) ∙ told) in
    let d : ℕ × (List ℕ × Animal) = (0, entry.0) in
    let zero_more : 0 + i ≡ i = omega arith in
    let item : get_or entries i d ≡ (i, entry.0) =
    get_or-enumerate_from 0 book i d h ∙ (λ j. (zero_more j, get_or_from_slice_get book i entry.0 entry.0 entry.1 j)) in
    let more : take (i + 1) entries ≡ take i entries ++ (i, entry.0) ∷ [] = take_more entries i d w ∙ ap (λ e. take i entries ++ e ∷ []) item in
    let same : record { birth = kept.birth; number = kept.number; place = i } ≡ age_key (i, entry.0) = λ j. record { birth = (sym is j).birth; number = (sym is j).number; place = i } in
    push ∙ (λ j. before j ++ same j ∷ []) ∙ sym (map-append age_key (take i entries) ((i, entry.0) ∷ [])) ∙ ap (λ l. map age_key l) (sym more)

-- a key is that of the record at its place
pub record IsKeyOf (book : Book) (key : AgeKey) : Type 0 where
  pub animal : Animal
  pub entry : slice_get book key.place ≡ Some (key.number, animal)
  pub birth : key.birth ≡ animal.birth

keys-of_enumerated : (book : Book) → All (IsKeyOf book) (map age_key (enumerate_from 0 book))
keys-of_enumerated book =
    All-map (IsKeyOf book) age_key (enumerate_from 0 book)
    (λ k d h.
    let within : k < length book = subst (λ n. k < n) (length-enumerate_from 0 book) h in
    let entry = there book k within in
    let zero_more : 0 + k ≡ k = omega arith in
    let item : get_or (enumerate_from 0 book) k d ≡ (k, entry.0) =
    get_or-enumerate_from 0 book k d within ∙ (λ j. (zero_more j, get_or_from_slice_get book k entry.0 d.1 entry.1 j)) in
    rw item (record { animal = entry.0.1; entry = entry.1; birth = refl }))

-- so is each of the same keys in another order
pub key_among : (book : Book) (keys : List AgeKey) → IsPermutation (map age_key (enumerate_from 0 book)) keys → (i : ℕ) (key : AgeKey) → slice_get keys i ≡ Some key → IsKeyOf book key
key_among book keys same i key at =
    subst (IsKeyOf book) (get_or_from_slice_get keys i key key at)
    (All-get_or (IsKeyOf book) keys i key (slice_get_within keys i key at)
    (All-permutation (IsKeyOf book) (map age_key (enumerate_from 0 book)) keys same (keys-of_enumerated book)))

module _ (book : Book) (keys : List AgeKey) (order : IsAgeOrder book keys) where
  pub length-keys : length keys ≡ length book
  length-keys =
      length_permutation (map age_key (enumerate_from 0 book)) keys order.same
      ∙ length-map (enumerate_from 0 book) age_key
      ∙ length-enumerate_from 0 book

  pub key-at : (i : ℕ) (key : AgeKey) → slice_get keys i ≡ Some key → IsKeyOf book key
  key-at = key_among book keys order.same

  -- an older animal stands before
  pub older-before : (i j : ℕ) (x y : AgeKey) → slice_get keys i ≡ Some x → slice_get keys j ≡ Some y → x.birth <ℤ y.birth → i < j
  older-before i j x y at_i at_j older =
      ⊎_elim
      (λ (before : i < j). before)
      (λ (after : j ≤ i).
      let weak : IsStrictWeakOrder (λ (a b : AgeKey). is_lt (int_cmp a.birth b.birth)) = ranks_by int_cmp_total (λ (key : AgeKey). key.birth) in
      let far : is_lt (int_cmp (get_or keys i x).birth (get_or keys j x).birth) ≡ false =
      sorted_far (λ (a b : AgeKey). is_lt (int_cmp a.birth b.birth)) weak keys births-sorted j i x after (slice_get_within keys i x at_i) in
      let here : is_lt (int_cmp x.birth y.birth) ≡ false = rw (get_or_from_slice_get keys i x x at_i, get_or_from_slice_get keys j y x at_j) at far in
      let less : Less ≡ int_cmp x.birth y.birth = int_cmp_is x.birth y.birth Less older in
      absurd (cc))
      (cases_lt i j)
    where
      births-sorted : IsSortedBy (λ (a b : AgeKey). is_lt (int_cmp a.birth b.birth)) keys
      births-sorted k d low high = first_not_less _ _ (order.sorted k d low high)

places-enumerated : (n : ℕ) (book : Book) → map (λ key. key.place) (map age_key (enumerate_from n book)) ≡ range_with_len n (length book)
places-enumerated n [] = refl
places-enumerated n (entry ∷ book) = ap (λ places. n ∷ places) (places-enumerated (n + 1) book)

-- the keys' places are all the places
pub places-all : (book : Book) (keys : List AgeKey) → IsAgeOrder book keys → IsPermutation (range_with_len 0 (length keys)) (places_of keys)
places-all book keys order =
    let numbered : map (λ (key : AgeKey). key.place) (map age_key (enumerate_from 0 book)) ≡ range_with_len 0 (length keys) =
    places-enumerated 0 book ∙ ap (λ n. range_with_len 0 n) (sym (length-keys book keys order)) in
    subst (λ places. IsPermutation places (places_of keys)) numbered
    (IsPermutation-map (λ (key : AgeKey). key.place) (map age_key (enumerate_from 0 book)) keys order.same)
