-- The rows of all keys are a frozen book.
use Rattle.std.proofs.Common.{ℕ, ◌+◌, ◌<◌, ◌≡◌, arith, refl, sym, ap, ◌∙◌, subst, false, List, [], Some, None, pos, length, slice_get, get_or, map}
use Rattle.std.specs.Prelude.{IsPermutation, IsSorted}
use Rattle.std.specs.List.{IsDistinct, enumerate_from}
use Rattle.std.specs.declared.cmp.Ordering.{Ordering}
use Rattle.std.specs.declared.cmp.Ordering.TheVariants.{Less, Equal, Greater}
use Rattle.std.specs.Cmp.Lexicographic.{slice_cmp}
use Rattle.std.specs.Map.{keys_of}
use Rattle.std.specs.Ordering.{int_cmp, is_lt, nat_cmp, ordering_then}
use Rattle.std.specs.Str.{bytes_eq}
use Rattle.std.proofs.lemmas.List.{get_or_default, get_or-map, length-map, same_lists}
use Rattle.std.proofs.lemmas.List.FromFn.{length-enumerate_from, get_or-enumerate_from}
use Rattle.std.proofs.lemmas.List.Sorted.{IsPermutation-map}
use Rattle.std.proofs.lemmas.Option.{get_or_from_slice_get, same_Some, slice_get_within}
use Rattle.herd_frozen.specs.declared.rules.animal.Animal.{Animal}
use Rattle.herd_frozen.specs.declared.freezing.age_order.AgeKey.{AgeKey}
use Rattle.herd_frozen.specs.declared.freezing.frozen.Row.{Row}
use Rattle.herd_frozen.specs.rules.Book.{Book}
use Rattle.herd_frozen.specs.freezing.Frozen.{IsFrozenFrom, IsFrozenRow, age_cmp, book_of, numbers_of}
use Rattle.herd_frozen.specs.freezing.Freeze.{AreRows, IsAgeOrder, IsRowOf, age_key, key_cmp}
use Rattle.herd_frozen.specs.rules.Lawful.{IsLawful}
use Rattle.herd_frozen.specs.places.Places.{IsIndexIn}
use Rattle.herd_frozen.proofs.lemmas.freezing.AgeOrderFacts.{IsKeyOf, key-at}
use Rattle.herd_frozen.proofs.lemmas.ListFacts.{there}
use Rattle.herd_frozen.proofs.lemmas.rules.PermutedFacts.{IsDepthOf-permuted, IsLawful-permuted}

-- two comparisons are no less where a third decides only after them
first_two_not_less : (first second rest : Ordering) → is_lt (ordering_then first (ordering_then second rest)) ≡ false → is_lt (ordering_then first second) ≡ false
first_two_not_less Less second rest e = e
first_two_not_less Greater second rest e = refl
first_two_not_less Equal Less rest e = e
first_two_not_less Equal Equal rest e = refl
first_two_not_less Equal Greater rest e = refl

-- an entry to read where there is none
no_entry : List ℕ × Animal
no_entry = ([], record { birth = pos 0; sire = None; dam = None; embryo = false; herd = 0; since = pos 0; left = None })

abbrev entry_of : Book → AgeKey → List ℕ × Animal
entry_of book key = get_or book key.place no_entry

-- the entries of the enumerated keys are the book
entries-enumerated : (book : Book) → map (entry_of book) (map age_key (enumerate_from 0 book)) ≡ book
entries-enumerated book =
    let entries : List (ℕ × (List ℕ × Animal)) = enumerate_from 0 book in
    let long : length (map (entry_of book) (map age_key entries)) ≡ length book =
    length-map (map age_key entries) (entry_of book) ∙ length-map entries age_key ∙ length-enumerate_from 0 book in
    same_lists (map (entry_of book) (map age_key entries)) book long
    (λ k d h.
    let e : ℕ × (List ℕ × Animal) = (0, d) in
    let within : k < length book = subst (λ n. k < n) long h in
    let in_entries : k < length entries = subst (λ n. k < n) (sym (length-enumerate_from 0 book)) within in
    let in_keys : k < length (map age_key entries) = subst (λ n. k < n) (sym (length-map entries age_key)) in_entries in
    let zero_more : 0 + k ≡ k = omega arith in
    get_or-map (entry_of book) (map age_key entries) k (age_key e) d in_keys
    ∙ ap (λ key. entry_of book key) (get_or-map age_key entries k e (age_key e) in_entries)
    ∙ ap (λ x. get_or book x.0 no_entry) (get_or-enumerate_from 0 book k e within)
    ∙ ap (λ n. get_or book n no_entry) zero_more
    ∙ get_or_default book k no_entry d within)

-- a later key has a later entry
age-from_key : (x y : List ℕ × Animal) (key other : AgeKey) → x.0 ≡ key.number → x.1.birth ≡ key.birth → y.0 ≡ other.number → y.1.birth ≡ other.birth → is_lt (key_cmp key other) ≡ false → is_lt (age_cmp x y) ≡ false
age-from_key x y key other xn xb yn yb e =
    rw (xn, xb, yn, yb) (first_two_not_less (int_cmp key.birth other.birth) (slice_cmp nat_cmp key.number other.number) (nat_cmp key.place other.place) e)

module _ (book : Book) (keys : List AgeKey) (rows : List Row) (order : IsAgeOrder book keys) (long : length rows ≡ length keys) (made : AreRows book keys rows) where
  -- a row with its key
  record IsRowAt (i : ℕ) : Type 0 where
    pub key : AgeKey
    pub row : Row
    pub key_at : slice_get keys i ≡ Some key
    pub row_at : slice_get rows i ≡ Some row
    pub is : IsRowOf book keys key row

  at : (i : ℕ) → i < length rows → IsRowAt i
  at i within =
      let row = there rows i within in
      let key = there keys i (subst (λ n. i < n) long within) in
      record { key = key.0; row = row.0; key_at = key.1; row_at = row.1; is = made i key.0 row.0 key.1 row.1 }

  entry-at : (i : ℕ) (a : IsRowAt i) (d : List ℕ × Animal) → get_or (book_of rows) i d ≡ (a.row.number, a.row.animal)
  entry-at i a d =
      get_or-map (λ (row : Row). (row.number, row.animal)) rows i a.row d (slice_get_within rows i a.row a.row_at)
      ∙ ap (λ (row : Row). (row.number, row.animal)) (get_or_from_slice_get rows i a.row a.row a.row_at)

  birth-at : (i : ℕ) (a : IsRowAt i) → a.row.animal.birth ≡ a.key.birth
  birth-at i a =
      let key : IsKeyOf book a.key = key-at book keys order i a.key a.key_at in
      let same : (a.row.number, a.row.animal) ≡ (a.key.number, key.animal) = same_Some _ _ (sym a.is.entry ∙ key.entry) in
      ap (λ (entry : List ℕ × Animal). entry.1.birth) same ∙ sym key.birth

  book_of-made : book_of rows ≡ map (entry_of book) keys
  book_of-made =
      let rows_long : length (book_of rows) ≡ length rows = length-map rows (λ (row : Row). (row.number, row.animal)) in
      same_lists (book_of rows) (map (entry_of book) keys) (rows_long ∙ long ∙ sym (length-map keys (entry_of book)))
      (λ i d h.
      let within : i < length rows = subst (λ n. i < n) rows_long h in
      let a = at i within in
      let read : get_or (map (entry_of book) keys) i d ≡ entry_of book a.key =
      get_or-map (entry_of book) keys i a.key d (subst (λ n. i < n) long within) ∙ ap (λ key. entry_of book key) (get_or_from_slice_get keys i a.key a.key a.key_at) in
      entry-at i a d ∙ sym (read ∙ get_or_from_slice_get book a.key.place (a.row.number, a.row.animal) no_entry a.is.entry))

  permuted : IsPermutation book (book_of rows)
  permuted =
      let moved : IsPermutation (map (entry_of book) (map age_key (enumerate_from 0 book))) (map (entry_of book) keys) =
      IsPermutation-map (entry_of book) (map age_key (enumerate_from 0 book)) keys order.same in
      let back : IsPermutation book (map (entry_of book) keys) = subst (λ (entries : Book). IsPermutation entries (map (entry_of book) keys)) (entries-enumerated book) moved in
      subst (λ (entries : Book). IsPermutation book entries) (sym book_of-made) back

  numbers-made : numbers_of rows ≡ map (λ (key : AgeKey). key.number) keys
  numbers-made =
      let rows_long : length (numbers_of rows) ≡ length rows = length-map rows (λ (row : Row). row.number) in
      same_lists (numbers_of rows) (map (λ (key : AgeKey). key.number) keys) (rows_long ∙ long ∙ sym (length-map keys (λ (key : AgeKey). key.number)))
      (λ i d h.
      let within : i < length rows = subst (λ n. i < n) rows_long h in
      let a = at i within in
      let read : get_or (map (λ (key : AgeKey). key.number) keys) i d ≡ a.key.number =
      get_or-map (λ (key : AgeKey). key.number) keys i a.key d (subst (λ n. i < n) long within) ∙ ap (λ (key : AgeKey). key.number) (get_or_from_slice_get keys i a.key a.key a.key_at) in
      get_or-map (λ (row : Row). row.number) rows i a.row d within
      ∙ ap (λ (row : Row). row.number) (get_or_from_slice_get rows i a.row a.row a.row_at)
      ∙ a.is.number
      ∙ sym read)

  sorted : IsSorted age_cmp (book_of rows)
  sorted k d low high =
      let rows_long : length (book_of rows) ≡ length rows = length-map rows (λ (row : Row). (row.number, row.animal)) in
      let older = at k (omega arith) in
      let younger = at (k + 1) (omega arith) in
      let keys_high : k + 1 < length keys = omega arith in
      let keys_sorted : is_lt (key_cmp younger.key older.key) ≡ false =
      rw (get_or_from_slice_get keys (k + 1) younger.key older.key younger.key_at, get_or_from_slice_get keys k older.key older.key older.key_at) at (order.sorted k older.key low keys_high) in
      rw (entry-at (k + 1) younger d, entry-at k older d)
      (age-from_key (younger.row.number, younger.row.animal) (older.row.number, older.row.animal) younger.key older.key
      younger.is.number (birth-at (k + 1) younger) older.is.number (birth-at k older) keys_sorted)

  row-frozen : IsDistinct bytes_eq (keys_of book) → (rank : ℕ) (row : Row) → slice_get rows rank ≡ Some row → IsFrozenRow rows row
  row-frozen once rank row row_at =
      let key = there keys rank (subst (λ n. rank < n) long (slice_get_within rows rank row row_at)) in
      let is : IsRowOf book keys key.0 row = made rank key.0 row key.1 row_at in
      record {
        sire = subst (λ (numbers : List (List ℕ)). IsIndexIn numbers row.sire row.animal.sire) (sym numbers-made) is.sire;
        dam = subst (λ (numbers : List (List ℕ)). IsIndexIn numbers row.dam row.animal.dam) (sym numbers-made) is.dam;
        depth = IsDepthOf-permuted book (book_of rows) once permuted row.number row.depth is.depth;
      }

  -- the rows are the frozen book
  pub frozen-from : (l most : ℕ) → IsLawful l most book → IsFrozenFrom l most book rows
  frozen-from l most lawful = record {
    frozen = record {
      lawful = IsLawful-permuted l most book (book_of rows) permuted lawful;
      sorted = sorted;
      each = row-frozen lawful.once;
    };
    same = permuted;
  }
