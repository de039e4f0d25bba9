-- Animals by their birth days, and their keys.
use Rattle.std.proofs.Common.{ℕ, ◌+◌, ◌<◌, ◌≡◌, arith, refl, sym, ap, ◌∙◌, subst, List, [], ◌∷◌, ◌++◌, Some, length, slice_get, get_or, take, map}
use Rattle.std.specs.List.{enumerate_from}
use Rattle.std.specs.List.Sorted.{IsSortedBy}
use Rattle.std.specs.Map.{keys_of}
use Rattle.std.specs.Ordering.{int_cmp, is_lt}
use Rattle.std.proofs.lemmas.List.{get_or-map, length-map, map-append, take_more}
use Rattle.std.proofs.lemmas.Option.{same_Some, slice_get-map, slice_get_within, get_or_from_slice_get}
use Rattle.herd_frozen.specs.declared.freezing.age_order.AgeKey.{AgeKey}
use Rattle.herd_frozen.specs.declared.freezing.age_order.Born.{Born}
use Rattle.herd_frozen.specs.declared.freezing.rows.RowRecord.{RowRecord}
use Rattle.herd_frozen.specs.rules.Book.{Book}
use Rattle.herd_frozen.specs.freezing.AgeOrder.{AreByDay, key_of}
use Rattle.herd_frozen.specs.freezing.Freeze.{age_key}
use Rattle.herd_frozen.specs.freezing.Rows.{kept_of}
use Rattle.herd_frozen.proofs.lemmas.ListFacts.{there}
use Rattle.herd_frozen.proofs.lemmas.freezing.AgeOrderFacts.{key_among, key_more}
use Rattle.herd_frozen.proofs.lemmas.rules.BookFacts.{key_from_entry}

-- what is kept at a place has the number there
pub kept-number : (book : Book) (i : ℕ) (kept : RowRecord) → slice_get (map kept_of book) i ≡ Some kept → slice_get (keys_of book) i ≡ Some kept.number
kept-number book i kept told =
    let within : i < length book = subst (λ n. i < n) (length-map book kept_of) (slice_get_within (map kept_of book) i kept told) in
    let entry = there book i within in
    let is : kept_of entry.0 ≡ kept = same_Some (kept_of entry.0) kept (sym (slice_get-map kept_of book i ∙ rw entry.1 refl) ∙ told) in
    key_from_entry book i entry.0.0 entry.0.1 entry.1 ∙ ap (λ (k : RowRecord). Some k.number) is

-- one more animal
pub born_more : (book : Book) (i : ℕ) (kept : RowRecord) (births new : List Born) → map (key_of (keys_of book)) births ≡ map age_key (take i (enumerate_from 0 book)) → slice_get (map kept_of book) i ≡ Some kept →
    new ≡ births ++ record { birth = kept.birth; place = i } ∷ [] → map (key_of (keys_of book)) new ≡ map age_key (take (i + 1) (enumerate_from 0 book))
born_more book i kept births new before told push =
    let numbers : List (List ℕ) = keys_of book in
    let born : Born = record { birth = kept.birth; place = i } in
    let number : get_or numbers i [] ≡ kept.number = get_or_from_slice_get numbers i kept.number [] (kept-number book i kept told) in
    let key : key_of numbers born ≡ record { birth = kept.birth; number = kept.number; place = i } = λ j. record { birth = kept.birth; number = number j; place = i } in
    key_more book i kept (map (key_of numbers) births) (map (key_of numbers) new) before told
    (ap (λ (bs : List Born). map (key_of numbers) bs) push ∙ map-append (key_of numbers) births (born ∷ []) ∙ ap (λ (k : AgeKey). map (key_of numbers) births ++ k ∷ []) key)

-- the keys are sorted by their birth days as the animals are
pub keys-by_day : (numbers : List (List ℕ)) (births : List Born) → IsSortedBy (λ (x y : Born). is_lt (int_cmp x.birth y.birth)) births → IsSortedBy (λ (x y : AgeKey). is_lt (int_cmp x.birth y.birth)) (map (key_of numbers) births)
keys-by_day numbers births sorted k d low high =
    let e : Born = record { birth = d.birth; place = d.place } in
    let second : k + 1 < length births = subst (λ n. k + 1 < n) (length-map births (key_of numbers)) high in
    rw (get_or-map (key_of numbers) births k e d (omega (arith, second)), get_or-map (key_of numbers) births (k + 1) e d second) (sorted k e low second)

-- an animal stands in the book
pub place_within : (book : Book) (births : List Born) → AreByDay book births → (i : ℕ) (born : Born) → slice_get births i ≡ Some born → born.place < length book
place_within book births order i born at =
    let key = key_of (keys_of book) in
    let of_key = key_among book (map key births) order.same i (key born) (slice_get-map key births i ∙ rw at refl) in
    slice_get_within book born.place ((key born).number, of_key.animal) of_key.entry

-- and has one more key
pub keys_more : (book : Book) (births : List Born) (i : ℕ) (born : Born) (kept : RowRecord) (keys new : List AgeKey) → slice_get births i ≡ Some born → slice_get (map kept_of book) born.place ≡ Some kept → keys ≡ map (key_of (keys_of book)) (take i births) →
    new ≡ keys ++ record { birth = born.birth; number = kept.number; place = born.place } ∷ [] → new ≡ map (key_of (keys_of book)) (take (i + 1) births)
keys_more book births i born kept keys new at told before push =
    let numbers : List (List ℕ) = keys_of book in
    let key = key_of numbers in
    let within : i < length births = slice_get_within births i born at in
    let number : get_or numbers born.place [] ≡ kept.number = get_or_from_slice_get numbers born.place kept.number [] (kept-number book born.place kept told) in
    let same : record { birth = born.birth; number = kept.number; place = born.place } ≡ key born = λ j. record { birth = born.birth; number = (sym number) j; place = born.place } in
    let more : take (i + 1) births ≡ take i births ++ born ∷ [] = take_more births i born within ∙ ap (λ b. take i births ++ b ∷ []) (get_or_from_slice_get births i born born at) in
    push ∙ (λ j. before j ++ same j ∷ []) ∙ sym (map-append key (take i births) (born ∷ [])) ∙ ap (λ bs. map key bs) (sym more)
