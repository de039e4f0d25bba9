-- The links of a book, from the places of its numbers.
use Rattle.std.proofs.Common.{ℕ, ◌+◌, ◌<◌, ◌≤◌, ◌≡◌, ⊎_elim, arith, refl, sym, ap, ◌∙◌, subst, true, false, cond, List, Option, Some, None, slice_get}
use Rattle.std.specs.List.{IsDistinct}
use Rattle.std.specs.Map.{keys_of}
use Rattle.std.specs.Option.{option_and_then}
use Rattle.std.specs.Str.{bytes_eq}
use Rattle.std.proofs.lemmas.Bool.{cases_lt}
use Rattle.std.proofs.lemmas.Cmp.{nat_list_eq_equiv}
use Rattle.std.proofs.lemmas.Map.Keys.{apart_from_distinct}
use Rattle.std.proofs.lemmas.Option.{get_or_from_slice_get, same_Some, slice_get_within}
use Rattle.herd_frozen.specs.declared.rules.animal.Animal.{Animal}
use Rattle.herd_frozen.specs.rules.Book.{Book, record_of}
use Rattle.herd_frozen.specs.freezing.Freeze.{FindsPlaces, link_by}
use Rattle.herd_frozen.specs.rules.Lawful.{IsLawfulRecord}
use Rattle.herd_frozen.specs.places.Places.{IsIndexIn}
use Rattle.herd_frozen.specs.places.Links.{IsLinkAt}
use Rattle.herd_frozen.specs.freezing.Listed.{IsListed}
use Rattle.herd_frozen.proofs.lemmas.rules.BookFacts.{bytes_itself, key_from_entry, lookup_at, place_of}

-- what is found under the numbers before i is their places
abbrev pub FindsPlacesBelow : List (List ℕ) → (List ℕ → Option ℕ) → ℕ → Type 0
FindsPlacesBelow numbers find i = (place : ℕ) (number : List ℕ) → place < i → slice_get numbers place ≡ Some number → find number ≡ Some place

-- one more place
pub places-more : (numbers : List (List ℕ)) → IsDistinct bytes_eq numbers → (old new : List ℕ → Option ℕ) (i : ℕ) (number : List ℕ) → slice_get numbers i ≡ Some number →
    ((q : List ℕ) → new q ≡ cond (bytes_eq number q) (Some i) (old q)) → FindsPlacesBelow numbers old i → FindsPlacesBelow numbers new (i + 1)
places-more numbers once old new i number at update below place other le here =
    ⊎_elim
    (λ (earlier : place < i).
    let apart : bytes_eq other number ≡ false =
    rw (get_or_from_slice_get numbers place other other here, get_or_from_slice_get numbers i number other at) at (apart_from_distinct bytes_eq numbers place i other once earlier (slice_get_within numbers i number at)) in
    let turned : bytes_eq number other ≡ false = nat_list_eq_equiv.symm number other ∙ apart in
    update other ∙ rw turned (below place other earlier here))
    (λ (last : i ≤ place).
    let same_place : place ≡ i = omega arith in
    let same : number ≡ other = same_Some number other (sym at ∙ ap (λ n. slice_get numbers n) (sym same_place) ∙ here) in
    let itself : bytes_eq number other ≡ true = subst (λ (x : List ℕ). bytes_eq number x ≡ true) same (bytes_itself number) in
    update other ∙ rw itself (ap Some (sym same_place)))
    (cases_lt place i)

-- the place that is found for a parent of the book is its place
parent-placed : (book : Book) (find : List ℕ → Option ℕ) → FindsPlaces (keys_of book) find → (parent : Option (List ℕ)) → ((p : List ℕ) → parent ≡ Some p → (animal : Animal) × (record_of book p ≡ Some animal)) →
    IsIndexIn (keys_of book) (option_and_then find parent) parent
parent-placed book find finds None known = tt
parent-placed book find finds (Some p) known =
    let record_known = known p refl in
    let at = place_of book p record_known.0 record_known.1 in
    let numbered : slice_get (keys_of book) at.0 ≡ Some p = key_from_entry book at.0 p record_known.0 at.1 in
    rw (finds at.0 p numbered) numbered

-- the link that is made of the places found is that of the record
pub link-found : (l most : ℕ) (book : Book) (find : List ℕ → Option ℕ) → IsListed l most book find → (place : ℕ) (entry : List ℕ × Animal) → slice_get book place ≡ Some entry → IsLinkAt book place (link_by find entry.1)
link-found l most book find listed place entry at =
    let lawful : IsLawfulRecord book entry.1 = listed.lawful.records entry.0 entry.1 (lookup_at book listed.lawful.once place entry.0 entry.1 at) in
    let same : (other : List ℕ × Animal) → slice_get book place ≡ Some other → entry.1 ≡ other.1 = λ other there. ap (λ (e : List ℕ × Animal). e.1) (same_Some entry other (sym at ∙ there)) in
    record {
      sire = λ other there.
          subst (λ (a : Animal). IsIndexIn (keys_of book) (option_and_then find entry.1.sire) a.sire) (same other there)
          (parent-placed book find listed.finds entry.1.sire (λ p e. let sire = lawful.sire p e in (sire.sire, sire.there)));
      dam = λ other there.
          subst (λ (a : Animal). IsIndexIn (keys_of book) (option_and_then find entry.1.dam) a.dam) (same other there)
          (parent-placed book find listed.finds entry.1.dam (λ p e. let dam = lawful.dam p e in (dam.dam, dam.there)));
    }
