-- What is found among the records of a copy.
use Rattle.std.proofs.Common.{◌≡◌, ◌∙◌, ◌+◌, ◌<◌, ◌≤◌, ⊎_elim, arith, refl, sym, subst, false, true, ℕ, List, IfSome, IsTrue, Option, Some, None, length, slice_get}
use Rattle.std.specs.Map.{keys_of}
use Rattle.std.specs.Str.{bytes_eq}
use Rattle.std.proofs.lemmas.Bool.{cases_lt, false_from_ne_true}
use Rattle.std.proofs.lemmas.Option.{same_Some, slice_get_within}
use Rattle.herd_frozen.specs.declared.TheConstants.{DEPTH_LIMIT, MOST_ANIMALS}
use Rattle.herd_frozen.specs.declared.rules.animal.Animal.{Animal}
use Rattle.herd_frozen.specs.rules.Book.{Book, is_there, record_of}
use Rattle.herd_frozen.specs.rules.Lawful.{IsLawful}
use Rattle.herd_frozen.proofs.lemmas.ListFacts.{is_some_with, some_is}
use Rattle.herd_frozen.proofs.lemmas.rules.BookFacts.{bytes_itself, key_from_entry, length-keys, lookup_at, place_of}
use Rattle.herd_pedigree.specs.store.Ancestors.{HasAncestors, records_at}
use Rattle.herd_pedigree.proofs.lemmas.store.AncestorFacts.{ancestors-named, ancestors-part}
use Rattle.herd_office.specs.Copies.{IsPartWith}

-- the number stands at no place from this one on
pub record IsNotFrom (book : Book) (number : List ℕ) (from : ℕ) : Type 0 where
  pub none : (place : ℕ) → from ≤ place → slice_get (keys_of book) place ≡ Some number → ⊥

pub not_from-end : (book : Book) (number : List ℕ) (end : ℕ) → end ≡ length book → IsNotFrom book number end
not_from-end book number end is = record {
  none = λ place low at.
      let within = slice_get_within (keys_of book) place number at in
      let all = length-keys book in
      absurd (omega (arith, low, within, all, is));
}

pub not_from-next : (book : Book) (number : List ℕ) (place : ℕ) (entry : List ℕ × Animal) → slice_get book place ≡ Some entry → bytes_eq entry.0 number ≡ false → IsNotFrom book number (place + 1)
    → IsNotFrom book number place
not_from-next book number place entry here other rest = record {
  none = λ p low at.
      ⊎_elim
      (λ (before : p < place + 1).
      let same : p ≡ place = omega (arith, low, before) in
      let key : slice_get (keys_of book) place ≡ Some number = subst (λ q. slice_get (keys_of book) q ≡ Some number) same at in
      let is : entry.0 ≡ number = same_Some _ _ (sym (key_from_entry book place entry.0 entry.1 here) ∙ key) in
      let found : bytes_eq entry.0 number ≡ true = subst (λ k. bytes_eq entry.0 k ≡ true) is (bytes_itself entry.0) in
      absurd (cc))
      (λ (later : place + 1 ≤ p). rest.none p later at)
      (cases_lt p (place + 1));
}

pub absent_from : (book : Book) (number : List ℕ) → IsNotFrom book number 0 → is_there book number ≡ false
absent_from book number not =
    false_from_ne_true _
    (λ there.
    let a = is_some_with (record_of book number) there in
    let at = place_of book number a.0 a.1 in
    absurd (not.none at.0 (omega arith) (key_from_entry book at.0 number a.0 at.1)))

if_known : (parent : Option (List ℕ)) (P : List ℕ → Type 0) → ((number : List ℕ) → parent ≡ Some number → P number) → IfSome parent P
if_known None P each = tt
if_known (Some number) P each = each number refl

-- the known parents of an animal are in the book
module _ (book : Book) (lawful : IsLawful DEPTH_LIMIT MOST_ANIMALS book) (place : ℕ) (entry : List ℕ × Animal) (at : slice_get book place ≡ Some entry) where
  pub sire_there : IfSome entry.1.sire (λ number. IsTrue (is_there book number))
  sire_there =
      let its = lawful.records entry.0 entry.1 (lookup_at book lawful.once place entry.0 entry.1 at) in
      if_known entry.1.sire (λ number. IsTrue (is_there book number)) (λ number is. let sire = its.sire number is in some_is (record_of book number) sire.sire sire.there)

  pub dam_there : IfSome entry.1.dam (λ number. IsTrue (is_there book number))
  dam_there =
      let its = lawful.records entry.0 entry.1 (lookup_at book lawful.once place entry.0 entry.1 at) in
      if_known entry.1.dam (λ number. IsTrue (is_there book number)) (λ number is. let dam = its.dam number is in some_is (record_of book number) dam.dam dam.there)

-- the records of animals and all their known ancestors
pub part_with : (book : Book) (numbers : List (List ℕ)) (places : List ℕ) → IsLawful DEPTH_LIMIT MOST_ANIMALS book → HasAncestors book numbers places
    → (part : Book) → part ≡ records_at book places → IsPartWith book numbers part
part_with book numbers places lawful has part is =
    subst (λ p. IsPartWith book numbers p) (sym is)
    (record {
      lawful = lawful;
      is_part = ancestors-part DEPTH_LIMIT MOST_ANIMALS book lawful numbers places has;
      named = ancestors-named DEPTH_LIMIT MOST_ANIMALS book lawful numbers places has;
    })
