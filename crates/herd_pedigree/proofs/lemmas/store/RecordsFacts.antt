-- Entries with the places of parents, and the book of them.
use Rattle.std.proofs.Common.{ℕ, zero, suc, ◌+◌, ◌<◌, ◌≡◌, ⊎_elim, arith, refl, sym, ap, ◌∙◌, subst, Bool, true, false, List, [], ◌∷◌, ◌++◌, is_some, Option, Some, None, IfSome, IsSome, length, slice_get, option_to_list}
use Rattle.std.specs.List.{IsDistinct}
use Rattle.std.specs.Map.{keys_of, values_of, lookup}
use Rattle.std.specs.Option.{option_map}
use Rattle.std.specs.Str.{bytes_eq}
use Rattle.std.proofs.lemmas.Bool.{cases_Bool, false≢true}
use Rattle.std.proofs.lemmas.List.{append-nil, length_push, map_push}
use Rattle.std.proofs.lemmas.Option.{same_Some, slice_get_within}
use Rattle.herd_frozen.specs.declared.rules.animal.Animal.{Animal}
use Rattle.herd_pedigree.specs.declared.store.records.StoredRecord.{StoredRecord}
use Rattle.herd_frozen.specs.places.Links.{IsLinkAt}
use Rattle.herd_frozen.specs.places.Places.{AreParents, IsIndexIn, number_at, parent_at}
use Rattle.herd_frozen.specs.rules.Book.{Book, changed, with_parents}
use Rattle.herd_pedigree.specs.store.Records.{AreClosed, IsStoredAt, NamesItsOwn, StandAmong, stored_book, book_with, animal_of, set_value_at, stored_of}
use Rattle.herd_pedigree.specs.store.Undo.{without_last}
use Rattle.herd_frozen.proofs.lemmas.rules.BookFacts.{keys-push, length-keys, stands_once}
use Rattle.herd_frozen.proofs.lemmas.ListFacts.{entry_from_value, entry_from_both, is_some_with, push_cases, push_keeps, there}
use Rattle.herd_frozen.proofs.lemmas.places.NumberFacts.{further, number_at-place, number_at-push, place-within}
use Rattle.herd_pedigree.proofs.lemmas.store.SetFacts.{keys-set, length-set-at, set-changed, set_value-cases}
use Rattle.herd_pedigree.proofs.lemmas.store.ListFacts.{nil_unless, without_last-push}

module _ (numbers : List (List ℕ)) where
  pub keys-book_with : (es : List (List ℕ × StoredRecord)) → keys_of (book_with numbers es) ≡ keys_of es
  keys-book_with [] = refl
  keys-book_with (e ∷ es) = ap (λ ks. e.0 ∷ ks) (keys-book_with es)

  -- the record at a place
  pub value-book_with : (es : List (List ℕ × StoredRecord)) (i : ℕ) (e : StoredRecord) → slice_get (values_of es) i ≡ Some e → slice_get (values_of (book_with numbers es)) i ≡ Some (animal_of numbers e)
  value-book_with [] i e at = absurd (cc)
  value-book_with (first ∷ es) zero e at = ap (λ v. Some (animal_of numbers v)) (same_Some _ _ at)
  value-book_with (first ∷ es) (suc i) e at = value-book_with es i e at

  -- the number and the record at a place
  pub entry-book_with : (es : List (List ℕ × StoredRecord)) (i : ℕ) → slice_get (book_with numbers es) i ≡ option_map (λ e. (e.0, animal_of numbers e.1)) (slice_get es i)
  entry-book_with [] i = refl
  entry-book_with (e ∷ es) zero = refl
  entry-book_with (e ∷ es) (suc i) = entry-book_with es i

  -- the record of a number
  pub lookup-book_with : (test : List ℕ → Bool) (es : List (List ℕ × StoredRecord)) → lookup test (book_with numbers es) ≡ option_map (animal_of numbers) (lookup test es)
  lookup-book_with test [] = refl
  lookup-book_with test (e ∷ es) =
      ⊎_elim
      (λ (t : test e.0 ≡ true). rw t refl)
      (λ (t : test e.0 ≡ false). rw t (lookup-book_with test es))
      (cases_Bool (test e.0))

  pub set-book_with : (es : List (List ℕ × StoredRecord)) (i : ℕ) (e : StoredRecord) → book_with numbers (set_value_at es i e) ≡ set_value_at (book_with numbers es) i (animal_of numbers e)
  set-book_with [] i e = refl
  set-book_with (first ∷ es) zero e = refl
  set-book_with (first ∷ es) (suc i) e = ap (λ book. (first.0, animal_of numbers first.1) ∷ book) (set-book_with es i e)

  pub animal_of-push : (x : List ℕ) (e : StoredRecord) → IfSome e.sire (λ p. p < length numbers) → IfSome e.dam (λ p. p < length numbers) → animal_of (numbers ++ x ∷ []) e ≡ animal_of numbers e
  animal_of-push x e s d = λ i. record (animal_of numbers e) { sire = number_at-push numbers x e.sire s i; dam = number_at-push numbers x e.dam d i }

  pub book_with-push : (x : List ℕ) (es : List (List ℕ × StoredRecord)) → StandAmong (length numbers) es → book_with (numbers ++ x ∷ []) es ≡ book_with numbers es
  book_with-push x [] h = refl
  book_with-push x (e ∷ es) h =
      let first = h 0 e refl in
      let same : animal_of (numbers ++ x ∷ []) e.1 ≡ animal_of numbers e.1 = animal_of-push x e.1 first.0 first.1 in
      let rest : book_with (numbers ++ x ∷ []) es ≡ book_with numbers es = book_with-push x es (λ place entry at. h (suc place) entry at) in
      λ i. (e.0, same i) ∷ rest i

-- the record at the place where a number is found is its own
pub value-found : (es : List (List ℕ × StoredRecord)) (number : List ℕ) (place : Option ℕ) → is_some place ≡ is_some (lookup (bytes_eq number) es)
    → IfSome place (λ p. slice_get (values_of es) p ≡ lookup (bytes_eq number) es) → IfSome place (λ p. slice_get (values_of (stored_book es)) p ≡ lookup (bytes_eq number) (stored_book es))
value-found es number None some is = tt
value-found es number (Some p) some is =
    let found = is_some_with (lookup (bytes_eq number) es) (sym some) in
    value-book_with (keys_of es) es p found.0 (is ∙ found.1)
    ∙ sym (lookup-book_with (keys_of es) (bytes_eq number) es ∙ ap (λ o. option_map (animal_of (keys_of es)) o) found.1)

-- what is kept of an animal is its record
pub animal_of-stored : (numbers : List (List ℕ)) (entry : StoredRecord) (animal : Animal) (sire dam : Option ℕ) → entry ≡ stored_of animal sire dam → IsIndexIn numbers entry.sire animal.sire → IsIndexIn numbers entry.dam animal.dam → animal_of numbers entry ≡ animal
animal_of-stored numbers entry animal sire dam is its_sire its_dam =
    λ i. record {
      birth = (is i).birth;
      sire = number_at-place numbers entry.sire animal.sire its_sire i;
      dam = number_at-place numbers entry.dam animal.dam its_dam i;
      embryo = (is i).embryo;
      herd = (is i).herd;
      since = (is i).since;
      left = (is i).left;
    }

module _ (es : List (List ℕ × StoredRecord)) where
  pub keys-stored_book : keys_of (stored_book es) ≡ keys_of es
  keys-stored_book = keys-book_with (keys_of es) es

  closed_by_keys : AreClosed es → StandAmong (length (keys_of es)) es
  closed_by_keys h = subst (λ n. StandAmong n es) (sym (length-keys es)) h

  module _ (h : AreClosed es) (x : List ℕ) (e : StoredRecord) (animal : Animal) (sire_is : IsIndexIn (keys_of es) e.sire animal.sire) (dam_is : IsIndexIn (keys_of es) e.dam animal.dam) where
    s : IfSome e.sire (λ p. p < length (keys_of es))
    s = place-within (keys_of es) e.sire animal.sire sire_is

    d : IfSome e.dam (λ p. p < length (keys_of es))
    d = place-within (keys_of es) e.dam animal.dam dam_is

    -- the book after a push
    pub stored_book-push : stored_book (es ++ (x, e) ∷ []) ≡ stored_book es ++ (x, animal_of (keys_of es) e) ∷ []
    stored_book-push =
        ap (λ ks. book_with ks (es ++ (x, e) ∷ [])) (keys-push es x e)
        ∙ map_push (λ entry. (entry.0, animal_of (keys_of es ++ x ∷ []) entry.1)) es (x, e)
        ∙ (λ i. book_with-push (keys_of es) x es (closed_by_keys h) i ++ (x, animal_of-push (keys_of es) x e s d i) ∷ [])

    -- which leaves the parents among the entries
    pub closed-push : AreClosed (es ++ (x, e) ∷ [])
    closed-push place entry at =
        let more : length (es ++ (x, e) ∷ []) ≡ length es + 1 = length_push es (x, e) in
        let long = length-keys es in
        ⊎_elim
        (λ old. let parents = h place entry old in (further entry.1.sire (omega (arith, more)) parents.0, further entry.1.dam (omega (arith, more)) parents.1))
        (λ new.
        let same : entry.1 ≡ e = ap (λ p. p.1) (sym new.1) in (
          further entry.1.sire (omega (arith, more, long)) (subst (λ v. IfSome v.sire (λ p. p < length (keys_of es))) (sym same) s),
          further entry.1.dam (omega (arith, more, long)) (subst (λ v. IfSome v.dam (λ p. p < length (keys_of es))) (sym same) d),
        ))
        (push_cases es (x, e) entry place at)

  -- and after a write
  pub stored_book-set : (i : ℕ) (e : StoredRecord) → stored_book (set_value_at es i e) ≡ set_value_at (stored_book es) i (animal_of (keys_of es) e)
  stored_book-set i e = ap (λ ks. book_with ks (set_value_at es i e)) (keys-set es i e) ∙ set-book_with (keys_of es) es i e

  pub closed-set : AreClosed es → (i : ℕ) (e : StoredRecord) → IfSome e.sire (λ p. p < length es) → IfSome e.dam (λ p. p < length es) → AreClosed (set_value_at es i e)
  closed-set h i e s d place entry at =
      let same : length (set_value_at es i e) ≡ length es = length-set-at es i e in
      ⊎_elim
      (λ new. (
        further entry.1.sire (omega (arith, same)) (subst (λ v. IfSome v.sire (λ p. p < length es)) new.1 s),
        further entry.1.dam (omega (arith, same)) (subst (λ v. IfSome v.dam (λ p. p < length es)) new.1 d),
      ))
      (λ old. let parents = h place entry old.1 in (further entry.1.sire (omega (arith, same)) parents.0, further entry.1.dam (omega (arith, same)) parents.1))
      (set_value-cases es i place e entry at)

-- a place that is kept is that of the number it gives
pub place-named : (numbers : List (List ℕ)) (o : Option ℕ) → IfSome o (λ p. p < length numbers) → IsIndexIn numbers o (number_at numbers o)
place-named numbers None h = tt
place-named numbers (Some p) h = let n = there numbers p h in subst (λ o. IsIndexIn numbers (Some p) o) (sym n.1) n.1

pub length-stored_book : (es : List (List ℕ × StoredRecord)) → length (stored_book es) ≡ length es
length-stored_book es = sym (length-keys (stored_book es)) ∙ ap (λ ks. length ks) (keys-stored_book es) ∙ length-keys es

-- an entry is what the book keeps at its place
pub stored-kept : (es : List (List ℕ × StoredRecord)) (i : ℕ) (e : StoredRecord) → slice_get (values_of es) i ≡ Some e → AreClosed es → IsStoredAt (stored_book es) i e
stored-kept es i e at closed =
    let its = entry_from_value es i e at in
    let parents = closed i (its.0, e) its.1 in
    record {
      animal = value-book_with (keys_of es) es i e at ∙ ap (λ ks. Some (animal_of ks e)) (sym (keys-stored_book es));
      sire = subst (λ n. IfSome e.sire (λ p. p < n)) (sym (length-stored_book es)) parents.0;
      dam = subst (λ n. IfSome e.dam (λ p. p < n)) (sym (length-stored_book es)) parents.1;
    }

-- with its number it is the entry of the book
pub stored-entry : (book : Book) (i : ℕ) (x : List ℕ) (was : StoredRecord) → slice_get (keys_of book) i ≡ Some x → IsStoredAt book i was → slice_get book i ≡ Some (x, animal_of (keys_of book) was)
stored-entry book i x was at stored = entry_from_both book i x (animal_of (keys_of book) was) at stored.animal

-- by its place what is kept is written as by its number
pub set-stored : (book : Book) → IsDistinct bytes_eq (keys_of book) → (x : List ℕ) (i : ℕ) → slice_get (keys_of book) i ≡ Some x → (was : StoredRecord) → IsStoredAt book i was →
    (becomes : StoredRecord) (change : Animal → Animal) → animal_of (keys_of book) becomes ≡ change (animal_of (keys_of book) was) → set_value_at book i (animal_of (keys_of book) becomes) ≡ changed book x change
set-stored book once x i at was stored becomes change is =
    ap (λ a. set_value_at book i a) is ∙ set-changed book once i x (animal_of (keys_of book) was) change (stored-entry book i x was at stored)

-- a number has one place
index-once : (ks : List (List ℕ)) → IsDistinct bytes_eq ks → (o p : Option ℕ) (n : Option (List ℕ)) → IsIndexIn ks o n → IsIndexIn ks p n → o ≡ p
index-once ks once None None n h k = refl
index-once ks once None (Some q) None h k = absurd k
index-once ks once None (Some q) (Some x) h k = absurd h
index-once ks once (Some p) None None h k = absurd h
index-once ks once (Some p) None (Some x) h k = absurd k
index-once ks once (Some p) (Some q) None h k = absurd h
index-once ks once (Some p) (Some q) (Some x) h k = ap Some (stands_once ks once p q x h k)

-- the place that is kept of a parent is its place
stored-parent : (book : Book) (parent_of : Animal → Option (List ℕ)) (parents : List (Option ℕ)) → IsDistinct bytes_eq (keys_of book) → AreParents book parent_of parents → (i : ℕ) (x : List ℕ) (a : Animal) → slice_get book i ≡ Some (x, a) →
    (kept : Option ℕ) → IfSome kept (λ p. p < length book) → number_at (keys_of book) kept ≡ parent_of a → kept ≡ parent_at parents i
stored-parent book parent_of parents once are i x a at kept within is =
    index-once (keys_of book) once kept (parent_at parents i) (number_at (keys_of book) kept)
    (place-named (keys_of book) kept (subst (λ n. IfSome kept (λ p. p < n)) (sym (length-keys book)) within))
    (subst (λ n. IsIndexIn (keys_of book) (parent_at parents i) n) (sym is) (are.each i (x, a) at))

pub stored-parents : (book : Book) (sires dams : List (Option ℕ)) → IsDistinct bytes_eq (keys_of book) → AreParents book (λ animal. animal.sire) sires → AreParents book (λ animal. animal.dam) dams → (i : ℕ) (x : List ℕ) (was : StoredRecord) →
    slice_get book i ≡ Some (x, animal_of (keys_of book) was) → IsStoredAt book i was → (was.sire ≡ parent_at sires i) × (was.dam ≡ parent_at dams i)
stored-parents book sires dams once sires_are dams_are i x was at stored = (
  stored-parent book (λ animal. animal.sire) sires once sires_are i x (animal_of (keys_of book) was) at was.sire stored.sire refl,
  stored-parent book (λ animal. animal.dam) dams once dams_are i x (animal_of (keys_of book) was) at was.dam stored.dam refl,
)

-- what is kept with the places of other parents is the animal with these
pub animal_of-parents : (numbers : List (List ℕ)) (was : StoredRecord) (sire dam : Option ℕ) (s d : Option (List ℕ)) → IsIndexIn numbers sire s → IsIndexIn numbers dam d →
    animal_of numbers (record was { sire = sire; dam = dam }) ≡ with_parents s d (animal_of numbers was)
animal_of-parents numbers was sire dam s d sire_is dam_is =
    λ i. record (animal_of numbers was) { sire = number_at-place numbers sire s sire_is i; dam = number_at-place numbers dam d dam_is i }

-- the places that an entry keeps are those of its record's parents
pub link-kept : (es : List (List ℕ × StoredRecord)) (i : ℕ) (e : StoredRecord) → slice_get (values_of es) i ≡ Some e → AreClosed es → IsLinkAt (stored_book es) i (record { sire = e.sire; dam = e.dam })
link-kept es i e at closed =
    let numbers : List (List ℕ) = keys_of es in
    let its = entry_from_value es i e at in
    let parents = closed i (its.0, e) its.1 in
    let here : slice_get (stored_book es) i ≡ Some (its.0, animal_of numbers e) = entry-book_with numbers es i ∙ ap (λ o. option_map (λ (k : List ℕ × StoredRecord). (k.0, animal_of numbers k.1)) o) its.1 in
    let told : (o : Option ℕ) → IfSome o (λ p. p < length es) → IsIndexIn (keys_of (stored_book es)) o (number_at numbers o) = λ o h.
    subst (λ l. IsIndexIn l o (number_at numbers o)) (sym (keys-stored_book es)) (place-named numbers o (subst (λ n. IfSome o (λ p. p < n)) (sym (length-keys es)) h)) in
    let same : (entry : List ℕ × Animal) → slice_get (stored_book es) i ≡ Some entry → animal_of numbers e ≡ entry.1 = λ entry stands. ap (λ (p : List ℕ × Animal). p.1) (same_Some (its.0, animal_of numbers e) entry (sym here ∙ stands)) in
    record {
      sire = λ entry stands. subst (λ (a : Animal). IsIndexIn (keys_of (stored_book es)) e.sire a.sire) (same entry stands) (told e.sire parents.0);
      dam = λ entry stands. subst (λ (a : Animal). IsIndexIn (keys_of (stored_book es)) e.dam a.dam) (same entry stands) (told e.dam parents.1);
    }

-- where a place gives a number that stands among the first, it is one of the first
among_first : (numbers : List (List ℕ)) (x : List ℕ) → IsDistinct bytes_eq (numbers ++ x ∷ []) → (o : Option ℕ) → IfSome o (λ p. p < length (numbers ++ x ∷ []))
    → (first : Option ℕ) → IsIndexIn numbers first (number_at (numbers ++ x ∷ []) o) → IfSome o (λ p. p < length numbers)
among_first numbers x once None h first is = tt
among_first numbers x once (Some p) h first is =
    let n = there (numbers ++ x ∷ []) p h in
    let stands : IsIndexIn numbers first (Some n.0) = subst (λ o. IsIndexIn numbers first o) n.1 is in
    by first n.0 n.1 stands
  where
    by : (first : Option ℕ) (y : List ℕ) → slice_get (numbers ++ x ∷ []) p ≡ Some y → IsIndexIn numbers first (Some y) → p < length numbers
    by None y at is = absurd is
    by (Some q) y at is =
        let same : p ≡ q = stands_once (numbers ++ x ∷ []) once p q y at (push_keeps numbers x y q is) in
        let within : q < length numbers = slice_get_within numbers q y is in
        omega (arith, same, within)

module _ (es : List (List ℕ × StoredRecord)) (x : List ℕ) (e : StoredRecord) (h : AreClosed (es ++ (x, e) ∷ [])) (once : IsDistinct bytes_eq (keys_of (stored_book (es ++ (x, e) ∷ [])))) (childless : NamesItsOwn (without_last (stored_book (es ++ (x, e) ∷ [])))) where
  -- the last entry is nobody's parent
  pub closed-pop : AreClosed es
  closed-pop place entry at =
      let ks : keys_of (es ++ (x, e) ∷ []) ≡ keys_of es ++ x ∷ [] = keys-push es x e in
      let long : length (keys_of es) ≡ length es = length-keys es in
      let all : length (keys_of es ++ x ∷ []) ≡ length (es ++ (x, e) ∷ []) = sym (ap length ks) ∙ length-keys (es ++ (x, e) ∷ []) in
      let distinct : IsDistinct bytes_eq (keys_of es ++ x ∷ []) = subst (λ l. IsDistinct bytes_eq l) (keys-stored_book (es ++ (x, e) ∷ []) ∙ ks) once in
      let first : without_last (stored_book (es ++ (x, e) ∷ [])) ≡ book_with (keys_of es ++ x ∷ []) es =
      ap (λ l. without_last (book_with l (es ++ (x, e) ∷ []))) ks
      ∙ ap (λ l. without_last l) (map_push (λ entry. (entry.0, animal_of (keys_of es ++ x ∷ []) entry.1)) es (x, e))
      ∙ without_last-push (book_with (keys_of es ++ x ∷ []) es) (x, animal_of (keys_of es ++ x ∷ []) e) in
      let own : NamesItsOwn (book_with (keys_of es ++ x ∷ []) es) = subst (λ book. NamesItsOwn book) first childless in
      let stands : slice_get (book_with (keys_of es ++ x ∷ []) es) place ≡ Some (entry.0, animal_of (keys_of es ++ x ∷ []) entry.1) =
      entry-book_with (keys_of es ++ x ∷ []) es place ∙ ap (λ o. option_map (λ e. (e.0, animal_of (keys_of es ++ x ∷ []) e.1)) o) at in
      let parents = own place (entry.0, animal_of (keys_of es ++ x ∷ []) entry.1) stands in
      let numbers : keys_of (book_with (keys_of es ++ x ∷ []) es) ≡ keys_of es = keys-book_with (keys_of es ++ x ∷ []) es in
      let within = h place entry (push_keeps es (x, e) entry place at) in
      let sire = among_first (keys_of es) x distinct entry.1.sire (further entry.1.sire (omega (arith, all)) within.0) parents.0.0
      (subst (λ l. IsIndexIn l parents.0.0 (number_at (keys_of es ++ x ∷ []) entry.1.sire)) numbers parents.0.1) in
      let dam = among_first (keys_of es) x distinct entry.1.dam (further entry.1.dam (omega (arith, all)) within.1) parents.1.0
      (subst (λ l. IsIndexIn l parents.1.0 (number_at (keys_of es ++ x ∷ []) entry.1.dam)) numbers parents.1.1) in
      (further entry.1.sire (omega (arith, long)) sire, further entry.1.dam (omega (arith, long)) dam)

  pub stored_book-pop : stored_book es ≡ without_last (stored_book (es ++ (x, e) ∷ []))
  stored_book-pop =
      sym (book_with-push (keys_of es) x es (closed_by_keys es closed-pop))
      ∙ sym (without_last-push (book_with (keys_of es ++ x ∷ []) es) (x, animal_of (keys_of es ++ x ∷ []) e))
      ∙ sym (ap (λ l. without_last l) (map_push (λ entry. (entry.0, animal_of (keys_of es ++ x ∷ []) entry.1)) es (x, e)))
      ∙ sym (ap (λ l. without_last (book_with l (es ++ (x, e) ∷ []))) (keys-push es x e))

-- once the last entry was taken away, parents stand among those that are left, whose book is that without its last animal
pub popped : (old new : List (List ℕ × StoredRecord)) (last : Option (List ℕ × StoredRecord)) → old ≡ new ++ option_to_list last → (0 < length old → IsSome last) → AreClosed old
    → (book : Book) → stored_book old ≡ book → IsDistinct bytes_eq (keys_of book) → NamesItsOwn (without_last book) → AreClosed new × (stored_book new ≡ without_last book)
popped old new None is some closed book same once childless =
    let none : old ≡ [] = nil_unless old (λ more. false≢true (some more)) in
    let left : new ≡ [] = sym (append-nil new) ∙ sym is ∙ none in
    (rw left (rw none at closed), rw (← same, left, none) refl)
popped old new (Some (x, e)) is some closed book same once childless =
    let was : book ≡ stored_book (new ++ (x, e) ∷ []) = sym same ∙ ap (λ es. stored_book es) is in
    let closed = rw is at closed in
    let once = rw was at once in
    let childless = rw was at childless in
    (closed-pop new x e closed once childless, rw was (stored_book-pop new x e closed once childless))
