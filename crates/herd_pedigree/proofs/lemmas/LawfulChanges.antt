-- A change keeps the book lawful: a birth, other parents, another owner, an exit.
use Rattle.std.proofs.Common.{ℕ, ℤ, ◌+◌, ◌≤◌, ◌≡◌, ◌≤ℤ◌, ◌<ℤ◌, ◌⊎◌, ⊎_elim, inl, inr, arith, refl, sym, ap, ◌∙◌, subst, Bool, true, false, not, ◌&&◌, int_lt, if◌then◌else◌, IsTrue, IsFalse, List, [], ◌∷◌, ◌++◌, Option, None, Some, length}
use Rattle.std.specs.Str.{bytes_eq}
use Rattle.std.specs.List.{IsDistinct, list_any}
use Rattle.std.specs.Map.{keys_of}
use Rattle.std.specs.Option.{option_map_or}
use Rattle.std.proofs.lemmas.Bool.{cases_Bool, not_from_false, or_parts}
use Rattle.std.proofs.lemmas.Int.{ints}
use Rattle.std.proofs.lemmas.List.{length_push}
use Rattle.std.proofs.lemmas.List.Folds.{list_any-append}
use Rattle.std.proofs.lemmas.Option.{same_Some}
use Rattle.herd_frozen.specs.declared.rules.animal.Animal.{Animal}
use Rattle.herd_frozen.specs.rules.Paths.{has_path}
use Rattle.herd_frozen.specs.rules.Book.{Book, changed, is_calf_after, is_shallow, parentage_of, record_of, with_left, with_owner, with_parents}
use Rattle.herd_frozen.specs.rules.ParentFault.{has_left_before, is_too_deep, parentage_with}
use Rattle.herd_frozen.specs.rules.Lawful.{IsDamOf, IsLawful, IsLawfulRecord, IsSireOf}
use Rattle.herd_pedigree.specs.declared.registration.Newborn.{Newborn}
use Rattle.herd_pedigree.specs.Pedigree.{IsBirth, IsCorrection, IsExit, IsPresentOn, birth_record}
use Rattle.herd_frozen.proofs.lemmas.Contained.{any_not}
use Rattle.herd_frozen.proofs.lemmas.rules.BookFacts.{bytes_itself, distinct-push, keys-changed, keys-push, length-changed, place_of, same_bytes}
use Rattle.herd_frozen.proofs.lemmas.rules.FaultFacts.{dam-may_be, no_fault, not_either, sire-may_be}
use Rattle.herd_frozen.proofs.lemmas.rules.WrittenFacts.{at_number, elsewhere, has_path-written, IsWritten, too_deep-written, written-changed, written-push}

-- the empty book is lawful
pub lawful-empty : (l most : ℕ) → IsLawful l most []
unfolding IsDistinct
lawful-empty l most = record { once = tt; few = omega arith; shallow = refl; records = λ number animal e. absurd (cc) }

-- a book with one record written is lawful where that record is and no path is too long: other records have the
-- parents that they had, and what is kept of the number has the birth day that it had
module _ (old new : Book) (number : List ℕ) (animal : Animal) (w : IsWritten old new number animal) (same : (was : Animal) → record_of old number ≡ Some was → animal.birth ≡ was.birth) where
  -- an animal that was there still is, with its birth day, and but for the written one as it was
  still_there : (p : List ℕ) (was : Animal) → record_of old p ≡ Some was → (is : Animal) × (record_of new p ≡ Some is) × (is.birth ≡ was.birth) × (((p ≡ number) × (is ≡ animal)) ⊎ (is ≡ was))
  still_there p was there =
      ⊎_elim
      (λ (t : bytes_eq number p ≡ true).
      let e : number ≡ p = same_bytes number p t in
      (animal, subst (λ y. record_of new y ≡ Some animal) e (at_number old new number animal w), same was (subst (λ y. record_of old y ≡ Some was) (sym e) there), inl (sym e, refl)))
      (λ (t : bytes_eq number p ≡ false). (was, elsewhere old new number animal w p t ∙ there, refl, inr refl))
      (cases_Bool (bytes_eq number p))

  -- a sire stays one
  sire-written : (birth : ℤ) (p : List ℕ) → IsSireOf old birth p → IsSireOf new birth p
  sire-written birth p s =
      let k = still_there p s.sire s.there in
      record { sire = k.0; there = k.1; male = s.male; older = subst (λ b. b <ℤ birth) (sym k.2) s.older }

  -- and a dam stays one, where she didn't leave before
  dam-written : (birth : ℤ) (embryo : Bool) (p : List ℕ) → IsDamOf old birth embryo p → (p ≡ number → embryo ≡ false → IsFalse (has_left_before birth animal)) → IsDamOf new birth embryo p
  dam-written birth embryo p d stays =
      let k = still_there p d.dam d.there in
      record {
        dam = k.0;
        there = k.1;
        female = d.female;
        older = subst (λ b. b <ℤ birth) (sym k.2) d.older;
        stayed = λ fresh.
            ⊎_elim
            (λ own. subst (λ a. IsFalse (has_left_before birth a)) (sym own.1) (stays own.0 fresh))
            (λ is. subst (λ a. IsFalse (has_left_before birth a)) (sym is) (d.stayed fresh))
            k.3;
      }

  -- nobody is its own dam
  not_own : (embryo : Bool) → IsDamOf old animal.birth embryo number → ⊥
  not_own embryo d = let e = same d.dam d.there in let older = d.older in absurd (omega (arith, ints, e, older))

  lawful-written : (l most : ℕ) → IsLawful l most old → IsDistinct bytes_eq (keys_of new) → length new ≤ most → IsTrue (is_shallow l new) →
      ((p : List ℕ) → animal.sire ≡ Some p → IsSireOf old animal.birth p) → ((p : List ℕ) → animal.dam ≡ Some p → IsDamOf old animal.birth animal.embryo p) →
      animal.birth ≤ℤ animal.since → ((day : ℤ) → animal.left ≡ Some day → animal.since ≤ℤ day) →
      ((x : List ℕ) (calf : Animal) → record_of old x ≡ Some calf → calf.dam ≡ Some number → IsDamOf old calf.birth calf.embryo number → calf.embryo ≡ false → IsFalse (has_left_before calf.birth animal)) →
      IsLawful l most new
  lawful-written l most lawful once few shallow own_sire own_dam since left stays =
      record {
        once = once;
        few = few;
        shallow = shallow;
        records = λ x a there.
            ⊎_elim
            (λ (t : bytes_eq number x ≡ true).
            let is : animal ≡ a = same_Some _ _ (sym (w.reads x ∙ ap (λ t. if t then Some animal else record_of old x) t) ∙ there) in
            subst (λ a. IsLawfulRecord new a) is own)
            (λ (t : bytes_eq number x ≡ false).
            let was : record_of old x ≡ Some a = sym (elsewhere old new number animal w x t) ∙ there in
            let r : IsLawfulRecord old a = lawful.records x a was in
            record {
              sire = λ p e. sire-written a.birth p (r.sire p e);
              dam = λ p e.
                  dam-written a.birth a.embryo p (r.dam p e)
                  (λ is fresh. stays x a was (subst (λ y. a.dam ≡ Some y) is e) (subst (λ y. IsDamOf old a.birth a.embryo y) is (r.dam p e)) fresh);
              since = r.since;
              left = r.left;
            })
            (cases_Bool (bytes_eq number x));
      }
    where
      own : IsLawfulRecord new animal
      own = record {
        sire = λ p e. sire-written animal.birth p (own_sire p e);
        dam = λ p e. dam-written animal.birth animal.embryo p (own_dam p e) (λ is fresh. absurd (not_own animal.embryo (subst (λ y. IsDamOf old animal.birth animal.embryo y) is (own_dam p e))));
        since = since;
        left = left;
      }

-- no path is too long in the book with a record that makes none too long
paths-written : (l : ℕ) (old new : Book) (number : List ℕ) (animal : Animal) → IsWritten old new number animal → is_too_deep l old number animal.sire animal.dam ≡ false →
    (has_path (parentage_of new) (l + 1) number ≡ false) × (list_any (has_path (parentage_of new) (l + 1)) (keys_of old) ≡ false)
paths-written l old new number animal w low =
    or_parts (has_path (parentage_of new) (l + 1) number) (list_any (has_path (parentage_of new) (l + 1)) (keys_of old)) (sym (too_deep-written old new number animal w l) ∙ low)

-- a birth that has no fault
pub lawful-birth : (l most : ℕ) (book : Book) (number : List ℕ) (newborn : Newborn) → IsLawful l most book → IsBirth l most book number newborn → IsLawful l most (book ++ (number, birth_record newborn) ∷ [])
lawful-birth l most book number newborn lawful birth =
    let animal : Animal = birth_record newborn in
    let since : newborn.birth ≤ℤ newborn.birth = grind (arith, ints) in
    let absent = birth.absent in
    let more : Book = book ++ (number, animal) ∷ [] in
    let w = written-push book number animal absent in
    let fine = no_fault l book number animal.birth animal.sire animal.dam animal.embryo birth.parents in
    let short = paths-written l book more number animal w fine.shallow in
    let too_long : List ℕ → Bool = has_path (parentage_of more) (l + 1) in
    let none : list_any too_long (keys_of more) ≡ false = ap (λ ks. list_any too_long ks) (keys-push book number animal) ∙ list_any-append too_long (keys_of book) (number ∷ []) ∙ (rw (short.1, short.0) refl) in
    lawful-written book more number animal w (λ was e. absurd (cc)) l most lawful
    (distinct-push book number animal lawful.once absent)
    (let n = length_push book (number, animal) in let room = birth.room in omega (arith, n, room))
    (not_from_false (list_any too_long (keys_of more)) none)
    (sire-may_be book animal.birth animal.sire animal.dam animal.embryo fine.records)
    (dam-may_be book animal.birth animal.sire animal.dam animal.embryo fine.records)
    since
    (λ (day : ℤ) (e : None ≡ Some day). absurd (cc))
    (λ x calf e is d fresh. let there = d.there in absurd (cc))

-- a book in which the record of an animal is changed, which keeps its birth day
module _ (l most : ℕ) (book : Book) (lawful : IsLawful l most book) (number : List ℕ) (change : Animal → Animal) (was : Animal) (there : record_of book number ≡ Some was) (birth : (change was).birth ≡ was.birth) where
  lawful-changed : IsTrue (is_shallow l (changed book number change)) →
      ((p : List ℕ) → (change was).sire ≡ Some p → IsSireOf book (change was).birth p) → ((p : List ℕ) → (change was).dam ≡ Some p → IsDamOf book (change was).birth (change was).embryo p) →
      (change was).birth ≤ℤ (change was).since → ((day : ℤ) → (change was).left ≡ Some day → (change was).since ≤ℤ day) →
      ((x : List ℕ) (calf : Animal) → record_of book x ≡ Some calf → calf.dam ≡ Some number → IsDamOf book calf.birth calf.embryo number → calf.embryo ≡ false → IsFalse (has_left_before calf.birth (change was))) →
      IsLawful l most (changed book number change)
  lawful-changed =
      lawful-written book (changed book number change) number (change was) (written-changed book number change was there)
      (λ old e. birth ∙ ap (λ a. a.birth) (same_Some _ _ (sym there ∙ e)))
      l most lawful
      (subst (λ ks. IsDistinct bytes_eq ks) (sym (keys-changed book number change)) lawful.once)
      (subst (λ n. n ≤ most) (sym (length-changed book number change)) lawful.few)

  -- paths are as they were where the parents are
  shallow-stays : (change was).sire ≡ was.sire → (change was).dam ≡ was.dam → IsTrue (is_shallow l (changed book number change))
  shallow-stays sire dam =
      let itself : IsWritten book book number was = record {
        reads = λ x.
            ⊎_elim
            (λ (t : bytes_eq number x ≡ true). rw t (subst (λ y. record_of book y ≡ Some was) (same_bytes number x t) there))
            (λ (t : bytes_eq number x ≡ false). rw t refl)
            (cases_Bool (bytes_eq number x));
      } in
      let paths : (x : List ℕ) → has_path (parentage_of (changed book number change)) (l + 1) x ≡ has_path (parentage_of book) (l + 1) x = λ x.
      sym (has_path-written book (changed book number change) number (change was) (written-changed book number change was there) (l + 1) x)
      ∙ (λ i. has_path (parentage_with book number (sire i) (dam i)) (l + 1) x)
      ∙ has_path-written book book number was itself (l + 1) x in
      let same : is_shallow l (changed book number change) ≡ is_shallow l book = λ i. not (list_any (λ x. paths x i) (keys-changed book number change i)) in
      same ∙ lawful.shallow

  -- and so is the dam of each calf where her leaving day is
  stayed-same : (change was).left ≡ was.left → (x : List ℕ) (calf : Animal) → record_of book x ≡ Some calf → calf.dam ≡ Some number → IsDamOf book calf.birth calf.embryo number → calf.embryo ≡ false → IsFalse (has_left_before calf.birth (change was))
  stayed-same left x calf e is d fresh =
      let dam : d.dam ≡ was = same_Some _ _ (sym d.there ∙ there) in
      ap (λ o. option_map_or (λ left. int_lt left calf.birth) o false) (left ∙ ap (λ a. a.left) (sym dam)) ∙ d.stayed fresh

-- other parents of an animal, that have no fault
pub lawful-parents : (l most : ℕ) (book : Book) (number : List ℕ) (sire dam : Option (List ℕ)) → IsLawful l most book → IsCorrection l book number sire dam → IsLawful l most (changed book number (with_parents sire dam))
lawful-parents l most book number sire dam lawful asked =
    let was : Animal = asked.animal in
    let change : Animal → Animal = with_parents sire dam in
    let own = lawful.records number was asked.there in
    let fine = no_fault l book number was.birth sire dam was.embryo asked.parents in
    let short = paths-written l book (changed book number change) number (change was) (written-changed book number change was asked.there) fine.shallow in
    let too_long : List ℕ → Bool = has_path (parentage_of (changed book number change)) (l + 1) in
    lawful-changed l most book lawful number change was asked.there refl
    (not_from_false (list_any too_long (keys_of (changed book number change))) (ap (λ ks. list_any too_long ks) (keys-changed book number change) ∙ short.1))
    (sire-may_be book was.birth sire dam was.embryo fine.records)
    (dam-may_be book was.birth sire dam was.embryo fine.records)
    own.since own.left
    (stayed-same l most book lawful number change was asked.there refl refl)

-- another owner of an animal that is there, from a day that isn't before the first one of the owner until then
pub lawful-owner : (l most : ℕ) (book : Book) (number : List ℕ) (herd : ℕ) (day : ℤ) → IsLawful l most book → IsPresentOn book number day → IsLawful l most (changed book number (with_owner herd day))
lawful-owner l most book number herd day lawful present =
    let was : Animal = present.animal in
    let change : Animal → Animal = with_owner herd day in
    let own = lawful.records number was present.there in
    lawful-changed l most book lawful number change was present.there refl
    (shallow-stays l most book lawful number change was present.there refl refl refl)
    own.sire own.dam
    (let since = present.since in let b = own.since in grind (arith, ints, b, since))
    (λ left e. let none = present.stayed in absurd (cc))
    (stayed-same l most book lawful number change was present.there refl refl)

-- an exit of an animal that is there, on a day after which it has no calf
pub lawful-exit : (l most : ℕ) (book : Book) (number : List ℕ) (day : ℤ) → IsLawful l most book → IsExit book number day → IsLawful l most (changed book number (with_left day))
lawful-exit l most book number day lawful exit =
    let was : Animal = exit.present.animal in
    let change : Animal → Animal = with_left day in
    let there = exit.present.there in
    let own = lawful.records number was there in
    lawful-changed l most book lawful number change was there refl
    (shallow-stays l most book lawful number change was there refl refl refl)
    own.sire own.dam own.since
    (λ left e. let t : day ≡ left = same_Some _ _ e in subst (λ d. was.since ≤ℤ d) t exit.present.since)
    (λ x calf e is d fresh.
    let place = place_of book x calf e in
    not_after calf (any_not (λ entry. is_calf_after number day entry.1) book place.0 (x, calf) exit.last place.1) is fresh)
  where
    not_after : (calf : Animal) → is_calf_after number day calf ≡ false → calf.dam ≡ Some number → calf.embryo ≡ false → int_lt day calf.birth ≡ false
    not_after calf h is fresh =
        let named : option_map_or (bytes_eq number) calf.dam false ≡ true = ap (λ o. option_map_or (bytes_eq number) o false) is ∙ bytes_itself number in
        not_either calf.embryo (int_lt day calf.birth) (sym (ap (λ t. t && (not calf.embryo && int_lt day calf.birth)) named) ∙ h) fresh
