-- A book with one record written: a new one at the end, or in place of the old one.
use Rattle.std.proofs.Common.{ℕ, zero, suc, ◌+◌, ◌≡◌, ⊎_elim, refl, sym, ap, ◌∙◌, subst, Bool, true, false, cond, ◌&&◌, ◌||◌, if◌then◌else◌, is_some, List, [], ◌∷◌, ◌++◌, Option, Some, None}
use Rattle.std.specs.Str.{bytes_eq}
use Rattle.std.specs.List.{list_any}
use Rattle.std.specs.Map.{keys_of}
use Rattle.std.specs.Option.{option_and_then, option_map_or}
use Rattle.std.proofs.lemmas.Bool.{cases_Bool}
use Rattle.std.proofs.lemmas.Option.{same_Some}
use Rattle.herd_frozen.specs.declared.rules.animal.Animal.{Animal}
use Rattle.herd_frozen.specs.rules.Paths.{Parentage, has_path}
use Rattle.herd_frozen.specs.rules.Book.{Book, record_of, parentage_of, changed}
use Rattle.herd_frozen.specs.rules.ParentFault.{parentage_with, is_too_deep}
use Rattle.herd_frozen.proofs.lemmas.rules.BookFacts.{same_bytes, bytes_itself, bytes_turned}

-- the book reads as before, but for the record of the number
pub record IsWritten (old new : Book) (number : List ℕ) (animal : Animal) : Type 0 where
  pub reads : (x : List ℕ) → record_of new x ≡ (if bytes_eq number x then Some animal else record_of old x)

lookup-push_same : (book : Book) (number : List ℕ) (animal : Animal) → record_of book number ≡ None → record_of (book ++ (number, animal) ∷ []) number ≡ Some animal
lookup-push_same [] number animal h = rw (bytes_itself number) refl
lookup-push_same (e ∷ book) number animal h =
    ⊎_elim
    (λ (t : bytes_eq number e.0 ≡ true). let bad : Some e.1 ≡ None = rw t at h in absurd (cc))
    (λ (t : bytes_eq number e.0 ≡ false). rw t (lookup-push_same book number animal (rw t at h)))
    (cases_Bool (bytes_eq number e.0))

lookup-push_other : (book : Book) (number x : List ℕ) (animal : Animal) → bytes_eq x number ≡ false → record_of (book ++ (number, animal) ∷ []) x ≡ record_of book x
lookup-push_other [] number x animal h = rw h refl
lookup-push_other (e ∷ book) number x animal h = ap (λ o. cond (bytes_eq x e.0) (Some e.1) o) (lookup-push_other book number x animal h)

-- a new record at the end
pub written-push : (book : Book) (number : List ℕ) (animal : Animal) → record_of book number ≡ None → IsWritten book (book ++ (number, animal) ∷ []) number animal
written-push book number animal none = record {
  reads = λ x.
      ⊎_elim
      (λ (t : bytes_eq number x ≡ true).
      let P : List ℕ → Type 0 = λ y. record_of (book ++ (number, animal) ∷ []) y ≡ Some animal in
      rw t (subst P (same_bytes number x t) (lookup-push_same book number animal none)))
      (λ (t : bytes_eq number x ≡ false). rw t (lookup-push_other book number x animal (bytes_turned number x t)))
      (cases_Bool (bytes_eq number x));
}

lookup-changed_same : (book : Book) (number : List ℕ) (change : Animal → Animal) (animal : Animal) → record_of book number ≡ Some animal → record_of (changed book number change) number ≡ Some (change animal)
lookup-changed_same [] number change animal h = absurd (cc)
lookup-changed_same (e ∷ book) number change animal h =
    ⊎_elim
    (λ (t : bytes_eq number e.0 ≡ true). let is : Some e.1 ≡ Some animal = rw t at h in rw (t, t) (ap (λ a. Some (change a)) (same_Some _ _ is)))
    (λ (t : bytes_eq number e.0 ≡ false). rw (t, t) (lookup-changed_same book number change animal (rw t at h)))
    (cases_Bool (bytes_eq number e.0))

lookup-changed_other : (book : Book) (number x : List ℕ) (change : Animal → Animal) → bytes_eq x number ≡ false → record_of (changed book number change) x ≡ record_of book x
lookup-changed_other [] number x change h = refl
lookup-changed_other (e ∷ book) number x change h =
    ⊎_elim
    (λ (t : bytes_eq number e.0 ≡ true).
    let same : number ≡ e.0 = same_bytes number e.0 t in
    let u : bytes_eq x e.0 ≡ false = subst (λ y. bytes_eq x y ≡ false) same h in
    rw (t, u) refl)
    (λ (t : bytes_eq number e.0 ≡ false). rw t (ap (λ o. cond (bytes_eq x e.0) (Some e.1) o) (lookup-changed_other book number x change h)))
    (cases_Bool (bytes_eq number e.0))

-- another record in the place of the old one
pub written-changed : (book : Book) (number : List ℕ) (change : Animal → Animal) (animal : Animal) → record_of book number ≡ Some animal → IsWritten book (changed book number change) number (change animal)
written-changed book number change animal there = record {
  reads = λ x.
      ⊎_elim
      (λ (t : bytes_eq number x ≡ true).
      let P : List ℕ → Type 0 = λ y. record_of (changed book number change) y ≡ Some (change animal) in
      rw t (subst P (same_bytes number x t) (lookup-changed_same book number change animal there)))
      (λ (t : bytes_eq number x ≡ false). rw t (lookup-changed_other book number x change (bytes_turned number x t)))
      (cases_Bool (bytes_eq number x));
}

-- paths are those of the parents, however these are told
pub has_path-same : {A : Type 0} (P Q : Parentage A) → ((x : A) → P.is_there x ≡ Q.is_there x) → ((x : A) → P.sire x ≡ Q.sire x) → ((x : A) → P.dam x ≡ Q.dam x) → (n : ℕ) (x : A) → has_path P n x ≡ has_path Q n x
unfolding has_path
has_path-same P Q there sire dam zero x = there x
has_path-same P Q there sire dam (suc n) x =
    λ i. there x i && (option_map_or (λ y. has_path-same P Q there sire dam n y i) (sire x i) false || option_map_or (λ y. has_path-same P Q there sire dam n y i) (dam x i) false)

some_or : (t : Bool) (animal : Animal) (r : Option Animal) → (t || is_some r) ≡ is_some (if t then Some animal else r)
some_or true animal r = refl
some_or false animal r = refl

parent_or : (t : Bool) (animal : Animal) (r : Option Animal) (parent_of : Animal → Option (List ℕ)) → (if t then parent_of animal else option_and_then parent_of r) ≡ option_and_then parent_of (if t then Some animal else r)
parent_or true animal r parent_of = refl
parent_or false animal r parent_of = refl

module _ (old new : Book) (number : List ℕ) (animal : Animal) (w : IsWritten old new number animal) where
  -- the paths that the new book has
  pub has_path-written : (n : ℕ) (x : List ℕ) → has_path (parentage_with old number animal.sire animal.dam) n x ≡ has_path (parentage_of new) n x
  has_path-written =
      has_path-same (parentage_with old number animal.sire animal.dam) (parentage_of new)
      (λ x. some_or (bytes_eq number x) animal (record_of old x) ∙ sym (ap (λ o. is_some o) (w.reads x)))
      (λ x. parent_or (bytes_eq number x) animal (record_of old x) (λ a. a.sire) ∙ sym (ap (λ o. option_and_then (λ a. a.sire) o) (w.reads x)))
      (λ x. parent_or (bytes_eq number x) animal (record_of old x) (λ a. a.dam) ∙ sym (ap (λ o. option_and_then (λ a. a.dam) o) (w.reads x)))

  pub too_deep-written : (l : ℕ) → is_too_deep l old number animal.sire animal.dam ≡ list_any (has_path (parentage_of new) (l + 1)) (number ∷ keys_of old)
  too_deep-written l = λ i. list_any (λ x. has_path-written (l + 1) x i) (number ∷ keys_of old)

  -- the record that was written, and all others
  pub at_number : record_of new number ≡ Some animal
  at_number = w.reads number ∙ ap (λ t. if t then Some animal else record_of old number) (bytes_itself number)

  pub elsewhere : (x : List ℕ) → bytes_eq number x ≡ false → record_of new x ≡ record_of old x
  elsewhere x t = w.reads x ∙ ap (λ t. if t then Some animal else record_of old x) t
