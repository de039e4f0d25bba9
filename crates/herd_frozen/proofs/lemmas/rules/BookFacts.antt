-- A record of the book by its place and by its number.
use Rattle.std.proofs.Common.{ℕ, zero, suc, ◌<◌, ◌≡◌, ⊎_elim, arith, refl, sym, ap, ◌∙◌, subst, true, false, List, [], ◌∷◌, ◌++◌, Some, None, length, slice_get, get_or, position}
use Rattle.std.specs.Str.{bytes_eq}
use Rattle.std.specs.List.{IsDistinct, AllByRecursion}
use Rattle.std.specs.Map.{keys_of, values_of, lookup}
use Rattle.std.proofs.lemmas.Bool.{cases_Bool, false_from_ne_true}
use Rattle.std.proofs.lemmas.Option.{same_Some, slice_get-get_or}
use Rattle.std.proofs.lemmas.List.Quantifiers.{position-Some}
use Rattle.std.proofs.lemmas.Slice.Eq.{bytes_eq-Decides}
use Rattle.herd_frozen.specs.declared.rules.animal.Animal.{Animal}
use Rattle.herd_frozen.specs.rules.Book.{Book, changed}
use Rattle.herd_frozen.proofs.lemmas.ListFacts.{all-push, all_at}

pub same_bytes : (x y : List ℕ) → bytes_eq x y ≡ true → x ≡ y
same_bytes x y e = (bytes_eq-Decides x y).0 e

pub bytes_itself : (x : List ℕ) → bytes_eq x x ≡ true
bytes_itself x = (bytes_eq-Decides x x).1 refl

pub bytes_turned : (x y : List ℕ) → bytes_eq x y ≡ false → bytes_eq y x ≡ false
bytes_turned x y e =
    false_from_ne_true _ (λ t. let same : y ≡ x = same_bytes y x t in let u : bytes_eq x y ≡ true = (bytes_eq-Decides x y).1 (sym same) in absurd (cc))

module _ {X : Type 0} where
  pub apart_at : (y : List ℕ) (es : List (List ℕ × X)) (c : ℕ) (x : List ℕ) (a : X) → AllByRecursion (λ z. bytes_eq y z ≡ false) (keys_of es) → slice_get es c ≡ Some (x, a) → bytes_eq y x ≡ false
  apart_at y [] c x a h at = absurd (cc)
  apart_at y (e ∷ es) zero x a h at = let k : e ≡ (x, a) = cc in let k0 : e.0 ≡ x = ap (λ p. p.0) k in subst (λ v. bytes_eq y v ≡ false) k0 h.0
  apart_at y (e ∷ es) (suc c) x a h at = apart_at y es c x a h.1 at

  -- the record at a place is that of its number
  pub lookup_at : (es : List (List ℕ × X)) → IsDistinct bytes_eq (keys_of es) → (c : ℕ) (x : List ℕ) (a : X) → slice_get es c ≡ Some (x, a) → lookup (bytes_eq x) es ≡ Some a
  unfolding IsDistinct
  lookup_at [] d c x a at = absurd (cc)
  lookup_at (e ∷ es) d zero x a at =
      let k : e ≡ (x, a) = cc in
      let t : bytes_eq x e.0 ≡ true = subst (λ v. bytes_eq x v ≡ true) (sym (ap (λ p. p.0) k)) (bytes_itself x) in
      rw t (ap (λ p. Some p.1) k)
  lookup_at (e ∷ es) d (suc c) x a at =
      let t : bytes_eq x e.0 ≡ false = bytes_turned e.0 x (apart_at e.0 es c x a d.0 at) in
      rw t (lookup_at es d.1 c x a at)

  -- and a record that is found has a place
  pub place_of : (es : List (List ℕ × X)) (x : List ℕ) (a : X) → lookup (bytes_eq x) es ≡ Some a → (c : ℕ) × (slice_get es c ≡ Some (x, a))
  place_of [] x a e = absurd (cc)
  place_of (e ∷ es) x a h =
      ⊎_elim
      (λ (t : bytes_eq x e.0 ≡ true).
      let same : x ≡ e.0 = same_bytes x e.0 t in
      let v : Some e.1 ≡ Some a = rw t at h in
      let w : e.1 ≡ a = cc in
      (0, ap Some (λ i. (sym same i, w i))))
      (λ (t : bytes_eq x e.0 ≡ false).
      let rest = place_of es x a (rw t at h) in
      (suc rest.0, rest.1))
      (cases_Bool (bytes_eq x e.0))

  -- the number at a place, with its record
  pub entry_from_key : (es : List (List ℕ × X)) (c : ℕ) (x : List ℕ) → slice_get (keys_of es) c ≡ Some x → (a : X) × (slice_get es c ≡ Some (x, a))
  entry_from_key [] c x e = absurd (cc)
  entry_from_key (e ∷ es) zero x h = let k : e.0 ≡ x = cc in (e.1, ap Some (λ i. (k i, e.1)))
  entry_from_key (e ∷ es) (suc c) x h = entry_from_key es c x h

  pub key_from_entry : (es : List (List ℕ × X)) (c : ℕ) (x : List ℕ) (a : X) → slice_get es c ≡ Some (x, a) → slice_get (keys_of es) c ≡ Some x
  key_from_entry [] c x a h = absurd (cc)
  key_from_entry (e ∷ es) zero x a h = let k : e ≡ (x, a) = cc in ap (λ p. Some p.0) k
  key_from_entry (e ∷ es) (suc c) x a h = key_from_entry es c x a h

pub at_position : (book : Book) (x : List ℕ) (i : ℕ) → position (bytes_eq x) (keys_of book) ≡ Some i → slice_get (keys_of book) i ≡ Some x
at_position book x i e =
    let s = position-Some (bytes_eq x) (keys_of book) i x e in
    slice_get-get_or (keys_of book) i x s.0 ∙ ap Some (sym (same_bytes x (get_or (keys_of book) i x) s.1))

pub keys-push : {X : Type 0} (book : List (List ℕ × X)) (number : List ℕ) (animal : X) → keys_of (book ++ (number, animal) ∷ []) ≡ keys_of book ++ number ∷ []
keys-push [] number animal = refl
keys-push (e ∷ es) number animal = ap (λ ks. e.0 ∷ ks) (keys-push es number animal)

pub length-keys : {X : Type 0} (book : List (List ℕ × X)) → length (keys_of book) ≡ length book
length-keys [] = refl
length-keys (e ∷ es) = ap suc (length-keys es)

-- a change of one record leaves the numbers
pub keys-changed : (book : Book) (number : List ℕ) (change : Animal → Animal) → keys_of (changed book number change) ≡ keys_of book
keys-changed [] number change = refl
keys-changed (e ∷ es) number change =
    ⊎_elim
    (λ (t : bytes_eq number e.0 ≡ true). rw t refl)
    (λ (t : bytes_eq number e.0 ≡ false). rw t (ap (λ ks. e.0 ∷ ks) (keys-changed es number change)))
    (cases_Bool (bytes_eq number e.0))

-- and how many there are
pub length-changed : (book : Book) (number : List ℕ) (change : Animal → Animal) → length (changed book number change) ≡ length book
length-changed book number change = sym (length-keys (changed book number change)) ∙ ap (λ ks. length ks) (keys-changed book number change) ∙ length-keys book

-- a number that isn't there is apart from those that are
pub distinct-push : (book : Book) (number : List ℕ) (animal : Animal) → IsDistinct bytes_eq (keys_of book) → lookup (bytes_eq number) book ≡ None → IsDistinct bytes_eq (keys_of (book ++ (number, animal) ∷ []))
unfolding IsDistinct
distinct-push [] number animal d none = (tt, tt)
distinct-push (e ∷ es) number animal d none =
    ⊎_elim
    (λ (t : bytes_eq number e.0 ≡ true). let bad : Some e.1 ≡ None = rw t at none in absurd (cc))
    (λ (t : bytes_eq number e.0 ≡ false).
    let apart : AllByRecursion (λ z. bytes_eq e.0 z ≡ false) (keys_of (es ++ (number, animal) ∷ [])) =
    subst (λ ks. AllByRecursion (λ z. bytes_eq e.0 z ≡ false) ks) (sym (keys-push es number animal)) (all-push (λ z. bytes_eq e.0 z ≡ false) (keys_of es) number d.0 (bytes_turned number e.0 t)) in
    (apart, distinct-push es number animal d.1 (rw t at none)))
    (cases_Bool (bytes_eq number e.0))

-- the record that is read at a place
pub value_at : (es : Book) (i : ℕ) (a : Animal) (d : List ℕ × Animal) → slice_get (values_of es) i ≡ Some a → (i < length es) × ((get_or es i d).1 ≡ a)
value_at [] i a d h = absurd (cc)
value_at (e ∷ es) zero a d h = (omega arith, same_Some _ _ h)
value_at (e ∷ es) (suc i) a d h = let r = value_at es i a d h in (omega (arith, r.0), r.1)

-- a number stands at one place
pub stands_once : (ks : List (List ℕ)) → IsDistinct bytes_eq ks → (i j : ℕ) (x : List ℕ) → slice_get ks i ≡ Some x → slice_get ks j ≡ Some x → i ≡ j
unfolding IsDistinct
stands_once [] d i j x a b = absurd (cc)
stands_once (k ∷ ks) d zero zero x a b = refl
stands_once (k ∷ ks) d zero (suc j) x a b =
    let e : k ≡ x = same_Some _ _ a in
    let f : bytes_eq k x ≡ false = all_at (λ z. bytes_eq k z ≡ false) ks j x d.0 b in
    let t : bytes_eq k x ≡ true = subst (λ z. bytes_eq k z ≡ true) e (bytes_itself k) in absurd (cc)
stands_once (k ∷ ks) d (suc i) zero x a b =
    let e : k ≡ x = same_Some _ _ b in
    let f : bytes_eq k x ≡ false = all_at (λ z. bytes_eq k z ≡ false) ks i x d.0 a in
    let t : bytes_eq k x ≡ true = subst (λ z. bytes_eq k z ≡ true) e (bytes_itself k) in absurd (cc)
stands_once (k ∷ ks) d (suc i) (suc j) x a b = ap suc (stands_once ks d.1 i j x a b)
