-- One record set at its place.
use Rattle.std.proofs.Common.{ℕ, zero, suc, ◌<◌, ◌≡◌, ◌≢◌, ◌⊎◌, ⊎_elim, inl, inr, arith, refl, sym, ap, ◌∙◌, subst, true, false, List, [], ◌∷◌, Option, Some, None, length, slice_get, slice_set, All}
use Rattle.std.specs.Str.{bytes_eq}
use Rattle.std.specs.List.{IsDistinct}
use Rattle.std.specs.Map.{keys_of}
use Rattle.std.proofs.lemmas.Option.{same_Some, slice_get_within}
use Rattle.std.proofs.lemmas.List.{get_or-set_same, get_or-set_other, length-set, set-get_or}
use Rattle.std.proofs.lemmas.List.Elements.{All-nil}
use Rattle.herd_frozen.specs.declared.rules.animal.Animal.{Animal}
use Rattle.herd_pedigree.specs.declared.store.records.StoredRecord.{StoredRecord}
use Rattle.herd_pedigree.specs.declared.store.undo.Undo.TheVariants.{Record}
use Rattle.herd_frozen.specs.rules.Book.{Book, changed}
use Rattle.herd_frozen.specs.rules.Lawful.{IsLawful}
use Rattle.herd_pedigree.specs.Pedigree.{Pedigree, changed_to}
use Rattle.herd_frozen.specs.places.Places.{parent_at, IsIndexIn, AreParents}
use Rattle.herd_pedigree.specs.store.Kept.{IsKept}
use Rattle.herd_pedigree.specs.store.Records.{animal_of, set_value_at}
use Rattle.herd_pedigree.specs.store.Undo.{IsHeld}
use Rattle.herd_frozen.proofs.lemmas.rules.BookFacts.{bytes_itself, bytes_turned, apart_at}

pub keys-set : {X : Type 0} (es : List (List ℕ × X)) (i : ℕ) (b : X) → keys_of (set_value_at es i b) ≡ keys_of es
keys-set [] i b = refl
keys-set (e ∷ es) zero b = refl
keys-set (e ∷ es) (suc i) b = ap (λ ks. e.0 ∷ ks) (keys-set es i b)

pub length-set-at : {X : Type 0} (es : List (List ℕ × X)) (i : ℕ) (b : X) → length (set_value_at es i b) ≡ length es
length-set-at [] i b = refl
length-set-at (e ∷ es) zero b = refl
length-set-at (e ∷ es) (suc i) b = ap (λ n. suc n) (length-set-at es i b)

-- an entry is that which was set, or as it was
pub set_value-cases : {X : Type 0} (es : List (List ℕ × X)) (i c : ℕ) (b : X) (entry : List ℕ × X) → slice_get (set_value_at es i b) c ≡ Some entry → ((c ≡ i) × (b ≡ entry.1)) ⊎ ((c ≢ i) × (slice_get es c ≡ Some entry))
set_value-cases [] i c b entry at = absurd (cc)
set_value-cases (e ∷ es) zero zero b entry at = let n : (e.0, b) ≡ entry = same_Some _ _ at in inl (refl, ap (λ p. p.1) n)
set_value-cases (e ∷ es) zero (suc c) b entry at = inr (λ h. absurd (omega (arith, h)), at)
set_value-cases (e ∷ es) (suc i) zero b entry at = inr (λ h. absurd (omega (arith, h)), at)
set_value-cases (e ∷ es) (suc i) (suc c) b entry at =
    ⊎_elim (λ l. inl (ap suc l.0, l.1)) (λ r. inr (λ h. r.0 (omega (arith, h)), r.1)) (set_value-cases es i c b entry at)

-- by its place a record is set as by its number
pub set-changed : (es : Book) → IsDistinct bytes_eq (keys_of es) → (i : ℕ) (x : List ℕ) (a : Animal) (change : Animal → Animal) → slice_get es i ≡ Some (x, a) → set_value_at es i (change a) ≡ changed es x change
unfolding IsDistinct
set-changed [] once i x a change at = absurd (cc)
set-changed (e ∷ es) once zero x a change at =
    let k : e ≡ (x, a) = same_Some _ _ at in
    let t : bytes_eq x e.0 ≡ true = subst (λ v. bytes_eq x v ≡ true) (sym (ap (λ p. p.0) k)) (bytes_itself x) in
    rw t (λ i. (e.0, change (sym (ap (λ p. p.1) k) i)) ∷ es)
set-changed (e ∷ es) once (suc i) x a change at =
    let t : bytes_eq x e.0 ≡ false = bytes_turned e.0 x (apart_at e.0 es i x a once.0 at) in
    rw t (ap (λ l. e ∷ l) (set-changed es once.1 i x a change at))

-- what was there is set back
pub set-back : (es : Book) (i : ℕ) (x : List ℕ) (a b : Animal) → slice_get es i ≡ Some (x, a) → set_value_at (set_value_at es i b) i a ≡ es
set-back [] i x a b at = absurd (cc)
set-back (e ∷ es) zero x a b at = let k : e ≡ (x, a) = same_Some _ _ at in ap (λ p. p ∷ es) (λ i. (e.0, sym (ap (λ p. p.1) k) i))
set-back (e ∷ es) (suc i) x a b at = ap (λ l. e ∷ l) (set-back es i x a b at)

-- also where it is told by what was kept of it
pub stored-back : (es : Book) (i : ℕ) (x : List ℕ) (b : Animal) (was : StoredRecord) → slice_get es i ≡ Some (x, animal_of (keys_of es) was) →
    set_value_at (set_value_at es i b) i (animal_of (keys_of (set_value_at es i b)) was) ≡ es
stored-back es i x b was at =
    ap (λ ks. set_value_at (set_value_at es i b) i (animal_of ks was)) (keys-set es i b) ∙ set-back es i x (animal_of (keys_of es) was) b at

-- one parent of each, with another of the animal at a place
pub AreParents-set : (book : Book) (parent_of : Animal → Option (List ℕ)) (parents : List (Option ℕ)) (i : ℕ) (b : Animal) (o : Option ℕ) → AreParents book parent_of parents → i < length book → IsIndexIn (keys_of book) o (parent_of b) →
    AreParents (set_value_at book i b) parent_of (slice_set parents i o)
AreParents-set book parent_of parents i b o a here is = record {
  long = length-set parents i o ∙ a.long ∙ sym (length-set-at book i b);
  each = λ c entry at.
      let P : Option ℕ → Type 0 = λ q. IsIndexIn (keys_of (set_value_at book i b)) q (parent_of entry.1) in
      let Q : List (List ℕ) → Type 0 = λ ks. IsIndexIn ks (parent_at (slice_set parents i o) c) (parent_of entry.1) in
      ⊎_elim
      (λ set.
      let within : i < length parents = let l = a.long in omega (arith, l, here) in
      let same : parent_at (slice_set parents i o) c ≡ o = ap (λ k. parent_at (slice_set parents i o) k) set.0 ∙ get_or-set_same parents i o None within in
      subst Q (sym (keys-set book i b)) (subst (λ q. IsIndexIn (keys_of book) q (parent_of entry.1)) (sym same) (subst (λ e. IsIndexIn (keys_of book) o (parent_of e)) set.1 is)))
      (λ was.
      let same : parent_at (slice_set parents i o) c ≡ parent_at parents c = get_or-set_other parents i c o None was.0 in
      subst Q (sym (keys-set book i b)) (subst (λ q. IsIndexIn (keys_of book) q (parent_of entry.1)) (sym same) (a.each c entry was.1)))
      (set_value-cases book i c b entry at);
}

-- and with the same parent of it
pub AreParents-same : (book : Book) (parent_of : Animal → Option (List ℕ)) (parents : List (Option ℕ)) (i : ℕ) (x : List ℕ) (a b : Animal) → AreParents book parent_of parents → slice_get book i ≡ Some (x, a) → parent_of b ≡ parent_of a →
    AreParents (set_value_at book i b) parent_of parents
AreParents-same book parent_of parents i x a b k at same =
    subst (λ ps. AreParents (set_value_at book i b) parent_of ps) (set-get_or parents i None)
    (AreParents-set book parent_of parents i b (parent_at parents i) k (slice_get_within book i (x, a) at) (subst (λ n. IsIndexIn (keys_of book) (parent_at parents i) n) (sym same) (k.each i (x, a) at)))

module _ (l most : ℕ) (book : Book) (sires dams : List (Option ℕ)) (depths : List ℕ) (k : IsKept l most book sires dams depths) (i : ℕ) (x : List ℕ) (was : StoredRecord) (b : Animal)
    (at : slice_get book i ≡ Some (x, animal_of (keys_of book) was)) (sire : b.sire ≡ (animal_of (keys_of book) was).sire) (dam : b.dam ≡ (animal_of (keys_of book) was).dam) (lawful : IsLawful l most (set_value_at book i b)) where
  -- what is kept, where the parents stay
  IsKept-same : IsKept l most (set_value_at book i b) sires dams depths
  IsKept-same = record {
    lawful = lawful;
    sires_are = AreParents-same book (λ animal. animal.sire) sires i x (animal_of (keys_of book) was) b k.sires_are at sire;
    dams_are = AreParents-same book (λ animal. animal.dam) dams i x (animal_of (keys_of book) was) b k.dams_are at dam;
    long = k.long ∙ sym (length-set-at book i b);
    depths_are = k.depths_are;
  }

  -- and what is held, once the write is noted
  pub IsHeld-same : (log : List (ℕ × ℕ)) → log ≡ [] → (was.sire ≡ parent_at sires i) × (was.dam ≡ parent_at dams i) → IsHeld l most (set_value_at book i b) sires dams depths log (Record i was)
  IsHeld-same log empty parents = record {
    kept = IsKept-same;
    within = (
      let w = slice_get_within book i (x, animal_of (keys_of book) was) at in let n = length-set-at book i b in omega (arith, w, n),
      subst (λ ws. All (λ write. write.0 < length (set_value_at book i b)) ws) (sym empty) (All-nil (λ (write : ℕ × ℕ). write.0 < length (set_value_at book i b))),
    );
    before = λ old is.
        let same : book ≡ old = sym (stored-back book i x b was at) ∙ same_Some _ _ is in
        let sires_same : slice_set sires i was.sire ≡ sires = ap (λ o. slice_set sires i o) parents.0 ∙ set-get_or sires i None in
        let dams_same : slice_set dams i was.dam ≡ dams = ap (λ o. slice_set dams i o) parents.1 ∙ set-get_or dams i None in
        rw (sires_same, dams_same, empty) (subst (λ old. IsKept l most old sires dams depths) same k);
  }

-- the view after a record was set by its place
pub set-view : (old : Pedigree) (book : Book) (i : ℕ) (x : List ℕ) (was : StoredRecord) (b : Animal) → slice_get book i ≡ Some (x, animal_of (keys_of book) was) → book ≡ old.book →
    record { book = set_value_at book i b; before = Some (set_value_at (set_value_at book i b) i (animal_of (keys_of (set_value_at book i b)) was)) } ≡ changed_to old (set_value_at old.book i b)
set-view old book i x was b at w = λ j. record { book = set_value_at (w j) i b; before = (ap Some (stored-back book i x b was at ∙ w)) j }

-- and by its number
pub record-view : (old : Pedigree) (book : Book) (once : IsDistinct bytes_eq (keys_of book)) (i : ℕ) (x : List ℕ) (was : StoredRecord) (change : Animal → Animal) → slice_get book i ≡ Some (x, animal_of (keys_of book) was) → book ≡ old.book →
    record { book = set_value_at book i (change (animal_of (keys_of book) was)); before = Some (set_value_at (set_value_at book i (change (animal_of (keys_of book) was))) i (animal_of (keys_of (set_value_at book i (change (animal_of (keys_of book) was)))) was)) }
    ≡ changed_to old (changed old.book x change)
record-view old book once i x was change at w =
    let b : Animal = change (animal_of (keys_of book) was) in
    λ j. record { book = (set-changed book once i x (animal_of (keys_of book) was) change at ∙ ap (λ b. changed b x change) w) j; before = (ap Some (stored-back book i x b was at ∙ w)) j }
