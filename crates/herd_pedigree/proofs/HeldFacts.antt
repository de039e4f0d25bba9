-- What is held after a correction, and what taking a change back needs.
use Rattle.std.proofs.Common.{ℕ, ◌+◌, ◌-◌, ◌<◌, ◌≤◌, ◌≡◌, ⊎_elim, inl, inr, arith, refl, sym, ap, ◌∙◌, subst, true, false, IsTrue, List, [], Option, Some, None, IfSome, length, slice_get, slice_index, slice_set, All}
use Rattle.std.specs.Map.{keys_of}
use Rattle.std.proofs.lemmas.Bool.{cases_lt, lt-ltb}
use Rattle.std.proofs.lemmas.Option.{same_Some, slice_get_within}
use Rattle.std.proofs.lemmas.List.{get_or-take, get_or-set_same, length-set, length-take-le, set-set, set-get_or}
use Rattle.herd_frozen.specs.declared.rules.animal.Animal.{Animal}
use Rattle.herd_pedigree.specs.declared.store.records.StoredRecord.{StoredRecord}
use Rattle.herd_pedigree.specs.declared.store.undo.Undo.{Undo}
use Rattle.herd_pedigree.specs.declared.store.undo.Undo.TheVariants.{Nothing, Birth, Record}
use Rattle.herd_frozen.specs.rules.Paths.{Parentage, has_path}
use Rattle.herd_frozen.specs.rules.Book.{Book, changed, with_parents}
use Rattle.herd_pedigree.specs.Pedigree.{IsCorrection}
use Rattle.herd_frozen.specs.rules.Depths.{IsParent, AreDepths}
use Rattle.herd_frozen.specs.places.Places.{AreParents, IsIndexIn, parent_at, parentage_at}
use Rattle.herd_pedigree.specs.store.Carrying.{IsSettled}
use Rattle.herd_pedigree.specs.store.Exchange.{exchanged}
use Rattle.herd_pedigree.specs.store.Kept.{IsKept}
use Rattle.herd_pedigree.specs.store.Records.{NamesItsOwn, animal_of, set_value_at}
use Rattle.herd_pedigree.specs.store.Undo.{IsHeld, without_last, undone_writes}
use Rattle.herd_frozen.proofs.lemmas.rules.PathFacts.{depths-fall}
use Rattle.herd_frozen.proofs.lemmas.rules.FaultFacts.{HasNoFault, no_fault}
use Rattle.herd_pedigree.proofs.lemmas.LawfulChanges.{lawful-parents}
use Rattle.herd_pedigree.proofs.lemmas.store.SetFacts.{set-changed, stored-back, length-set-at}
use Rattle.herd_pedigree.proofs.lemmas.store.CarryFacts.{settled-depths, settled-deep}
use Rattle.herd_pedigree.proofs.lemmas.store.CorrectionFacts.{if_parent}
use Rattle.herd_pedigree.proofs.lemmas.store.ProgenyFacts.{parent-within}
use Rattle.herd_pedigree.proofs.CheckFacts.{parents-within, sires-corrected, dams-corrected, closed-after, shallow-by_place}

-- the last animal, which was added last, has no calves
module _ (l most : ℕ) (book : Book) (sires dams : List (Option ℕ)) (depths : List ℕ) (log : List (ℕ × ℕ)) (undo : Undo) (is_birth : undo ≡ Birth) (held : IsHeld l most book sires dams depths log undo) where
  h : IsHeld l most book sires dams depths log Birth
  h = subst (λ u. IsHeld l most book sires dams depths log u) is_birth held

  old : IsKept l most (without_last book) (without_last sires) (without_last dams) (without_last depths)
  old = h.before (without_last book) refl

  last_there : (n : ℕ) → n + 1 ≡ length sires → (c : ℕ) → IsParent (parentage_at sires dams) n c → c < n → (length (without_last book) ≡ n) → ⊥
  last_there n e c is low long =
      let m = h.kept.sires_are.long in
      let k = h.kept.dams_are.long in
      ⊎_elim
      (λ (s : parent_at sires c ≡ Some n).
      let w = parents-within (without_last book) (λ animal. animal.sire) (without_last sires) old.sires_are c n (get_or-take (length sires - 1) sires c None (omega (arith, low, e)) ∙ s) in
      absurd (omega (arith, w, long)))
      (λ (d : parent_at dams c ≡ Some n).
      let w = parents-within (without_last book) (λ animal. animal.dam) (without_last dams) old.dams_are c n (get_or-take (length dams - 1) dams c None (omega (arith, low, e, m, k)) ∙ d) in
      absurd (omega (arith, w, long)))
      is

  none-of_last : (c : ℕ) → IsParent (parentage_at sires dams) (length sires - 1) c → ⊥
  none-of_last c is =
      let n : ℕ = length sires - 1 in
      let m = h.kept.sires_are.long in
      let k = h.kept.dams_are.long in
      let some = h.within in
      let e : n + 1 ≡ length sires = omega (arith, m, some) in
      let long : length (without_last book) ≡ n = length-take-le (length book - 1) book (omega arith) ∙ ap (λ v. v - 1) (sym m) in
      let here : c < length sires = ⊎_elim (λ s. parent-within sires c n s) (λ d. let w = parent-within dams c n d in omega (arith, w, m, k)) is in
      let fall = depths-fall l (parentage_at sires dams) (slice_index depths) h.kept.depths_are n c (lt-ltb c (length sires) here) is in
      ⊎_elim
      (λ (low : c < n). last_there n e c is low long)
      (λ (high : n ≤ c).
      let same : c ≡ n = omega (arith, high, here, e) in
      let bad : slice_index depths n < slice_index depths n = subst (λ v. slice_index depths n < slice_index depths v) same fall in
      absurd (omega (arith, bad)))
      (cases_lt c n)

  -- the book before it names no parent that stands only in the book after it
  pub names_its_own-before : NamesItsOwn (without_last book)
  names_its_own-before place entry at =
      ((parent_at (without_last sires) place, old.sires_are.each place entry at), (parent_at (without_last dams) place, old.dams_are.each place entry at))

  pub IsHeld-before : IsHeld l most (without_last book) (without_last sires) (without_last dams) (without_last depths) log Nothing
  IsHeld-before = record { kept = old; within = tt; before = λ was e. absurd (cc) }

  pub childless-sire : (c : ℕ) → parent_at sires c ≡ Some (length sires - 1) → ⊥
  childless-sire c e = none-of_last c (inl e)

  pub childless-dam : (c : ℕ) → parent_at dams c ≡ Some (length dams - 1) → ⊥
  childless-dam c e =
      let m = h.kept.sires_are.long in
      let k = h.kept.dams_are.long in
      let same : length dams - 1 ≡ length sires - 1 = omega (arith, m, k) in
      none-of_last c (inr (e ∙ ap Some same))

-- the parents that taking back sets are there
module _ (l most : ℕ) (book : Book) (sires dams : List (Option ℕ)) (depths : List ℕ) (log : List (ℕ × ℕ)) (undo : Undo) (place : ℕ) (was : StoredRecord) (is_record : undo ≡ Record place was) (held : IsHeld l most book sires dams depths log undo) where
  written : IsHeld l most book sires dams depths log (Record place was)
  written = subst (λ u. IsHeld l most book sires dams depths log u) is_record held

  before : IsKept l most (set_value_at book place (animal_of (keys_of book) was)) (slice_set sires place was.sire) (slice_set dams place was.dam) (undone_writes log depths)
  before = written.before (set_value_at book place (animal_of (keys_of book) was)) refl

  undo-parent : (parent_of : Animal → Option (List ℕ)) (parents : List (Option ℕ)) (o : Option ℕ) → AreParents book parent_of parents → AreParents (set_value_at book place (animal_of (keys_of book) was)) parent_of (slice_set parents place o) →
      (p : ℕ) → o ≡ Some p → p < length parents
  undo-parent parent_of parents o are set p e =
      let m = are.long in
      let n = length-set-at book place (animal_of (keys_of book) was) in
      let here : place < length parents = let w = written.within.0 in omega (arith, w, m) in
      let w = parents-within (set_value_at book place (animal_of (keys_of book) was)) parent_of (slice_set parents place o) set place p (get_or-set_same parents place o None here ∙ e) in
      omega (arith, w, n, m)

  pub undo-sire : (p : ℕ) → was.sire ≡ Some p → p < length sires
  undo-sire = undo-parent (λ animal. animal.sire) sires was.sire written.kept.sires_are before.sires_are

  pub undo-dam : (p : ℕ) → was.dam ≡ Some p → p < length dams
  undo-dam = undo-parent (λ animal. animal.dam) dams was.dam written.kept.dams_are before.dams_are

  pub undo-sire_within : IfSome was.sire (λ p. p < length book)
  undo-sire_within = if_parent was.sire (length book) (λ p e. let w = undo-sire p e in let m = written.kept.sires_are.long in omega (arith, w, m))

  pub undo-dam_within : IfSome was.dam (λ p. p < length book)
  undo-dam_within = if_parent was.dam (length book) (λ p e. let w = undo-dam p e in let m = written.kept.dams_are.long in omega (arith, w, m))

-- a correction with no fault
module _ (l most : ℕ) (book : Book) (sires dams : List (Option ℕ)) (depths : List ℕ) (k : IsKept l most book sires dams depths)
    (number : List ℕ) (a : ℕ) (at : slice_get (keys_of book) a ≡ Some number) (was : StoredRecord) (entry : slice_get book a ≡ Some (number, animal_of (keys_of book) was))
    (sire dam : Option ℕ) (s d : Option (List ℕ)) (sire_is : IsIndexIn (keys_of book) sire s) (dam_is : IsIndexIn (keys_of book) dam d)
    (asked : IsCorrection l book number s d) where
  fine : HasNoFault l book number asked.animal.birth s d asked.animal.embryo
  fine = no_fault l book number asked.animal.birth s d asked.animal.embryo asked.parents

  pub shallow-asked : (c : ℕ) → has_path (exchanged sires dams a sire dam) (l + 1) c ≡ false
  shallow-asked = shallow-by_place l most book sires dams depths k number a at sire dam s d sire_is dam_is fine.shallow

  module _ (after : List ℕ) (long : length after ≡ length depths) (settled : IsSettled l (exchanged sires dams a sire dam) (slice_index after) []) where
    depths-asked : AreDepths l (exchanged sires dams a sire dam) (slice_index after)
    depths-asked =
        let new : Parentage ℕ = exchanged sires dams a sire dam in
        let closed : (p x : ℕ) → IsTrue (new.is_there x) → IsParent new p x → IsTrue (new.is_there p) = λ p x there is.
        lt-ltb p (length (slice_set sires a sire)) (let w = closed-after l most book sires dams depths k number a at sire dam s d sire_is dam_is p x is in let n = length-set sires a sire in omega (arith, w, n)) in
        settled-depths l new (slice_index after) closed settled
        (λ x there.
        ⊎_elim
        (λ (high : l < slice_index after x).
        let t : true ≡ false = sym (settled-deep l new (slice_index after) closed settled x there high) ∙ shallow-asked x in absurd (cc))
        (λ (low : slice_index after x ≤ l). low)
        (cases_lt l (slice_index after x)))

    IsKept-corrected : IsKept l most (changed book number (with_parents s d)) (slice_set sires a sire) (slice_set dams a dam) after
    IsKept-corrected =
        let new : Book = changed book number (with_parents s d) in
        let same : set_value_at book a (with_parents s d (animal_of (keys_of book) was)) ≡ changed book number (with_parents s d) = set-changed book k.lawful.once a number (animal_of (keys_of book) was) (with_parents s d) entry in
        let sires_are = sires-corrected l most book sires dams depths k number a at sire dam s d sire_is dam_is in
        let dams_are = dams-corrected l most book sires dams depths k number a at sire dam s d sire_is dam_is in
        let n : length new ≡ length book = ap (λ es. length es) (sym same) ∙ length-set-at book a (with_parents s d (animal_of (keys_of book) was)) in
        record {
          lawful = lawful-parents l most book number s d k.lawful asked;
          sires_are = sires_are;
          dams_are = dams_are;
          long = long ∙ k.long ∙ sym n;
          depths_are = depths-asked;
        }

    -- what is held once the correction is noted
    pub IsHeld-corrected : (log : List (ℕ × ℕ)) → All (λ write. write.0 < length depths) log → undone_writes log after ≡ depths → (was.sire ≡ parent_at sires a) × (was.dam ≡ parent_at dams a) →
        IsHeld l most (set_value_at book a (with_parents s d (animal_of (keys_of book) was))) (slice_set sires a sire) (slice_set dams a dam) after log (Record a was)
    IsHeld-corrected log logged undone parents =
        let same : set_value_at book a (with_parents s d (animal_of (keys_of book) was)) ≡ changed book number (with_parents s d) = set-changed book k.lawful.once a number (animal_of (keys_of book) was) (with_parents s d) entry in
        let n = length-set-at book a (with_parents s d (animal_of (keys_of book) was)) in
        let w = slice_get_within book a (number, animal_of (keys_of book) was) entry in
        record {
          kept = subst (λ es. IsKept l most es (slice_set sires a sire) (slice_set dams a dam) after) (sym same) IsKept-corrected;
          within = (
            omega (arith, w, n),
            subst (λ m. All (λ (write : ℕ × ℕ). write.0 < m) log) (k.long ∙ sym n) logged,
          );
          before = λ old is.
              let back : book ≡ old = sym (stored-back book a number (with_parents s d (animal_of (keys_of book) was)) was entry) ∙ same_Some _ _ is in
              let sires_same : slice_set (slice_set sires a sire) a was.sire ≡ sires = set-set sires a sire was.sire ∙ ap (λ o. slice_set sires a o) parents.0 ∙ set-get_or sires a None in
              let dams_same : slice_set (slice_set dams a dam) a was.dam ≡ dams = set-set dams a dam was.dam ∙ ap (λ o. slice_set dams a o) parents.1 ∙ set-get_or dams a None in
              rw (sires_same, dams_same, undone) (subst (λ old. IsKept l most old sires dams depths) back k);
        }
