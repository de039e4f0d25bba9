-- The first fault, and when it is that a path is too long.
use Rattle.std.proofs.Common.{ℕ, suc, ℤ, pos, ◌+◌, ◌<◌, ◌≤◌, ◌≡◌, ◌≢◌, ⊎_elim, inl, inr, arith, refl, sym, ap, ◌∙◌, subst, Bool, true, false, nat_lt, if◌then◌else◌, IsTrue, IsFalse, List, ◌∷◌, Option, Some, None, IfSome, length, slice_get, slice_index, slice_set, get_or}
use Rattle.std.specs.Str.{bytes_eq}
use Rattle.std.specs.List.{IsDistinct, list_any}
use Rattle.std.specs.Map.{keys_of}
use Rattle.std.specs.Option.{option_or}
use Rattle.std.proofs.lemmas.Bool.{false_from_ne_true, cases_eq, cases_lt, lt-ltb, le-ltb, ltb-true}
use Rattle.std.proofs.lemmas.Option.{slice_get_within}
use Rattle.std.proofs.lemmas.List.{get_or-set_same, get_or-set_other, length-set}
use Rattle.std.proofs.lemmas.List.Folds.{list_any_none}
use Rattle.herd_pedigree.specs.declared.registration.Newborn.{Newborn}
use Rattle.herd_pedigree.specs.Pedigree.{TellsTooDeep}
use Rattle.herd_pedigree.specs.store.Records.{set_value_at}
use Rattle.herd_frozen.specs.declared.rules.animal.Animal.{Animal}
use Rattle.herd_frozen.specs.declared.rules.parent_fault.ParentFault.{ParentFault}
use Rattle.herd_frozen.specs.declared.rules.parent_fault.ParentFault.TheVariants.{TooDeep}
use Rattle.herd_frozen.specs.rules.Paths.{Parentage, has_path}
use Rattle.herd_frozen.specs.rules.Book.{Book, record_of, parentage_of, changed, with_parents}
use Rattle.herd_frozen.specs.rules.ParentFault.{parent_fault, fault_by_records, is_too_deep}
use Rattle.herd_frozen.specs.rules.Depths.{IsParent, AreDepths, depth_from}
use Rattle.herd_frozen.specs.places.Places.{parent_at, parentage_at, IsIndexIn, AreParents}
use Rattle.herd_pedigree.specs.store.Kept.{IsKept}
use Rattle.herd_pedigree.specs.declared.store.correction.Correction.{Correction}
use Rattle.herd_pedigree.specs.store.Correction.{AreDepthsBefore, corrected}
use Rattle.herd_pedigree.specs.store.Exchange.{IsSound, exchanged}
use Rattle.herd_frozen.proofs.lemmas.rules.PathFacts.{Path, path-from_test, test-from_path, path-at_most, path-there, below_from, depths-fall, depths-path, depths-shallow}
use Rattle.herd_frozen.proofs.lemmas.places.NumberFacts.{place-within}
use Rattle.herd_frozen.proofs.lemmas.rules.BookFacts.{entry_from_key, lookup_at, length-keys}
use Rattle.herd_frozen.proofs.lemmas.ListFacts.{there}
use Rattle.herd_frozen.proofs.lemmas.rules.FaultFacts.{fault-split}
use Rattle.herd_pedigree.proofs.lemmas.store.PlaceFacts.{path_by_place, path_by_number, place_from_there, number_from_there, number_from_place}
use Rattle.herd_pedigree.proofs.lemmas.store.DepthFacts.{IsLeafSet, depths-leaf, from-most, within_some}
use Rattle.herd_pedigree.proofs.lemmas.store.ProgenyFacts.{parent-within}
use Rattle.herd_pedigree.proofs.lemmas.store.CarryFacts.{settled-but}
use Rattle.herd_frozen.proofs.lemmas.Contained.{any_found}
use Rattle.herd_pedigree.proofs.KeptFacts.{too_deep-birth}
use Rattle.herd_frozen.proofs.lemmas.rules.WrittenFacts.{written-changed, too_deep-written}
use Rattle.herd_pedigree.proofs.lemmas.store.SetFacts.{keys-set, set-changed, AreParents-set}

-- ---- the places of named parents

-- a named parent's place is within the book
pub named-within : (numbers : List (List ℕ)) (o : Option ℕ) (n : Option (List ℕ)) (p : ℕ) → IsIndexIn numbers o n → o ≡ Some p → p < length numbers
named-within numbers o n p is e = let f = number_from_place numbers o n p is e in slice_get_within numbers p f.0 f.2

-- the same over a book, also of one that is unknown
pub named-in : (book : Book) (o : Option ℕ) (n : Option (List ℕ)) → IsIndexIn (keys_of book) o n → IfSome o (λ p. p < length book)
named-in book o n is = subst (λ m. IfSome o (λ p. p < m)) (length-keys book) (place-within (keys_of book) o n is)

-- and within the places of that parent of each animal
pub named-parent : (book : Book) (parent_of : Animal → Option (List ℕ)) (parents : List (Option ℕ)) → AreParents book parent_of parents → (o : Option ℕ) (n : Option (List ℕ)) → IsIndexIn (keys_of book) o n → (p : ℕ) → o ≡ Some p → p < length parents
named-parent book parent_of parents are o n is p e =
    let within = named-within (keys_of book) o n p is e in
    let numbers = length-keys book in
    let long = are.long in
    omega (arith, within, numbers, long)

-- and so is each parent's
pub parents-within : (book : Book) (parent_of : Animal → Option (List ℕ)) (parents : List (Option ℕ)) → AreParents book parent_of parents → (c p : ℕ) → parent_at parents c ≡ Some p → p < length book
parents-within book parent_of parents a c p e =
    let w = parent-within parents c p e in
    let m = a.long in
    let entry = there book c (omega (arith, w, m)) in
    let h = named-within (keys_of book) (parent_at parents c) (parent_of entry.0.1) p (a.each c entry.0 entry.1) e in
    let n = length-keys book in
    omega (arith, h, n)

-- ---- an animal that isn't in the book

-- a path of the animals of two numbers' parents: one that isn't in the book
pub too_deep-absent : (l most : ℕ) (book : Book) (sires dams : List (Option ℕ)) (depths : List ℕ) → IsKept l most book sires dams depths → (number : List ℕ) → record_of book number ≡ None →
    (sire dam : Option ℕ) (s d : Option (List ℕ)) → IsIndexIn (keys_of book) sire s → IsIndexIn (keys_of book) dam d → nat_lt l (depth_from (slice_index depths) sire dam) ≡ is_too_deep l book number s d
too_deep-absent l most book sires dams depths k number absent sire dam s d si di =
    too_deep-birth l most book sires dams depths k number (record { birth = pos 0; sire = s; dam = d; embryo = false; herd = 0 }) absent sire dam si di

-- ---- the parents of one exchanged

-- the parents by place, with those of one exchanged
module _ (sires dams : List (Option ℕ)) (a : ℕ) (sire dam : Option ℕ) (here : a < length sires) (wide : length dams ≡ length sires) where
  pub sire-here : parent_at (slice_set sires a sire) a ≡ sire
  sire-here = get_or-set_same sires a sire None here

  pub dam-here : parent_at (slice_set dams a dam) a ≡ dam
  dam-here = get_or-set_same dams a dam None (omega (arith, here, wide))

  pub parent-elsewhere : (c p : ℕ) → c ≢ a → IsParent (exchanged sires dams a sire dam) p c → IsParent (parentage_at sires dams) p c
  parent-elsewhere c p n is =
      ⊎_elim
      (λ (e : parent_at (slice_set sires a sire) c ≡ Some p). inl (sym (get_or-set_other sires a c sire None n) ∙ e))
      (λ (e : parent_at (slice_set dams a dam) c ≡ Some p). inr (sym (get_or-set_other dams a c dam None n) ∙ e))
      is

  pub there-same : (c : ℕ) → IsTrue ((exchanged sires dams a sire dam).is_there c) → IsTrue ((parentage_at sires dams).is_there c)
  there-same c h = let w = ltb-true c (length (slice_set sires a sire)) h in lt-ltb c (length sires) (let n = length-set sires a sire in omega (arith, w, n))

module _ (l most : ℕ) (book : Book) (sires dams : List (Option ℕ)) (depths : List ℕ) (k : IsKept l most book sires dams depths)
    (number : List ℕ) (a : ℕ) (at : slice_get (keys_of book) a ≡ Some number)
    (sire dam : Option ℕ) (s d : Option (List ℕ)) (sire_is : IsIndexIn (keys_of book) sire s) (dam_is : IsIndexIn (keys_of book) dam d) where
  entry : (was : Animal) × (slice_get book a ≡ Some (number, was))
  entry = entry_from_key book a number at

  same_book : set_value_at book a (with_parents s d entry.0) ≡ changed book number (with_parents s d)
  same_book = set-changed book k.lawful.once a number entry.0 (with_parents s d) entry.1

  pub keys-corrected : keys_of (changed book number (with_parents s d)) ≡ keys_of book
  keys-corrected = ap keys_of (sym same_book) ∙ keys-set book a (with_parents s d entry.0)

  pub once-corrected : IsDistinct bytes_eq (keys_of (changed book number (with_parents s d)))
  once-corrected = subst (λ ks. IsDistinct bytes_eq ks) (sym keys-corrected) k.lawful.once

  here : a < length book
  here = slice_get_within book a (number, entry.0) entry.1

  pub sires-corrected : AreParents (changed book number (with_parents s d)) (λ animal. animal.sire) (slice_set sires a sire)
  sires-corrected = subst (λ es. AreParents es (λ animal. animal.sire) (slice_set sires a sire)) same_book (AreParents-set book (λ animal. animal.sire) sires a (with_parents s d entry.0) sire k.sires_are here sire_is)

  pub dams-corrected : AreParents (changed book number (with_parents s d)) (λ animal. animal.dam) (slice_set dams a dam)
  dams-corrected = subst (λ es. AreParents es (λ animal. animal.dam) (slice_set dams a dam)) same_book (AreParents-set book (λ animal. animal.dam) dams a (with_parents s d entry.0) dam k.dams_are here dam_is)

  pub too_deep-told : is_too_deep l book number s d ≡ list_any (has_path (parentage_of (changed book number (with_parents s d))) (l + 1)) (number ∷ keys_of book)
  too_deep-told =
      too_deep-written book (changed book number (with_parents s d)) number (with_parents s d entry.0)
      (written-changed book number (with_parents s d) entry.0 (lookup_at book k.lawful.once a number entry.0 entry.1)) l

  -- no path is too long where numbers up to l fall at each step to a parent
  pub not_deep-by : (g : ℕ → ℕ) →
      ((p c : ℕ) → IsTrue ((exchanged sires dams a sire dam).is_there c) → IsParent (exchanged sires dams a sire dam) p c → g p < g c) →
      ((c : ℕ) → IsTrue ((exchanged sires dams a sire dam).is_there c) → g c ≤ l) →
      is_too_deep l book number s d ≡ false
  not_deep-by g falls bound =
      too_deep-told ∙ list_any_none (has_path (parentage_of (changed book number (with_parents s d))) (l + 1)) (number ∷ keys_of book)
      (λ i x h.
      let y : List ℕ = get_or (number ∷ keys_of book) i x in
      let after : Parentage ℕ = exchanged sires dams a sire dam in
      false_from_ne_true (has_path (parentage_of (changed book number (with_parents s d))) (l + 1) y)
      (λ t.
      let path : Path (parentage_of (changed book number (with_parents s d))) (l + 1) y = path-from_test (parentage_of (changed book number (with_parents s d))) (l + 1) y t in
      let place = place_from_there (changed book number (with_parents s d)) (slice_set sires a sire) (slice_set dams a dam) once-corrected sires-corrected dams-corrected y (path-there (parentage_of (changed book number (with_parents s d))) (l + 1) y path) in
      let by_place : Path after (l + 1) place.0 = path_by_place (changed book number (with_parents s d)) (slice_set sires a sire) (slice_set dams a dam) once-corrected sires-corrected dams-corrected (l + 1) y place.0 place.1 path in
      let low : l + 1 ≤ g place.0 = path-at_most after g falls (l + 1) place.0 by_place in
      let high : g place.0 ≤ l = bound place.0 (path-there after (l + 1) place.0 by_place) in
      absurd (omega (arith, low, high))))

  -- parents that give no greater depth than before make no path too long
  pub not_deep-lower : depth_from (slice_index depths) sire dam ≤ slice_index depths a → is_too_deep l book number s d ≡ false
  not_deep-lower low =
      let wide : length dams ≡ length sires = k.dams_are.long ∙ sym k.sires_are.long in
      let within : a < length sires = let h = here in let n = k.sires_are.long in omega (arith, h, n) in
      let after : Parentage ℕ = exchanged sires dams a sire dam in
      not_deep-by (slice_index depths)
      (λ p c there is.
      ⊎_elim
      (λ (e : c ≡ a).
      let below : slice_index depths p < depth_from (slice_index depths) (parent_at (slice_set sires a sire) a) (parent_at (slice_set dams a dam) a) = below_from (slice_index depths) after p a (subst (λ v. IsParent after p v) e is) in
      let given : slice_index depths p < depth_from (slice_index depths) sire dam = rw (sire-here sires dams a sire dam within wide, dam-here sires dams a sire dam within wide) at below in
      subst (λ v. slice_index depths p < slice_index depths v) (sym e) (omega (arith, given, low)))
      (λ (n : c ≢ a).
      depths-fall l (parentage_at sires dams) (slice_index depths) k.depths_are p c (there-same sires dams a sire dam within wide c there) (parent-elsewhere sires dams a sire dam within wide c p n is))
      (cases_eq c a))
      (λ c there. k.depths_are.most c (there-same sires dams a sire dam within wide c there))

-- ---- the first fault

-- the first fault of the records is the first
pub fault-first : (l : ℕ) (book : Book) (number : List ℕ) (birth : ℤ) (sire dam : Option (List ℕ)) (embryo : Bool) (fault : ParentFault) →
    fault_by_records book birth sire dam embryo ≡ Some fault → Some fault ≡ parent_fault l book number birth sire dam embryo
fault-first l book number birth sire dam embryo fault e =
    sym (fault-split l book number birth sire dam embryo ∙ ap (λ o. option_or o (if is_too_deep l book number sire dam then Some TooDeep else None)) e)

-- and where there is none, a path that is too long is
pub fault-rest : (l : ℕ) (book : Book) (number : List ℕ) (birth : ℤ) (sire dam : Option (List ℕ)) (embryo deep : Bool) →
    fault_by_records book birth sire dam embryo ≡ None → deep ≡ is_too_deep l book number sire dam → (if deep then Some TooDeep else None) ≡ parent_fault l book number birth sire dam embryo
fault-rest l book number birth sire dam embryo deep e told =
    ap (λ t. if t then Some TooDeep else None) told ∙ sym (fault-split l book number birth sire dam embryo ∙ ap (λ o. option_or o (if is_too_deep l book number sire dam then Some TooDeep else None)) e)

-- where the records of the parents at these places show no fault, what is told of the paths tells the first
pub fault-told : (l : ℕ) (book now : Book) → book ≡ now → (number : List ℕ) (birth : ℤ) (s d : Option (List ℕ)) (embryo : Bool) (sire dam : Option ℕ) → fault_by_records book birth s d embryo ≡ None →
    IsIndexIn (keys_of book) sire s → IsIndexIn (keys_of book) dam d → (deep : Bool) → TellsTooDeep l now number sire dam deep → (if deep then Some TooDeep else None) ≡ parent_fault l now number birth s d embryo
fault-told l book now same number birth s d embryo sire dam shown si di deep told =
    fault-rest l now number birth s d embryo deep (subst (λ b. fault_by_records b birth s d embryo ≡ None) same shown)
    (told s d (subst (λ b. IsIndexIn (keys_of b) sire s) same si) (subst (λ b. IsIndexIn (keys_of b) dam d) same di))

-- of an animal that isn't in the book its depth does, by what is read of the depths of its parents and of the limit
module _ (l most : ℕ) (book : Book) (sires dams : List (Option ℕ)) (depths : List ℕ) (k : IsKept l most book sires dams depths) (number : List ℕ) (absent : record_of book number ≡ None)
    (newborn : Newborn) (shown : fault_by_records book newborn.birth newborn.sire newborn.dam newborn.embryo ≡ None)
    (sire dam : Option ℕ) (sire_is : IsIndexIn (keys_of book) sire newborn.sire) (dam_is : IsIndexIn (keys_of book) dam newborn.dam)
    (limit depth : ℕ) (limit_is : limit ≡ l) (depth_is : depth ≡ depth_from (slice_index depths) sire dam) where
  newborn-told : (deep : Bool) → nat_lt l (depth_from (slice_index depths) sire dam) ≡ deep → (if deep then Some TooDeep else None) ≡ parent_fault l book number newborn.birth newborn.sire newborn.dam newborn.embryo
  newborn-told deep e =
      fault-rest l book number newborn.birth newborn.sire newborn.dam newborn.embryo deep shown
      (sym e ∙ too_deep-absent l most book sires dams depths k number absent sire dam newborn.sire newborn.dam sire_is dam_is)

  pub newborn-deep : limit < depth → Some TooDeep ≡ parent_fault l book number newborn.birth newborn.sire newborn.dam newborn.embryo
  newborn-deep more = newborn-told true (lt-ltb l (depth_from (slice_index depths) sire dam) (omega (arith, more, limit_is, depth_is)))

  pub newborn-none : depth ≤ limit → None ≡ parent_fault l book number newborn.birth newborn.sire newborn.dam newborn.embryo
  newborn-none low = newborn-told false (le-ltb l (depth_from (slice_index depths) sire dam) (omega (arith, low, limit_is, depth_is)))

-- ---- a correction is sound

-- a new parent is there, where those that are exchanged are
closed-exchange : (l most : ℕ) (book : Book) (sires dams : List (Option ℕ)) (depths : List ℕ) → IsKept l most book sires dams depths → (a : ℕ) (sire dam : Option ℕ) → a < length sires →
    ((p : ℕ) → sire ≡ Some p → p < length sires) → ((p : ℕ) → dam ≡ Some p → p < length sires) → (p x : ℕ) → IsParent (exchanged sires dams a sire dam) p x → p < length sires
closed-exchange l most book sires dams depths k a sire dam here sire_in dam_in p x is =
    let wide : length dams ≡ length sires = k.dams_are.long ∙ sym k.sires_are.long in
    let m = k.sires_are.long in
    ⊎_elim
    (λ (e : x ≡ a).
    ⊎_elim
    (λ (h : parent_at (slice_set sires a sire) a ≡ Some p). sire_in p (sym (sire-here sires dams a sire dam here wide) ∙ h))
    (λ (h : parent_at (slice_set dams a dam) a ≡ Some p). dam_in p (sym (dam-here sires dams a sire dam here wide) ∙ h))
    (subst (λ v. IsParent (exchanged sires dams a sire dam) p v) e is))
    (λ (other : x ≢ a).
    ⊎_elim
    (λ (h : parent_at sires x ≡ Some p). let w = parents-within book (λ animal. animal.sire) sires k.sires_are x p h in omega (arith, w, m))
    (λ (h : parent_at dams x ≡ Some p). let w = parents-within book (λ animal. animal.dam) dams k.dams_are x p h in omega (arith, w, m))
    (parent-elsewhere sires dams a sire dam here wide x p other is))
    (cases_eq x a)

closed-within : (l most : ℕ) (book : Book) (sires dams : List (Option ℕ)) (depths : List ℕ) → IsKept l most book sires dams depths → (a : ℕ) (sire dam : Option ℕ) → a < length sires →
    IfSome sire (λ p. p < length book) → IfSome dam (λ p. p < length book) → (p x : ℕ) → IsParent (exchanged sires dams a sire dam) p x → p < length sires
closed-within l most book sires dams depths k a sire dam here sire_in dam_in =
    let m = sym k.sires_are.long in
    closed-exchange l most book sires dams depths k a sire dam here (λ p e. subst (λ n. p < n) m (within_some sire p (length book) sire_in e)) (λ p e. subst (λ n. p < n) m (within_some dam p (length book) dam_in e))

-- so that a correction of an animal of the book by parents of the book is sound
pub correction-sound : (l most : ℕ) (book : Book) (sires dams : List (Option ℕ)) (depths : List ℕ) → IsKept l most book sires dams depths → (place : ℕ) (sire dam : Option ℕ) →
    place < length book → IfSome sire (λ p. p < length book) → IfSome dam (λ p. p < length book) → IsSound sires dams place sire dam
correction-sound l most book sires dams depths k place sire dam within sire_in dam_in =
    let m = k.sires_are.long in
    let here : place < length sires = omega (arith, within, m) in
    record {
      here = here;
      wide = k.dams_are.long ∙ sym m;
      closed = closed-within l most book sires dams depths k place sire dam here sire_in dam_in;
    }

-- and finds the depths of the book
pub correction-depths : {A : Type 0} (l most : ℕ) (book : Book) (depths : List ℕ) (c : Correction A) → IsKept l most book c.sires.now.parents c.dams.now.parents depths → (found : List ℕ) → found ≡ depths → AreDepthsBefore l c found
correction-depths l most book depths c k found same =
    let sires : List (Option ℕ) = c.sires.now.parents in
    let dams : List (Option ℕ) = c.dams.now.parents in
    let long : length depths ≡ length sires = k.long ∙ sym k.sires_are.long in
    subst (λ ds. AreDepthsBefore l c ds) (sym same)
    (record {
      long = long;
      settled =
          settled-but l (parentage_at sires dams) (corrected c) depths c.place k.depths_are
          (λ x other there. (there-same sires dams c.place c.sire c.dam c.sound.here c.sound.wide x there, get_or-set_other sires c.place x c.sire None other, get_or-set_other dams c.place x c.dam None other));
      shallow = λ x within. k.depths_are.most x (lt-ltb x (length sires) (omega (arith, within, long)));
    })

-- ---- paths by places and by numbers, once the parents of one are exchanged

module _ (l most : ℕ) (book : Book) (sires dams : List (Option ℕ)) (depths : List ℕ) (k : IsKept l most book sires dams depths)
    (number : List ℕ) (a : ℕ) (at : slice_get (keys_of book) a ≡ Some number)
    (sire dam : Option ℕ) (s d : Option (List ℕ)) (sire_is : IsIndexIn (keys_of book) sire s) (dam_is : IsIndexIn (keys_of book) dam d) where
  once-after : IsDistinct bytes_eq (keys_of (changed book number (with_parents s d)))
  once-after = once-corrected l most book sires dams depths k number a at sire dam s d sire_is dam_is

  sires-after : AreParents (changed book number (with_parents s d)) (λ animal. animal.sire) (slice_set sires a sire)
  sires-after = sires-corrected l most book sires dams depths k number a at sire dam s d sire_is dam_is

  dams-after : AreParents (changed book number (with_parents s d)) (λ animal. animal.dam) (slice_set dams a dam)
  dams-after = dams-corrected l most book sires dams depths k number a at sire dam s d sire_is dam_is

  -- a path that is too long by places is one by numbers
  pub too_deep-by_place : (c : ℕ) → has_path (exchanged sires dams a sire dam) (l + 1) c ≡ true → is_too_deep l book number s d ≡ true
  too_deep-by_place c t =
      let after : Parentage ℕ = exchanged sires dams a sire dam in
      let path : Path after (l + 1) c = path-from_test after (l + 1) c t in
      let x = number_from_there (changed book number (with_parents s d)) (slice_set sires a sire) (slice_set dams a dam) once-after sires-after dams-after c (path-there after (l + 1) c path) in
      let by_number = path_by_number (changed book number (with_parents s d)) (slice_set sires a sire) (slice_set dams a dam) once-after sires-after dams-after (l + 1) c x.0 x.1 path in
      let test : has_path (parentage_of (changed book number (with_parents s d))) (l + 1) x.0 ≡ true = test-from_path (parentage_of (changed book number (with_parents s d))) (l + 1) x.0 by_number in
      let keys : slice_get (number ∷ keys_of book) (suc c) ≡ Some x.0 = ap (λ ks. slice_get ks c) (sym (keys-corrected l most book sires dams depths k number a at sire dam s d sire_is dam_is)) ∙ x.1 in
      too_deep-told l most book sires dams depths k number a at sire dam s d sire_is dam_is
      ∙ any_found (has_path (parentage_of (changed book number (with_parents s d))) (l + 1)) (number ∷ keys_of book) (suc c) x.0 keys test

  -- and where there is none, no path of the book is too long
  pub not_deep-by_place : ((c : ℕ) → has_path (exchanged sires dams a sire dam) (l + 1) c ≡ false) → is_too_deep l book number s d ≡ false
  not_deep-by_place none =
      too_deep-told l most book sires dams depths k number a at sire dam s d sire_is dam_is
      ∙ list_any_none (has_path (parentage_of (changed book number (with_parents s d))) (l + 1)) (number ∷ keys_of book)
      (λ i x h.
      let y : List ℕ = get_or (number ∷ keys_of book) i x in
      let after : Parentage ℕ = exchanged sires dams a sire dam in
      let numbers : Parentage (List ℕ) = parentage_of (changed book number (with_parents s d)) in
      false_from_ne_true (has_path numbers (l + 1) y)
      (λ t.
      let path : Path numbers (l + 1) y = path-from_test numbers (l + 1) y t in
      let place = place_from_there (changed book number (with_parents s d)) (slice_set sires a sire) (slice_set dams a dam) once-after sires-after dams-after y (path-there numbers (l + 1) y path) in
      let by_place : Path after (l + 1) place.0 = path_by_place (changed book number (with_parents s d)) (slice_set sires a sire) (slice_set dams a dam) once-after sires-after dams-after (l + 1) y place.0 place.1 path in
      let u : has_path after (l + 1) place.0 ≡ true = test-from_path after (l + 1) place.0 by_place in
      let v : has_path after (l + 1) place.0 ≡ false = none place.0 in absurd (cc)))

  -- a book with no path too long has none by places
  pub shallow-by_place : is_too_deep l book number s d ≡ false → (c : ℕ) → has_path (exchanged sires dams a sire dam) (l + 1) c ≡ false
  shallow-by_place e c =
      false_from_ne_true (has_path (exchanged sires dams a sire dam) (l + 1) c)
      (λ t. let u : true ≡ false = sym (too_deep-by_place c t) ∙ e in absurd (cc))

  a-within : a < length sires
  a-within = let w = slice_get_within (keys_of book) a number at in let n = length-keys book in let m = k.sires_are.long in omega (arith, w, n, m)

  wide-dams : length dams ≡ length sires
  wide-dams = k.dams_are.long ∙ sym k.sires_are.long

  -- a new parent is there
  pub closed-after : (p x : ℕ) → IsParent (exchanged sires dams a sire dam) p x → p < length sires
  closed-after =
      let n = length-keys book in
      let m = k.sires_are.long in
      closed-exchange l most book sires dams depths k a sire dam a-within
      (λ p e. let w = named-within (keys_of book) sire s p sire_is e in omega (arith, w, n, m))
      (λ p e. let w = named-within (keys_of book) dam d p dam_is e in omega (arith, w, n, m))

  -- parents of an animal with no calves make a path too long exactly where its own depth is too great
  pub too_deep-leaf : ((x : ℕ) → IsParent (exchanged sires dams a sire dam) a x → ⊥) → nat_lt l (depth_from (slice_index depths) sire dam) ≡ is_too_deep l book number s d
  too_deep-leaf leaf =
      let old : Parentage ℕ = parentage_at sires dams in
      let new : Parentage ℕ = exchanged sires dams a sire dam in
      let v : ℕ = depth_from (slice_index depths) sire dam in
      let h : ℕ → ℕ = slice_index (slice_set depths a v) in
      let within : a < length depths = let w = a-within in let n = k.long in let m = k.sires_are.long in omega (arith, w, n, m) in
      let n = length-set sires a sire in
      let set : IsLeafSet old new (slice_index depths) (slice_index (slice_set depths a v)) a = record {
        others = λ x there.
            ⊎_elim
            (λ (e : x ≡ a). inl e)
            (λ (other : x ≢ a). inr (record {
              there = there-same sires dams a sire dam a-within wide-dams x;
              sire = get_or-set_other sires a x sire None other;
              dam = get_or-set_other dams a x dam None other;
              depth = get_or-set_other depths a x v 0 other;
            }))
            (cases_eq x a);
        stay = λ x there. let w = ltb-true x (length sires) there in lt-ltb x (length (slice_set sires a sire)) (omega (arith, w, n));
        leaf = λ x there is. leaf x is;
        named = λ p is. lt-ltb p (length sires) (closed-after p a is);
        given =
            get_or-set_same depths a v 0 within
            ∙ sym (λ i. depth_from (slice_index depths) (sire-here sires dams a sire dam a-within wide-dams i) (dam-here sires dams a sire dam a-within wide-dams i));
      } in
      let at_a : slice_index (slice_set depths a v) a ≡ v = get_or-set_same depths a v 0 within in
      let most : v ≤ l + 1 =
      from-most (slice_index depths) l sire dam
      (λ p is.
      k.depths_are.most p (lt-ltb p (length sires) (closed-after p a (⊎_elim (λ e. inl (sire-here sires dams a sire dam a-within wide-dams ∙ e)) (λ e. inr (dam-here sires dams a sire dam a-within wide-dams ∙ e)) is)))) in
      let here : IsTrue (new.is_there a) = lt-ltb a (length (slice_set sires a sire)) (let w = a-within in omega (arith, w, n)) in
      ⊎_elim
      (λ (deep : l < v).
      let e : v ≡ l + 1 = omega (arith, deep, most) in
      let wide : AreDepths (l + 1) new (slice_index (slice_set depths a v)) = depths-leaf l (l + 1) old new (slice_index depths) (slice_index (slice_set depths a v)) a k.depths_are set (omega arith) (omega (arith, at_a, most)) in
      let path : Path new (slice_index (slice_set depths a v) a) a = depths-path (l + 1) new (slice_index (slice_set depths a v)) wide a here in
      let path' : Path new (l + 1) a = subst (λ n. Path new n a) (at_a ∙ e) path in
      lt-ltb l v deep ∙ sym (too_deep-by_place a (test-from_path new (l + 1) a path')))
      (λ (low : v ≤ l).
      let deps : AreDepths l new (slice_index (slice_set depths a v)) = depths-leaf l l old new (slice_index depths) (slice_index (slice_set depths a v)) a k.depths_are set (omega arith) (omega (arith, at_a, low)) in
      le-ltb l v low
      ∙ sym (not_deep-by_place (λ c. false_from_ne_true (has_path new (l + 1) c) (λ t. let b = depths-shallow l new (slice_index (slice_set depths a v)) deps (l + 1) c (path-from_test new (l + 1) c t) in absurd (omega (arith, b))))))
      (cases_lt l v)

  -- what the rounds over the places tell
  pub too_deep-told_by : (deep : Bool) → (IsTrue deep → (c : ℕ) × IsTrue (has_path (exchanged sires dams a sire dam) (l + 1) c)) → (IsFalse deep → (c : ℕ) → IsFalse (has_path (exchanged sires dams a sire dam) (l + 1) c)) →
      deep ≡ is_too_deep l book number s d
  too_deep-told_by true deep shallow = let path = deep refl in sym (too_deep-by_place path.0 path.1)
  too_deep-told_by false deep shallow = sym (not_deep-by_place (shallow refl))

  -- and, of an animal whose parents' records show no fault, the first one
  module _ (birth : ℤ) (embryo : Bool) (shown : fault_by_records book birth s d embryo ≡ None) where
    pub fault-deep : (c : ℕ) × IsTrue (has_path (exchanged sires dams a sire dam) (l + 1) c) → Some TooDeep ≡ parent_fault l book number birth s d embryo
    fault-deep path = fault-rest l book number birth s d embryo true shown (sym (too_deep-by_place path.0 path.1))

    pub fault-none : ((c : ℕ) → IsFalse (has_path (exchanged sires dams a sire dam) (l + 1) c)) → None ≡ parent_fault l book number birth s d embryo
    fault-none none = fault-rest l book number birth s d embryo false shown (sym (not_deep-by_place none))
