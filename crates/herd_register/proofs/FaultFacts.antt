-- What the faults of a command say: a command without one is allowed.
use Rattle.std.proofs.Common.{◌≡◌, ℕ, zero, suc, ◌<◌, ◌≤◌, ◌≤ℤ◌, Bool, true, false, T, List, [], ◌∷◌, length, Option, Some, None, IfSome, slice_get, ℤ, refl, sym, ap, subst, ◌∙◌, arith}
use Rattle.std.specs.Prelude.{map, if◌then◌else◌, is_some, not, nat_lt, int_lt}
use Rattle.std.specs.Option.{option_map, option_map_or}
use Rattle.std.specs.Map.{keys_of}
use Rattle.std.specs.Str.{bytes_eq}
use Rattle.std.proofs.lemmas.Option.{same_Some}
use Rattle.herd_frozen.proofs.lemmas.ListFacts.{none_if}
use Rattle.herd_frozen.proofs.lemmas.rules.BookFacts.{bytes_itself}
use Rattle.std.proofs.lemmas.Bool.{false≢true, lt-ltb, ltb-true, not-false}
use lib.Signed.{lt_z_no}
use Rattle.herd_frozen.specs.rules.Book.{Book, record_of, is_there}
use Rattle.herd_frozen.specs.rules.ParentFault.{first_that_holds, parent_fault, parent_faults}
use Rattle.herd_frozen.specs.declared.rules.parent_fault.ParentFault.{ParentFault}
use Rattle.herd_pedigree.specs.declared.registration.Newborn.{Newborn}
use Rattle.herd_pedigree.specs.declared.registration.Registration.{Registration}
use Rattle.herd_pedigree.specs.declared.registration.Registration.TheVariants.{Added, AlreadyThere as There, Unsound}
use Rattle.herd_pedigree.specs.Pedigree.{IsBirth, IsCorrection, IsPresentOn, IsExit, registration}
use Rattle.herd_frozen.specs.declared.rules.animal.Animal.{Animal}
use Rattle.herd_frozen.specs.declared.TheConstants.{DEPTH_LIMIT, MOST_ANIMALS}
use Rattle.herd_register.specs.declared.command.Command.{Command}
use Rattle.herd_register.specs.declared.command.Command.TheVariants.{Birth, Parents, Transfer, Exit}
use Rattle.herd_register.specs.Limits.{Limits}
use Rattle.herd_register.specs.declared.reply.Refusal.{Refusal}
use Rattle.herd_register.specs.declared.reply.Refusal.TheVariants.{AlreadyThere, BookFull, NotRegistered}
use Rattle.herd_register.specs.Refusal.{refusal_of}
use Rattle.herd_register.specs.Run.{birth_refusals, correction_refusals, exit_refusals, fault, has_record, newborn, parent_refusals, transfer_refusals}

-- the first of renamed faults is the first fault, renamed
first_that_holds-map : {F G : Type 0} (f : F → G) (faults : List (Bool × F)) → first_that_holds (map (λ (fault : Bool × F). (fault.0, f fault.1)) faults) ≡ option_map f (first_that_holds faults)
first_that_holds-map f [] = refl
first_that_holds-map {F} {G} f (fault ∷ faults) = by fault.0 (first_that_holds-map f faults) where
  by : (holds : Bool) → first_that_holds (map (λ (fault : Bool × F). (fault.0, f fault.1)) faults) ≡ option_map f (first_that_holds faults) → (if holds then Some (f fault.1) else first_that_holds (map (λ (fault : Bool × F). (fault.0, f fault.1)) faults)) ≡ option_map f (if holds then Some fault.1 else first_that_holds faults)
  by true rest = refl
  by false rest = rest

-- the first refusal of parents is the pedigree's first fault of them
pub first_of_parent_refusals : (book : Book) (number : List ℕ) (birth : ℤ) (sire dam : Option (List ℕ)) (embryo : Bool) → first_that_holds (parent_refusals book number birth sire dam embryo) ≡ option_map refusal_of (parent_fault DEPTH_LIMIT book number birth sire dam embryo)
unfolding parent_refusals parent_fault
first_of_parent_refusals book number birth sire dam embryo = first_that_holds-map refusal_of (parent_faults DEPTH_LIMIT book number birth sire dam embryo)

-- the refusal of a birth that found room, by what became of it
abbrev pub refusal_told : Registration → Option Refusal
refusal_told Added = None
refusal_told There = Some AlreadyThere
refusal_told (Unsound fault) = Some (refusal_of fault)

told-sound : (fault : Option ParentFault) → refusal_told (option_map_or Unsound fault Added) ≡ option_map refusal_of fault
told-sound None = refl
told-sound (Some fault) = refl

pub birth-told : (limits : Limits) (book : Book) (number : List ℕ) (newborn : Newborn) → length book < limits.animals → (told : Registration) → told ≡ registration DEPTH_LIMIT book number newborn →
    refusal_told told ≡ first_that_holds (birth_refusals limits book number newborn.birth newborn.sire newborn.dam newborn.embryo)
birth-told limits book number newborn room told is = ap refusal_told is ∙ by (is_there book number) refl where
  by : (there : Bool) → is_there book number ≡ there → refusal_told (registration DEPTH_LIMIT book number newborn) ≡ first_that_holds (birth_refusals limits book number newborn.birth newborn.sire newborn.dam newborn.embryo)
  by true e = rw e refl
  by false e = rw (e, lt-ltb (length book) limits.animals room) (told-sound (parent_fault DEPTH_LIMIT book number newborn.birth newborn.sire newborn.dam newborn.embryo) ∙ sym (first_of_parent_refusals book number newborn.birth newborn.sire newborn.dam newborn.embryo))

-- a number that has a place has a record
pub registered : (book : Book) (place : ℕ) (number : List ℕ) → slice_get (keys_of book) place ≡ Some number → (here : Animal) × (record_of book number ≡ Some here)
registered [] place number at = absurd (cc)
registered (entry ∷ book) zero number at =
    let same : entry.0 ≡ number = same_Some _ _ at in
    let found : bytes_eq number entry.0 ≡ true = subst (λ (n : List ℕ). bytes_eq number n ≡ true) (sym same) (bytes_itself number) in
    (entry.1, rw found refl)
registered (entry ∷ book) (suc place) number at = by (bytes_eq number entry.0) (registered book place number at) where
  by : (found : Bool) → ((here : Animal) × (record_of book number ≡ Some here)) → (here : Animal) × ((if found then Some entry.1 else record_of book number) ≡ Some here)
  by true rest = (entry.1, refl)
  by false rest = rest

-- the refusal of a correction is the fault of the new parents, of which the pedigree tells the first
pub correction-told : (book : Book) (animal : List ℕ) (sire dam : Option (List ℕ)) (here : Animal) → record_of book animal ≡ Some here → (fault : Option ParentFault) →
    IfSome (record_of book animal) (λ there. fault ≡ parent_fault DEPTH_LIMIT book animal there.birth sire dam there.embryo) → option_map refusal_of fault ≡ first_that_holds (correction_refusals book animal sire dam)
correction-told book animal sire dam here there fault told =
    let first : fault ≡ parent_fault DEPTH_LIMIT book animal here.birth sire dam here.embryo = rw there at told in
    rw there (ap (option_map refusal_of) first ∙ sym (first_of_parent_refusals book animal here.birth sire dam here.embryo))

-- where no fault is the first that holds, each test of the list failed
abbrev NoneHolds : {F : Type 0} → List (Bool × F) → Type 0
NoneHolds [] = Unit {0}
NoneHolds (fault ∷ faults) = (fault.0 ≡ false) × NoneHolds faults

none_holds : {F : Type 0} (faults : List (Bool × F)) → first_that_holds faults ≡ None → NoneHolds faults
none_holds [] none = tt
none_holds {F} (fault ∷ faults) none = by fault.0 none (none_holds faults) where
  by : (holds : Bool) → (if holds then Some fault.1 else first_that_holds faults) ≡ None → (first_that_holds faults ≡ None → NoneHolds faults) → (holds ≡ false) × NoneHolds faults
  by true none rest = absurd (cc (none))
  by false none rest = (refl, rest none)

-- where the first test failed, the first fault is one of the others
rest_holds : {F : Type 0} (holds : Bool) (fault : F) (faults : List (Bool × F)) → first_that_holds ((holds, fault) ∷ faults) ≡ None → (holds ≡ false) × (first_that_holds faults ≡ None)
rest_holds true fault faults none = absurd (cc (none))
rest_holds false fault faults none = (refl, none)

option_map-none : {A B : Type 0} (f : A → B) (o : Option A) → option_map f o ≡ None → o ≡ None
option_map-none f None none = refl
option_map-none f (Some x) none = absurd (cc (none))

-- parents of which no refusal holds have no fault
no_parent_fault : (book : Book) (number : List ℕ) (birth : ℤ) (sire dam : Option (List ℕ)) (embryo : Bool) → first_that_holds (parent_refusals book number birth sire dam embryo) ≡ None → parent_fault DEPTH_LIMIT book number birth sire dam embryo ≡ None
no_parent_fault book number birth sire dam embryo none =
    option_map-none refusal_of _ (sym (first_of_parent_refusals book number birth sire dam embryo) ∙ none)

-- a day that isn't before another
int_lt-false : (a b : ℤ) → int_lt a b ≡ false → b ≤ℤ a
int_lt-false a b e = lt_z_no (subst (λ (t : Bool). T (not t)) (sym e) tt)

-- the animal that a transfer or an exit names is there, hasn't left, and is owned since the day or before it
present : (book : Book) (animal : List ℕ) (day : ℤ) → not (is_there book animal) ≡ false → has_record book animal (λ here. is_some here.left) ≡ false → has_record book animal (λ here. int_lt day here.since) ≡ false → IsPresentOn book animal day
present book animal day there stayed since = by (record_of book animal) refl where
  by : (here : Option Animal) → record_of book animal ≡ here → IsPresentOn book animal day
  by None absent = absurd (false≢true (sym (rw absent at there)))
  by (Some here) is = record {
    animal = here;
    there = is;
    stayed = none_if here.left (rw is at stayed);
    since = int_lt-false day here.since (rw is at since);
  }

-- a birth without a fault is of a number that isn't in the book, and finds room
pub birth_room : (limits : Limits) (book : Book) (animal : List ℕ) (day : ℤ) (sire dam : Option (List ℕ)) (herd : ℕ) (embryo : Bool) → fault limits book (Birth animal day sire dam herd embryo) ≡ None → (is_there book animal ≡ false) × (length book < limits.animals) × (first_that_holds (parent_refusals book animal day sire dam embryo) ≡ None)
birth_room limits book animal day sire dam herd embryo none =
    let parents = parent_refusals book animal day sire dam embryo in
    let new = rest_holds (is_there book animal) AlreadyThere ((not (nat_lt (length book) limits.animals), BookFull) ∷ parents) none in
    let room = rest_holds (not (nat_lt (length book) limits.animals)) BookFull parents new.1 in
    (new.0, ltb-true _ _ (not-false _ room.0), room.1)

no_birth_fault : (limits : Limits) (book : Book) (animal : List ℕ) (day : ℤ) (sire dam : Option (List ℕ)) (herd : ℕ) (embryo : Bool) → limits.animals ≤ MOST_ANIMALS → fault limits book (Birth animal day sire dam herd embryo) ≡ None → IsBirth DEPTH_LIMIT MOST_ANIMALS book animal (newborn day sire dam herd embryo)
no_birth_fault limits book animal day sire dam herd embryo most none =
    let room = birth_room limits book animal day sire dam herd embryo none in
    record {
      absent = none_if (record_of book animal) room.0;
      room = omega arith;
      parents = no_parent_fault book animal day sire dam embryo room.2;
    }

no_correction_fault : (book : Book) (animal : List ℕ) (sire dam : Option (List ℕ)) → first_that_holds (correction_refusals book animal sire dam) ≡ None → IsCorrection DEPTH_LIMIT book animal sire dam
no_correction_fault book animal sire dam none = by (record_of book animal) refl where
  by : (here : Option Animal) → record_of book animal ≡ here → IsCorrection DEPTH_LIMIT book animal sire dam
  by None absent = let some : first_that_holds ((true, NotRegistered) ∷ []) ≡ None = rw absent at none in absurd (cc (some))
  by (Some here) there = record {
    animal = here;
    there = there;
    parents = no_parent_fault book animal here.birth sire dam here.embryo (rw there at none);
  }

pub no_transfer_fault : (book : Book) (animal : List ℕ) (day : ℤ) (giver taker : ℕ) → first_that_holds (transfer_refusals book animal day giver taker) ≡ None → IsPresentOn book animal day
no_transfer_fault book animal day giver taker none =
    let failed = none_holds (transfer_refusals book animal day giver taker) none in
    present book animal day failed.0 failed.1.0 failed.1.1.1.1.0

pub no_exit_fault : (book : Book) (animal : List ℕ) (day : ℤ) → first_that_holds (exit_refusals book animal day) ≡ None → IsExit book animal day
no_exit_fault book animal day none =
    let failed = none_holds (exit_refusals book animal day) none in
    record { present = present book animal day failed.0 failed.1.0 failed.1.1.0; last = failed.1.1.1.0 }

-- the change that the command makes leaves the book lawful
abbrev pub IsAllowed : Book → Command → Type 0
IsAllowed book (Birth animal day sire dam herd embryo) =
    IsBirth DEPTH_LIMIT MOST_ANIMALS book animal (newborn day sire dam herd embryo)
IsAllowed book (Parents animal sire dam) = IsCorrection DEPTH_LIMIT book animal sire dam
IsAllowed book (Transfer animal day giver taker) = IsPresentOn book animal day
IsAllowed book (Exit animal day) = IsExit book animal day

-- a command without a fault is allowed
pub allowed_of_no_fault : (limits : Limits) (book : Book) (command : Command) → limits.animals ≤ MOST_ANIMALS → fault limits book command ≡ None → IsAllowed book command
allowed_of_no_fault limits book (Birth animal day sire dam herd embryo) most none = no_birth_fault limits book animal day sire dam herd embryo most none
allowed_of_no_fault limits book (Parents animal sire dam) most none = no_correction_fault book animal sire dam none
allowed_of_no_fault limits book (Transfer animal day giver taker) most none = no_transfer_fault book animal day giver taker none
allowed_of_no_fault limits book (Exit animal day) most none = no_exit_fault book animal day none
