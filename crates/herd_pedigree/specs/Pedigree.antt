-- A pedigree as contracts see it, and what a change of one record asks for.
use Rattle.std.specs.Prelude.{◌≡◌, ℕ, Bool, ◌<◌, ◌≤ℤ◌, IsFalse, ℤ, List, length, slice_get, if◌then◌else◌, IfSome, Option, Some, None}
use Rattle.std.specs.Map.{keys_of}
use Rattle.std.specs.Option.{option_map_or}
use Rattle.herd_frozen.specs.declared.rules.animal.Animal.{Animal}
use Rattle.herd_frozen.specs.declared.rules.parent_fault.ParentFault.{ParentFault}
use Rattle.herd_frozen.specs.rules.Book.{Book, is_there, record_of, has_calved_after}
use Rattle.herd_frozen.specs.rules.ParentFault.{fault_by_records, is_too_deep, parent_fault}
use Rattle.herd_frozen.specs.places.Places.{IsIndexIn}
use Rattle.herd_pedigree.specs.declared.found.Found.{Found}
use Rattle.herd_pedigree.specs.declared.registration.Newborn.{Newborn}
use Rattle.herd_pedigree.specs.declared.registration.Registration.{Registration}
use Rattle.herd_pedigree.specs.declared.registration.Registration.TheVariants.{Added, AlreadyThere, Unsound}

-- the book, and the book before the last change that can be taken back
pub record Pedigree : Type 0 where
  pub book : Book
  pub before : Option Book

-- the pedigree with another book, from which the change can be taken back
abbrev pub changed_to : Pedigree → Book → Pedigree
changed_to pedigree book = record { book = book; before = Some pedigree.book }

-- the record that a birth makes: the herd owns the animal from its birth day on, and it is there
abbrev pub birth_record : Newborn → Animal
birth_record newborn = record {
  birth = newborn.birth;
  sire = newborn.sire;
  dam = newborn.dam;
  embryo = newborn.embryo;
  herd = newborn.herd;
  since = newborn.birth;
  left = None;
}

-- what becomes of a birth: its number may be there, and else its parents may have a fault
abbrev pub registration : ℕ → Book → List ℕ → Newborn → Registration
registration l book number newborn =
    if is_there book number then AlreadyThere
    else option_map_or Unsound (parent_fault l book number newborn.birth newborn.sire newborn.dam newborn.embryo) Added

-- what becomes of one whose parents have this fault
abbrev pub unsound : Book → List ℕ → ParentFault → Registration
unsound book number fault = if is_there book number then AlreadyThere else Unsound fault

-- the number stands at the place
pub record IsFound (book : Book) (found : Found) : Type 0 where
  pub within : found.place < length book
  pub at : slice_get (keys_of book) found.place ≡ Some found.number

-- the animal may be born under the number: that is free, there is room, and the parents have no fault
pub record IsBirth (l most : ℕ) (book : Book) (number : List ℕ) (newborn : Newborn) : Type 0 where
  pub absent : record_of book number ≡ None
  pub room : length book < most
  pub parents : parent_fault l book number newborn.birth newborn.sire newborn.dam newborn.embryo ≡ None

-- this tells whether some path would be too long, once the animal of the number has the parents at these places
abbrev pub TellsTooDeep : ℕ → Book → List ℕ → Option ℕ → Option ℕ → Bool → Type 0
TellsTooDeep l book number sire dam deep =
    (s d : Option (List ℕ)) → IsIndexIn (keys_of book) sire s → IsIndexIn (keys_of book) dam d →
    deep ≡ is_too_deep l book number s d

-- of the animal of the number with these parents, this is the first fault, or that it has none
abbrev pub IsFaultWith : ℕ → Book → List ℕ → Option (List ℕ) → Option (List ℕ) → Option ParentFault → Type 0
IsFaultWith l book number sire dam fault =
    IfSome (record_of book number) (λ animal. fault ≡ parent_fault l book number animal.birth sire dam animal.embryo)

-- and this holds of the first fault that the records of these parents show, where they show one
abbrev pub IfShownWith : Book → List ℕ → Option (List ℕ) → Option (List ℕ) → (ParentFault → Type 0) → Type 0
IfShownWith book number sire dam Holds =
    IfSome (record_of book number) (λ animal. IfSome (fault_by_records book animal.birth sire dam animal.embryo) Holds)

-- the animal of the number may have these parents
pub record IsCorrection (l : ℕ) (book : Book) (number : List ℕ) (sire dam : Option (List ℕ)) : Type 0 where
  pub animal : Animal
  pub there : record_of book number ≡ Some animal
  pub parents : parent_fault l book number animal.birth sire dam animal.embryo ≡ None

-- the animal is in the book and hasn't left, and the day isn't before that from which its herd owns it
pub record IsPresentOn (book : Book) (number : List ℕ) (day : ℤ) : Type 0 where
  pub animal : Animal
  pub there : record_of book number ≡ Some animal
  pub stayed : animal.left ≡ None
  pub since : animal.since ≤ℤ day

-- the animal may leave on the day
pub record IsExit (book : Book) (number : List ℕ) (day : ℤ) : Type 0 where
  pub present : IsPresentOn book number day
  pub last : IsFalse (has_calved_after book number day)
