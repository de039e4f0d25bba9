-- The records of a book by place, each with the places of its parents.
use Rattle.std.specs.Prelude.{◌≡◌, ℕ, zero, suc, ◌<◌, List, [], ◌∷◌, map, length, slice_get, IfSome, Option, Some}
use Rattle.std.specs.Map.{keys_of, values_of}
use Rattle.herd_frozen.specs.declared.rules.animal.Animal.{Animal}
use Rattle.herd_pedigree.specs.declared.store.records.StoredRecord.{StoredRecord}
use Rattle.herd_frozen.specs.rules.Book.{Book}
use Rattle.herd_frozen.specs.places.Places.{IsIndexIn, number_at}

-- what contracts see of the records: their book
pub record Records : Type 0 where
  pub book : Book

-- the entries with another value at a place
abbrev pub set_value_at : {X : Type 0} → List (List ℕ × X) → ℕ → X → List (List ℕ × X)
set_value_at [] place value = []
set_value_at (entry ∷ entries) zero value = (entry.0, value) ∷ entries
set_value_at (entry ∷ entries) (suc place) value = entry ∷ set_value_at entries place value

-- the record of an entry, with the numbers of the parents for their places
abbrev pub animal_of : List (List ℕ) → StoredRecord → Animal
animal_of numbers entry = record {
  birth = entry.birth;
  sire = number_at numbers entry.sire;
  dam = number_at numbers entry.dam;
  embryo = entry.embryo;
  herd = entry.herd;
  since = entry.since;
  left = entry.left;
}

-- what is kept of an animal whose parents stand at these places
abbrev pub stored_of : Animal → Option ℕ → Option ℕ → StoredRecord
stored_of animal sire dam = record {
  birth = animal.birth;
  sire = sire;
  dam = dam;
  embryo = animal.embryo;
  herd = animal.herd;
  since = animal.since;
  left = animal.left;
}

-- this is what is kept at a place of the book
pub record IsStoredAt (book : Book) (place : ℕ) (stored : StoredRecord) : Type 0 where
  pub animal : slice_get (values_of book) place ≡ Some (animal_of (keys_of book) stored)
  pub sire : IfSome stored.sire (λ p. p < length book)
  pub dam : IfSome stored.dam (λ p. p < length book)

-- the book of entries, with the numbers of all animals
abbrev pub book_with : List (List ℕ) → List (List ℕ × StoredRecord) → Book
book_with numbers entries = map (λ entry. (entry.0, animal_of numbers entry.1)) entries

-- the book of all entries
abbrev pub stored_book : List (List ℕ × StoredRecord) → Book
stored_book entries = book_with (keys_of entries) entries

-- the parents of entries stand among n animals
abbrev pub StandAmong : ℕ → List (List ℕ × StoredRecord) → Type 0
StandAmong n entries =
    (place : ℕ) (entry : List ℕ × StoredRecord) → slice_get entries place ≡ Some entry →
    IfSome entry.1.sire (λ p. p < n) × IfSome entry.1.dam (λ p. p < n)

-- and they stand among the entries
abbrev pub AreClosed : List (List ℕ × StoredRecord) → Type 0
AreClosed entries = StandAmong (length entries) entries

-- each parent that a book names stands in it
abbrev pub NamesItsOwn : Book → Type 0
NamesItsOwn book = (place : ℕ) (entry : List ℕ × Animal) → slice_get book place ≡ Some entry →
    ((sire : Option ℕ) × IsIndexIn (keys_of book) sire entry.1.sire)
    × ((dam : Option ℕ) × IsIndexIn (keys_of book) dam entry.1.dam)
