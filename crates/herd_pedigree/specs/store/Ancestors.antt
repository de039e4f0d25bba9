-- Some animals of a book and all their known ancestors, by places.
use Rattle.std.specs.Prelude.{◌≡◌, ◌⊎◌, ℕ, ◌<◌, ◌++◌, Bool, true, false, List, [], Contains, length, map, nat_eq, pos, slice_get, slice_index_or, Some, None}
use Rattle.std.specs.List.{IsDistinct}
use Rattle.std.specs.Map.{keys_of}
use Rattle.herd_frozen.specs.declared.rules.animal.Animal.{Animal}
use Rattle.herd_frozen.specs.rules.Book.{Book}

-- what contracts see of animals that were found: their places, and how many animals the book has
pub record Found : Type 0 where
  pub places : List ℕ
  pub animals : ℕ

-- each place that was found stands once, and it and no other is marked
pub record AreMarked (places : List ℕ) (marks : List Bool) : Type 0 where
  pub once : IsDistinct nat_eq places
  pub themselves : (place : ℕ) → Contains places place → slice_get marks place ≡ Some true
  pub others : (place : ℕ) → slice_get marks place ≡ Some true → Contains places place

-- a list begins with another one
abbrev pub BeginsWith : List ℕ → List ℕ → Type 0
BeginsWith old new = (rest : List ℕ) × (new ≡ old ++ rest)

-- the animal at a place has a parent, which stands at another one
pub record IsParentAt (book : Book) (place parent : ℕ) : Type 0 where
  pub entry : List ℕ × Animal
  pub number : List ℕ
  pub at : slice_get book place ≡ Some entry
  pub named : (entry.1.sire ≡ Some number) ⊎ (entry.1.dam ≡ Some number)
  pub there : slice_get (keys_of book) parent ≡ Some number

-- the animals of these numbers that are in the book were found
abbrev pub HasNamed : Book → List (List ℕ) → List ℕ → Type 0
HasNamed book numbers places =
    (number : List ℕ) (place : ℕ) → Contains numbers number → slice_get (keys_of book) place ≡ Some number
    → Contains places place

-- so were the known parents of each that was found
abbrev pub HasParents : Book → List ℕ → Type 0
HasParents book places =
    (place parent : ℕ) → Contains places place → IsParentAt book place parent → Contains places parent

-- places of the book, each once: those of these numbers and of their ancestors are among them
pub record HasAncestors (book : Book) (numbers : List (List ℕ)) (places : List ℕ) : Type 0 where
  pub within : (place : ℕ) → Contains places place → place < length book
  pub once : IsDistinct nat_eq places
  pub named : HasNamed book numbers places
  pub parents : HasParents book places

-- what is read where there is no record
abbrev pub no_entry : List ℕ × Animal
no_entry = ([], record { birth = pos 0; sire = None; dam = None; embryo = false; herd = 0; since = pos 0; left = None })

-- the records at places
abbrev pub records_at : Book → List ℕ → Book
records_at book places = map (λ place. slice_index_or book place no_entry) places
