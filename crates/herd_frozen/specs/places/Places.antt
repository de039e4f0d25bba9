-- The book by places, which count from 0 in the order of registration.
use Rattle.std.specs.Prelude.{◌≡◌, ℕ, List, length, nat_lt, slice_get, slice_index_or, Option, Some, None}
use Rattle.std.specs.Map.{keys_of}
use Rattle.std.specs.Option.{option_and_then}
use Rattle.herd_frozen.specs.declared.rules.animal.Animal.{Animal}
use Rattle.herd_frozen.specs.rules.Paths.{Parentage}
use Rattle.herd_frozen.specs.rules.Book.{Book}

-- the place of the parent of the animal at a place
abbrev pub parent_at : List (Option ℕ) → ℕ → Option ℕ
parent_at parents place = slice_index_or parents place None

-- the places that there are, and the known parents of each
abbrev pub parentage_at : List (Option ℕ) → List (Option ℕ) → Parentage ℕ
parentage_at sires dams = record {
  is_there = λ place. nat_lt place (length sires);
  sire = parent_at sires;
  dam = parent_at dams;
}

-- the number that stands at a place
abbrev pub number_at : List (List ℕ) → Option ℕ → Option (List ℕ)
number_at numbers place = option_and_then (slice_get numbers) place

-- an index of a list is that of an element, or both are unknown
abbrev pub IsIndexIn : {X : Type 0} → List X → Option ℕ → Option X → Type 0
IsIndexIn elements None None = Unit {0}
IsIndexIn elements None (Some element) = ⊥
IsIndexIn elements (Some index) None = ⊥
IsIndexIn elements (Some index) (Some element) = slice_get elements index ≡ Some element

-- the places are those of one parent of each animal of the book
pub record AreParents (book : Book) (parent_of : Animal → Option (List ℕ)) (parents : List (Option ℕ)) : Type 0 where
  pub long : length parents ≡ length book
  pub each : (place : ℕ) (entry : List ℕ × Animal) → slice_get book place ≡ Some entry
      → IsIndexIn (keys_of book) (parent_at parents place) (parent_of entry.1)
