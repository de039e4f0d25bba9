-- A list of records, with the places where their parents are expected.
use Rattle.std.specs.Prelude.{◌≡◌, ◌<◌, ℕ, List, length, slice_get, Option, Some, None}
use Rattle.std.specs.Map.{keys_of}
use Rattle.herd_frozen.specs.declared.rules.animal.Animal.{Animal}
use Rattle.herd_frozen.specs.declared.places.links.LinkHint.{LinkHint}
use Rattle.herd_frozen.specs.rules.Book.{Book}
use Rattle.herd_frozen.specs.places.Places.{IsIndexIn}

-- the place of a parent that is known
abbrev pub if_known : Option (List ℕ) → ℕ → Option ℕ
if_known None place = None
if_known (Some number) place = Some place

-- the known parents of the animal stand where they are expected
pub record IsHinted (book : Book) (animal : Animal) (hint : LinkHint) : Type 0 where
  pub sire : IsIndexIn (keys_of book) (if_known animal.sire hint.sire) animal.sire
  pub dam : IsIndexIn (keys_of book) (if_known animal.dam hint.dam) animal.dam

-- so do those of each of the first n
abbrev pub AreHintedBelow : ℕ → Book → List LinkHint → Type 0
AreHintedBelow n book hints = (place : ℕ) (entry : List ℕ × Animal) (hint : LinkHint) → place < n
    → slice_get book place ≡ Some entry → slice_get hints place ≡ Some hint → IsHinted book entry.1 hint

-- so do those of each animal
pub record AreHinted (book : Book) (hints : List LinkHint) : Type 0 where
  pub long : length hints ≡ length book
  pub each : AreHintedBelow (length book) book hints
