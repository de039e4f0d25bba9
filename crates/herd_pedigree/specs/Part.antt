-- A part of a book: some animals with all their known ancestors.
use Rattle.std.specs.Prelude.{◌≡◌, ◌⊎◌, ℕ, ◌≤◌, Contains, IsTrue, List, length, Some}
use Rattle.std.specs.List.{IsDistinct}
use Rattle.std.specs.Map.{keys_of}
use Rattle.std.specs.Str.{bytes_eq}
use Rattle.herd_frozen.specs.declared.rules.animal.Animal.{Animal}
use Rattle.herd_frozen.specs.declared.freezing.frozen.Row.{Row}
use Rattle.herd_frozen.specs.freezing.Frozen.{IsFrozen, book_of}
use Rattle.herd_frozen.specs.rules.Book.{Book, is_there, record_of}
use Rattle.herd_frozen.specs.rules.Lawful.{IsLawful}

-- records of a book, among them those of each one's known parents
pub record IsPartOf (book part : Book) : Type 0 where
  pub once : IsDistinct bytes_eq (keys_of part)
  pub few : length part ≤ length book
  pub same : (number : List ℕ) (animal : Animal) → record_of part number ≡ Some animal
      → record_of book number ≡ Some animal
  pub parents : (number p : List ℕ) (animal : Animal) → record_of part number ≡ Some animal
      → (animal.sire ≡ Some p) ⊎ (animal.dam ≡ Some p) → IsTrue (is_there part p)

-- the frozen rows of a part of a lawful book: the animals of these numbers that are in the book are among them, and since
-- frozen rows are a lawful book too, all their known ancestors
pub record IsFrozenPart (l most : ℕ) (book : Book) (numbers : List (List ℕ)) (rows : List Row) : Type 0 where
  pub lawful : IsLawful l most book
  pub frozen : IsFrozen l most rows
  pub same : (number : List ℕ) (animal : Animal) → record_of (book_of rows) number ≡ Some animal
      → record_of book number ≡ Some animal
  pub named : (number : List ℕ) → Contains numbers number
      → record_of (book_of rows) number ≡ record_of book number
