-- Texts on numbers each of which must be in the book.
use Rattle.std.specs.Prelude.{◌≡◌, ℕ, Bool, List, Option, true, false}
use Rattle.std.specs.Io.KnownBytes.{Appends}
use Rattle.std.specs.List.{list_all}
use Rattle.herd_frozen.specs.rules.Book.{Book, is_there}
use Rattle.herd_text.specs.Text.{EndsReport}
use Rattle.herd_report.specs.declared.writing.named_animals_fault.NamedAnimalsFault.{NamedAnimalsFault}
use Rattle.herd_report.specs.declared.writing.named_animals_fault.NamedAnimalsFault.TheVariants.{NotRegistered, Report}

-- each of some numbers is in the book
abbrev pub are_there : Book → List (List ℕ) → Bool
are_there book numbers = list_all (is_there book) numbers

-- each is in the book, and the text on them was written
abbrev pub IsWrittenOf : Book → List (List ℕ) → List ℕ → Option (List ℕ) → Option (List ℕ) → Type 0
IsWrittenOf book numbers text old new = (are_there book numbers ≡ true) × Appends old new text

-- how that may end early: one isn't in the book, and nothing was written; or each is, and the report ended early
abbrev pub EndsWritingOf : Book → List (List ℕ) → List ℕ → Option (List ℕ) → Option (List ℕ) → NamedAnimalsFault → Type 0
EndsWritingOf book numbers text old new NotRegistered = (are_there book numbers ≡ false) × (new ≡ old)
EndsWritingOf book numbers text old new (Report fault) =
    (are_there book numbers ≡ true) × EndsReport old new text fault
