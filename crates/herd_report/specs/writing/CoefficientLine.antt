-- The coefficient of one animal as text.
use Rattle.std.specs.Prelude.{◌≡◌, ℕ, List, ◌++◌, Option, true, false}
use Rattle.std.specs.Io.KnownBytes.{Appends}
use Rattle.herd_frozen.specs.rules.Book.{is_there}
use Rattle.herd_frozen.specs.freezing.Frozen.{book_of}
use Rattle.herd_frozen.specs.declared.TheConstants.{DEPTH_LIMIT}
use Rattle.herd_frozen.specs.declared.freezing.frozen.Row.{Row}
use Rattle.herd_advice.specs.FrozenAncestry.{ancestry_of}
use Rattle.herd_kinship.specs.Table.{coefficient}
use Rattle.herd_text.specs.CoefficientText.{coefficient_line_end}
use Rattle.herd_text.specs.Text.{AppendsFront}
use Rattle.herd_report.specs.declared.writing.named_animals_fault.NamedAnimalsFault.{NamedAnimalsFault}
use Rattle.herd_report.specs.declared.writing.named_animals_fault.NamedAnimalsFault.TheVariants.{NotRegistered, Report}

-- the line of an animal in a list: its number and its coefficient
abbrev pub coefficient_line : List ℕ → ℕ → List ℕ
coefficient_line number numerator = number ++ coefficient_line_end numerator

-- the line of a number of a frozen book
abbrev pub coefficient_of : List Row → List ℕ → List ℕ
coefficient_of rows number = coefficient_line number (coefficient (ancestry_of rows) DEPTH_LIMIT number)

-- the animal of a number is in the book, and its line was written
abbrev pub IsCoefficientTold : List Row → List ℕ → Option (List ℕ) → Option (List ℕ) → Type 0
IsCoefficientTold rows number old new =
    (is_there (book_of rows) number ≡ true) × Appends old new (coefficient_of rows number)

-- how the line may end early: the animal isn't in the book, and nothing was written; or it is, and some of the line's
-- end wasn't
abbrev pub EndsCoefficient : List Row → List ℕ → Option (List ℕ) → Option (List ℕ) → NamedAnimalsFault → Type 0
EndsCoefficient rows number old new NotRegistered = (is_there (book_of rows) number ≡ false) × (new ≡ old)
EndsCoefficient rows number old new (Report fault) =
    (is_there (book_of rows) number ≡ true) × AppendsFront old new (coefficient_of rows number)
