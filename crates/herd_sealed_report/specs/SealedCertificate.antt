-- The certificate of one animal under the seal of its book.
use Rattle.std.specs.Prelude.{◌≡◌, ℕ, List, Option, true, false}
use Rattle.std.specs.Io.KnownBytes.{Appends}
use Rattle.std.specs.List.{position_or_len}
use Rattle.std.specs.Str.{bytes_eq}
use Rattle.herd_frozen.specs.rules.Book.{is_there}
use Rattle.herd_frozen.specs.freezing.Frozen.{book_of, numbers_of}
use Rattle.herd_frozen.specs.declared.freezing.frozen.Row.{Row}
use Rattle.herd_certificate.specs.Sealed.{sealed_at}
use Rattle.herd_text.specs.Text.{AppendsFront}
use Rattle.herd_report.specs.declared.writing.named_animals_fault.NamedAnimalsFault.{NamedAnimalsFault}
use Rattle.herd_report.specs.declared.writing.named_animals_fault.NamedAnimalsFault.TheVariants.{NotRegistered, Report}

-- the place of a number of the book
abbrev pub place_of : List Row → List ℕ → ℕ
place_of rows number = position_or_len (λ other. bytes_eq other number) (numbers_of rows)

-- the certificate of a number of the book, whose journal has so many steps
abbrev pub sealed_text : List Row → ℕ → List ℕ → List ℕ
sealed_text rows steps number = sealed_at rows steps (place_of rows number)

-- the animal of a number is in the book, and its certificate was written
abbrev pub IsSealedTold : List Row → ℕ → List ℕ → Option (List ℕ) → Option (List ℕ) → Type 0
IsSealedTold rows steps number old new =
    (is_there (book_of rows) number ≡ true) × Appends old new (sealed_text rows steps number)

-- how the certificate may end early: the animal isn't in the book, and nothing was written; or it is, and some of the
-- certificate's end wasn't
abbrev pub EndsSealed : List Row → ℕ → List ℕ → Option (List ℕ) → Option (List ℕ) → NamedAnimalsFault → Type 0
EndsSealed rows steps number old new NotRegistered = (is_there (book_of rows) number ≡ false) × (new ≡ old)
EndsSealed rows steps number old new (Report fault) =
    (is_there (book_of rows) number ≡ true) × AppendsFront old new (sealed_text rows steps number)
