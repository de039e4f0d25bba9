-- The certificate of an animal that stands at a rank of a frozen book.
use Rattle.std.proofs.Common.{append-nil, ◌≡◌, ◌∙◌, ℕ, ◌<◌, List, [], ◌++◌, length, slice_get, Option, Some, None, true, false, Contains, refl, ap, sym, arith}
use Rattle.std.proofs.lemmas.Bool.{false≢true}
use Rattle.std.specs.Map.{keys_of}
use Rattle.std.specs.Option.{is_some, option_map_or}
use Rattle.std.proofs.lemmas.List.Elements.{Contains-get_or}
use Rattle.std.proofs.lemmas.Option.{get_or_from_slice_get, slice_get_within}
use Rattle.herd_frozen.specs.declared.rules.animal.Animal.{Animal}
use Rattle.herd_frozen.specs.declared.freezing.frozen.Row.{Row}
use Rattle.herd_frozen.specs.declared.TheConstants.{DEPTH_LIMIT, MOST_ANIMALS}
use Rattle.herd_frozen.specs.rules.Book.{Book, is_there, record_of}
use Rattle.herd_frozen.specs.freezing.Frozen.{IsFrozen, book_of, numbers_of}
use Rattle.herd_frozen.proofs.lemmas.ListFacts.{there}
use Rattle.herd_advice.specs.FrozenAncestry.{ancestry_of, number_of_row}
use Rattle.herd_kinship.specs.Table.{coefficient}
use Rattle.herd_advice.proofs.lemmas.BookFacts.{record_there}
use Rattle.herd_advice.proofs.lemmas.FrozenFacts.{length-numbers_of, number_of_row-is, numbers_are_keys, record_at-row}
use Rattle.herd_report.specs.writing.Certificate.{ancestors_text, animal_text, certificate_of, labelled_line}

-- the lines on the animal of the row there, and then those of its ancestors, are the certificate
pub certificate_made : (rows : List Row) → IsFrozen DEPTH_LIMIT MOST_ANIMALS rows
    → (rank : ℕ) (row : Row) → slice_get rows rank ≡ Some row
    → (numerator : ℕ) → numerator ≡ coefficient (ancestry_of rows) DEPTH_LIMIT (number_of_row rows rank)
    → animal_text row.number row.animal numerator ++ ancestors_text (book_of rows) (number_of_row rows rank)
    ≡ certificate_of rows (number_of_row rows rank)
certificate_made rows frozen rank row there numerator own =
    let book = book_of rows in
    let at = number_of_row-is rows rank row there in
    let text : certificate_of rows row.number
    ≡ animal_text row.number row.animal (coefficient (ancestry_of rows) DEPTH_LIMIT row.number) ++ ancestors_text book row.number =
    ap (λ found. option_map_or (λ (animal : Animal). animal_text row.number animal (coefficient (ancestry_of rows) DEPTH_LIMIT row.number) ++ ancestors_text book row.number) found [])
    (record_at-row DEPTH_LIMIT MOST_ANIMALS rows frozen rank row there) in
    let same : numerator ≡ coefficient (ancestry_of rows) DEPTH_LIMIT row.number = own ∙ ap (coefficient (ancestry_of rows) DEPTH_LIMIT) at in
    rw at (ap (λ n. animal_text row.number row.animal n ++ ancestors_text book row.number) same ∙ sym text)

-- the number that stands at a rank is there
pub number_is_there : (rows : List Row) (rank : ℕ) (number : List ℕ) → slice_get (numbers_of rows) rank ≡ Some number
    → is_there (book_of rows) number ≡ true
number_is_there rows rank number there =
    let found = get_or_from_slice_get (numbers_of rows) rank number [] there in
    let among : Contains (keys_of (book_of rows)) number =
    rw (← numbers_are_keys rows, ← found) (Contains-get_or (numbers_of rows) rank [] (slice_get_within (numbers_of rows) rank number there)) in
    ap is_some (record_there (book_of rows) number among).1

-- the row at the rank of a number has that number
pub number_at_rank : (rows : List Row) (rank : ℕ) (number : List ℕ) → slice_get (numbers_of rows) rank ≡ Some number
    → number_of_row rows rank ≡ number
number_at_rank rows rank number there = get_or_from_slice_get (numbers_of rows) rank number [] there

-- and there is such a row
pub row_at_rank : (rows : List Row) (rank : ℕ) (number : List ℕ) → slice_get (numbers_of rows) rank ≡ Some number
    → (row : Row) × (slice_get rows rank ≡ Some row) × (number ≡ row.number)
row_at_rank rows rank number stands =
    let within : rank < length rows = rw (← length-numbers_of rows) (slice_get_within (numbers_of rows) rank number stands) in
    let row = there rows rank within in
    (row.0, row.1, sym (number_at_rank rows rank number stands) ∙ number_of_row-is rows rank row.0 row.1)

some_text : (book : Book) (numerator : ℕ) (number : List ℕ) (found : Option Animal) → is_some found ≡ true
    → 0 < length (option_map_or (λ (animal : Animal). animal_text number animal numerator ++ ancestors_text book number) found [])
unfolding labelled_line
some_text book numerator number None there = absurd (false≢true there)
some_text book numerator number (Some animal) there = omega arith

-- the certificate of an animal that is there isn't empty
pub some_certificate : (rows : List Row) (number : List ℕ) → is_there (book_of rows) number ≡ true → 0 < length (certificate_of rows number)
some_certificate rows number there =
    some_text (book_of rows) (coefficient (ancestry_of rows) DEPTH_LIMIT number) number (record_of (book_of rows) number) there

-- what isn't there has no text
pub nothing_without : {A B : Type 0} (text : A → List B) (found : Option A) → is_some found ≡ false → option_map_or text found [] ≡ []
nothing_without text None absent = refl
nothing_without text (Some animal) absent = absurd (cc)

-- a number that isn't in the book has no certificate
pub no_certificate : (rows : List Row) (number text : List ℕ) → is_there (book_of rows) number ≡ false → text ≡ text ++ certificate_of rows number
no_certificate rows number text absent =
    let own = λ (animal : Animal). animal_text number animal (coefficient (ancestry_of rows) DEPTH_LIMIT number) ++ ancestors_text (book_of rows) number in
    sym (ap (λ lines. text ++ lines) (nothing_without own (record_of (book_of rows) number) absent) ∙ append-nil text)
