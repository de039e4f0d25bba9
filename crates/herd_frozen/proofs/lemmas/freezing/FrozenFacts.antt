-- What a frozen book tells of a number, and the greatest depth of its rows.
use Rattle.std.proofs.Common.{ℕ, ◌≤◌, ◌≡◌, sym, ap, refl, ◌∙◌, false, List, [], ◌∷◌, Option, Some, None, slice_get}
use Rattle.std.specs.Prelude.{IfNone}
use Rattle.std.specs.Map.{keys_of}
use Rattle.std.proofs.lemmas.Bool.{false_from_ne_true}
use Rattle.herd_frozen.specs.declared.freezing.frozen.Row.{Row}
use Rattle.herd_frozen.specs.rules.Book.{is_there, record_of}
use Rattle.herd_frozen.specs.freezing.Frozen.{IsFrozen, book_of, numbers_of}
use Rattle.herd_frozen.proofs.lemmas.rules.BookFacts.{key_from_entry, place_of}
use Rattle.herd_frozen.proofs.lemmas.ListFacts.{is_some_with}
use Rattle.herd_frozen.proofs.lemmas.freezing.FrozenDepthFacts.{IsDepthOf-le}

-- the numbers of the book are those of the rows
pub keys-book_of : (rows : List Row) → keys_of (book_of rows) ≡ numbers_of rows
keys-book_of [] = refl
keys-book_of (row ∷ rows) = ap (λ numbers. row.number ∷ numbers) (keys-book_of rows)

-- a number that stands nowhere isn't in the book
pub not_found : (rows : List Row) (x : List ℕ) (found : Option ℕ) → IfNone found ((rank : ℕ) → slice_get (numbers_of rows) rank ≡ Some x → ⊥) → IfNone found (is_there (book_of rows) x ≡ false)
not_found rows x (Some rank) nowhere = tt
not_found rows x None nowhere =
    false_from_ne_true (is_there (book_of rows) x)
    (λ there_it_is.
    let found = is_some_with (record_of (book_of rows) x) there_it_is in
    let entry = place_of (book_of rows) x found.0 found.1 in
    nowhere entry.0 (ap (λ numbers. slice_get numbers entry.0) (sym (keys-book_of rows)) ∙ key_from_entry (book_of rows) entry.0 x found.0 entry.1))

-- the depth of a row is within the limit
pub depth-le : (l most : ℕ) (rows : List Row) → IsFrozen l most rows → (rank : ℕ) (row : Row) → slice_get rows rank ≡ Some row → row.depth ≤ l
depth-le l most rows frozen rank row at =
    IsDepthOf-le l (book_of rows) frozen.lawful.shallow row.number row.depth (frozen.each rank row at).depth
