-- How the made books grow, and what a correction leaves.
use Rattle.std.proofs.Common.{◌≡◌, ℕ, ◌+◌, ◌*◌, ◌/◌, ◌%◌, ◌==◌, if◌then◌else◌, List, [], ◌∷◌, ◌++◌, length, Option, Some, None, refl, sym, ap, ◌∙◌, arith, add-one}
use Rattle.std.proofs.lemmas.List.{length-map}
use Rattle.std.proofs.lemmas.List.Sorted.{length_permutation}
use Rattle.std.proofs.lemmas.List.FromFn.{length-map-range_with_len, map-range_with_len_more}
use Rattle.std.specs.Map.{keys_of}
use Rattle.herd_fixtures.specs.Birth.{entry}
use Rattle.herd_fixtures.specs.Name.{number_named}
use Rattle.herd_fixtures.specs.declared.birth.Birth.{Birth}
use Rattle.herd_fixtures.specs.declared.name.Name.TheVariants.{Bull}
use Rattle.herd_frozen.specs.rules.Book.{Book, changed, with_parents}
use Rattle.herd_frozen.specs.freezing.Frozen.{IsFrozenFrom, book_of}
use Rattle.herd_frozen.specs.declared.freezing.frozen.Row.{Row}
use Rattle.pedigree_timing.specs.declared.filling.TheConstants.{LINE}
use Rattle.pedigree_timing.specs.Books.{first_of, lines_in, corrected}

pub first_of-more : (birth : ℕ → Birth) (n : ℕ) → first_of birth (n + 1) ≡ first_of birth n ++ entry (birth n) ∷ []
first_of-more birth n = map-range_with_len_more (λ place. entry (birth place)) 0 n n (omega arith)

pub length-first_of : (birth : ℕ → Birth) (n : ℕ) → length (first_of birth n) ≡ n
length-first_of birth n = length-map-range_with_len (λ place. entry (birth place)) 0 n

pub length-keys_of : (book other : Book) → keys_of book ≡ keys_of other → length book ≡ length other
length-keys_of book other same =
    sym (length-map book (λ entry. entry.0)) ∙ ap length same ∙ length-map other (λ entry. entry.0)

pub corrected-none : (book : Book) → corrected book 0 ≡ book
unfolding corrected
corrected-none book = refl

pub corrected-more : (book : Book) (turn : ℕ) → corrected book (turn + 1) ≡ changed (corrected book turn) (number_named (Bull (turn % lines_in book * LINE + 1))) (with_parents (if turn / lines_in book % 2 == 0 then Some (number_named (Bull 0)) else None) None)
unfolding corrected
corrected-more book turn = rw (add-one turn) refl

-- a book in which one animal more is registered
pub first_of-next : (birth : ℕ → Birth) (n : ℕ) (was now : Book) (next : Birth) → was ≡ first_of birth n → now ≡ was ++ entry next ∷ [] → next ≡ birth n → now ≡ first_of birth (n + 1)
first_of-next birth n was now next old new same = rw (first_of-more, new, old, same) refl

-- a book in which one correction more is made
pub corrected-next : (book was now : Book) (turn lines : ℕ) (head : List ℕ) (sire : Option (List ℕ)) → was ≡ corrected book turn → lines ≡ lines_in book → head ≡ number_named (Bull (turn % lines * LINE + 1)) → sire ≡ (if turn / lines % 2 == 0 then Some (number_named (Bull 0)) else None) → now ≡ changed was head (with_parents sire None) → now ≡ corrected book (turn + 1)
corrected-next book was now turn lines head sire old many first given new =
    new ∙ rw (corrected-more book turn, old, first, given, many) refl

-- the frozen rows are as many as the animals
pub length-IsFrozenFrom : (l most : ℕ) (book : Book) (rows : List Row) (n : ℕ) → IsFrozenFrom l most book rows → length book ≡ n → length rows ≡ n
length-IsFrozenFrom l most book rows n frozen many =
    sym (length-map rows (λ row. (row.number, row.animal))) ∙ length_permutation book (book_of rows) frozen.same ∙ many
