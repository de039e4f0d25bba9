-- The ancestry that a book tells, its animals named by their numbers.
use Rattle.std.specs.Prelude.{ℕ, Bool, false, List, [], slice_index_or}
use Rattle.std.specs.Ordering.{is_lt}
use Rattle.std.specs.Map.{keys_of}
use Rattle.std.specs.Option.{option_map_or}
use Rattle.std.specs.Str.{bytes_eq}
use Rattle.herd_frozen.specs.declared.freezing.frozen.Row.{Row}
use Rattle.herd_frozen.specs.rules.Book.{Book, record_of, sire_of, dam_of}
use Rattle.herd_frozen.specs.freezing.Frozen.{age_cmp, book_of, numbers_of}
use Rattle.herd_kinship.specs.Ancestry.{Ancestry}

-- both are in the book, and the first is before the second in age order
abbrev pub is_before : Book → List ℕ → List ℕ → Bool
is_before book x y =
    option_map_or (λ a. option_map_or (λ b. is_lt (age_cmp (x, a) (y, b))) (record_of book y) false)
    (record_of book x) false

-- the ancestry that a book tells
abbrev pub book_ancestry : Book → Ancestry (List ℕ)
book_ancestry book = record {
  animals = keys_of book;
  same = bytes_eq;
  before = is_before book;
  sire = sire_of book;
  dam = dam_of book;
}

-- the ancestry of the book that was frozen
abbrev pub ancestry_of : List Row → Ancestry (List ℕ)
ancestry_of rows = book_ancestry (book_of rows)

-- the number of the animal at a rank
abbrev pub number_of_row : List Row → ℕ → List ℕ
number_of_row rows rank = slice_index_or (numbers_of rows) rank []
