-- A frozen book: its records in age order, with the ranks of their known parents and their depths.
use Rattle.std.specs.Prelude.{◌≡◌, ℕ, List, map, slice_get, slice_index_or, Option, Some, IsSorted, IsPermutation}
use Rattle.std.specs.declared.cmp.Ordering.{Ordering}
use Rattle.std.specs.Cmp.Lexicographic.{slice_cmp}
use Rattle.std.specs.Ordering.{int_cmp, nat_cmp, ordering_then}
use Rattle.herd_frozen.specs.declared.rules.animal.Animal.{Animal}
use Rattle.herd_frozen.specs.declared.freezing.frozen.Row.{Row}
use Rattle.herd_lineage.specs.declared.lineage.Parents.{Parents}
use Rattle.herd_frozen.specs.rules.Book.{Book, IsDepthOf}
use Rattle.herd_frozen.specs.rules.Lawful.{IsLawful}
use Rattle.herd_frozen.specs.places.Places.{IsIndexIn}

-- the age order: by birth days, and on the same day by numbers
abbrev pub age_cmp : (List ℕ × Animal) → (List ℕ × Animal) → Ordering
age_cmp x y = ordering_then (int_cmp x.1.birth y.1.birth) (slice_cmp nat_cmp x.0 y.0)

-- the book that was frozen
abbrev pub book_of : List Row → Book
book_of rows = map (λ row. (row.number, row.animal)) rows

abbrev pub numbers_of : List Row → List (List ℕ)
numbers_of rows = map (λ row. row.number) rows

-- a parent is known or not, and the rank is that of its number
abbrev pub IsRankOf : List Row → Option ℕ → Option (List ℕ) → Type 0
IsRankOf rows = IsIndexIn (numbers_of rows)

-- a row of frozen rows
pub record IsFrozenRow (rows : List Row) (row : Row) : Type 0 where
  pub sire : IsRankOf rows row.sire row.animal.sire
  pub dam : IsRankOf rows row.dam row.animal.dam
  pub depth : IsDepthOf (book_of rows) row.number row.depth

-- the rows of a lawful book, in age order
pub record IsFrozen (l most : ℕ) (rows : List Row) : Type 0 where
  pub lawful : IsLawful l most (book_of rows)
  pub sorted : IsSorted age_cmp (book_of rows)
  pub each : (rank : ℕ) (row : Row) → slice_get rows rank ≡ Some row → IsFrozenRow rows row

-- the rows are those of the book
pub record IsFrozenFrom (l most : ℕ) (book : Book) (rows : List Row) : Type 0 where
  pub frozen : IsFrozen l most rows
  pub same : IsPermutation book (book_of rows)

-- a row without its record
abbrev pub parents_of : Row → Parents
parents_of row = record { sire = row.sire; dam = row.dam; depth = row.depth }

-- the depth at a rank, and 0 where there is none
abbrev pub depth_at : List Row → ℕ → ℕ
depth_at rows rank = slice_index_or (map (λ row. row.depth) rows) rank 0
