-- The contributions to the inverse of A, the numerator relationship matrix, as text.
use Rattle.std.specs.Prelude.{ℕ, ◌<◌, List, ◌++◌, length, codes}
use Rattle.std.specs.List.{flat_map, range_with_len}
use Rattle.herd_frozen.specs.declared.TheConstants.{DEPTH_LIMIT}
use Rattle.herd_frozen.specs.declared.freezing.frozen.Row.{Row}
use Rattle.herd_kinship.specs.declared.contribution.Contribution.{Contribution}
use Rattle.herd_advice.specs.BookContributions.{book_contributions_of}
use Rattle.herd_advice.specs.FrozenAncestry.{number_of_row}
use Rattle.herd_text.specs.CoefficientText.{value_line_end}

-- the line of an element: the animal, those of the row and of the column, and the value
abbrev pub contribution_line : List Row → List ℕ → Contribution → List ℕ
contribution_line rows number element =
    number ++ codes "," ++ number_of_row rows element.row ++ codes "," ++ number_of_row rows element.column ++ codes ","
    ++ value_line_end element.value

-- the lines of what the animal at a rank contributes
abbrev pub contributions_text : List Row → ℕ → List ℕ
contributions_text rows rank =
    flat_map (contribution_line rows (number_of_row rows rank)) (book_contributions_of DEPTH_LIMIT rows rank)

-- the lines of the animals of a frozen book in age order
abbrev pub inverse_text : List Row → List ℕ
inverse_text rows = flat_map (contributions_text rows) (range_with_len 0 (length rows))

-- the row and the column of an element are ranks of the book
pub record IsWithin (rows : List Row) (element : Contribution) : Type 0 where
  pub row : element.row < length rows
  pub column : element.column < length rows
