-- The numerators of a frozen book's coefficients.
use Rattle.std.proofs.Common.{◌≡◌, ◌∙◌, ℕ, ◌<◌, List, length, slice_index, slice_get, Some, ap, arith}
use Rattle.std.proofs.lemmas.Option.{slice_get_within}
use Rattle.herd_frozen.specs.declared.freezing.frozen.Row.{Row}
use Rattle.herd_advice.specs.BookCoefficients.{AreBookCoefficients}
use Rattle.herd_advice.specs.FrozenAncestry.{ancestry_of}
use Rattle.herd_kinship.specs.Table.{coefficient}
use Rattle.herd_advice.proofs.lemmas.FrozenFacts.{number_of_row-is}
use Rattle.herd_text.proofs.lemmas.TextFacts.{some_after}
use Rattle.herd_text.specs.CoefficientText.{coefficient_line_end}
use Rattle.herd_report.specs.writing.CoefficientLine.{coefficient_line}

-- the numerator at a rank is the coefficient of the row there
pub numerator_is : (l : ℕ) (rows : List Row) (numerators : List ℕ) → AreBookCoefficients l rows numerators
    → (rank : ℕ) (row : Row) → slice_get rows rank ≡ Some row
    → slice_index numerators rank ≡ coefficient (ancestry_of rows) l row.number
numerator_is l rows numerators are rank row there =
    are.right rank (slice_get_within rows rank row there)
    ∙ ap (coefficient (ancestry_of rows) l) (number_of_row-is rows rank row there)

-- a line isn't empty
pub some_coefficient_line : (number : List ℕ) (numerator : ℕ) → 0 < length (coefficient_line number numerator)
some_coefficient_line number numerator = some_after number (coefficient_line_end numerator) (omega arith)
