-- Coefficients and relationships as fractions or in units of 2^-120.
use Rattle.std.specs.Prelude.{ℕ, ◌*◌, ◌^◌, Bool, false, if◌then◌else◌, List, ◌++◌, codes, decimal}
use Rattle.herd_lineage.specs.declared.TheConstants.{DEPTH_LIMIT}
use Rattle.herd_kinship.specs.Fraction.{halved}
use Rattle.herd_text.specs.CoefficientText.{coefficient_line_end as fraction_line_end}
use Rattle.herd_text.specs.CoefficientText.{value_line_end}

-- so many units, at the end of a line
abbrev pub units_line_end : ℕ → List ℕ
units_line_end numerator = decimal numerator ++ codes "\n"

-- what stands in the line of an animal after its number: its coefficient in units, or as a fraction and a percentage
abbrev pub coefficient_line_end : Bool → ℕ → List ℕ
coefficient_line_end in_units numerator =
    if in_units then codes "," ++ units_line_end numerator else fraction_line_end numerator

-- what stands in the line of two animals after their numbers: their relationship in units, or as a fraction
abbrev pub relationship_line_end : Bool → ℕ → List ℕ
relationship_line_end in_units numerator =
    if in_units then units_line_end numerator
    else value_line_end (halved false numerator (2 ^ (2 * DEPTH_LIMIT)))
