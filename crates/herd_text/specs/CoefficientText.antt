-- Fractions and percentages as text.
use Rattle.std.specs.Prelude.{ℕ, ◌+◌, ◌*◌, ◌/◌, ◌%◌, ◌^◌, false, List, [], ◌∷◌, ◌++◌, codes, decimal}
use Rattle.herd_lineage.specs.declared.TheConstants.{DEPTH_LIMIT}
use Rattle.herd_kinship.specs.declared.fractions.Fraction.{Fraction}
use Rattle.herd_kinship.specs.Fraction.{fraction_text, halved, hundredths_of}

-- so many hundredths of a percent, with two digits after the point
abbrev pub percentage_text : ℕ → List ℕ
percentage_text hundredths = decimal (hundredths / 100) ++ codes "." ++ (48 + hundredths % 100 / 10) ∷ (48 + hundredths % 100 % 10) ∷ []

-- a coefficient with this numerator as a fraction and as a percentage, with a separator between them
unfoldable pub coefficient_text : List ℕ → ℕ → List ℕ
coefficient_text separator numerator =
    fraction_text (halved false numerator (2 ^ (2 * DEPTH_LIMIT))) ++ separator
    ++ percentage_text (hundredths_of DEPTH_LIMIT numerator)

-- what stands in the line of an animal after its number: the coefficient as a fraction and as a percentage
abbrev pub coefficient_line_end : ℕ → List ℕ
coefficient_line_end numerator = codes "," ++ coefficient_text (codes ",") numerator ++ codes "\n"

-- what stands in a line after the numbers: a value in lowest terms
abbrev pub value_line_end : Fraction → List ℕ
value_line_end value = fraction_text value ++ codes "\n"
