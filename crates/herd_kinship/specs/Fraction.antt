-- Coefficients and contributions as fractions and their texts, and as percentages.
use Rattle.std.specs.Prelude.{◌≡◌, ℕ, ◌+◌, ◌*◌, ◌-◌, ◌/◌, ◌^◌, ◌==◌, Bool, List, [], ◌++◌, codes, decimal, if◌then◌else◌, min}
use Rattle.std.specs.Int.{w128, IsGcd, trailing_zeros}
use Rattle.herd_kinship.specs.declared.fractions.Fraction.{Fraction}

-- how often both numbers can be halved
abbrev pub halvings : ℕ → ℕ → ℕ
halvings n d = min (trailing_zeros w128 n) (trailing_zeros w128 d)

-- both numbers halved as often as they can be
abbrev pub halved : Bool → ℕ → ℕ → Fraction
halved negative n d = record {
  negative = negative;
  numerator = n / 2 ^ halvings n d;
  denominator = d / 2 ^ halvings n d;
}

-- the fraction is n over d, or its negative, in lowest terms
pub record IsLowest (negative : Bool) (n d : ℕ) (fraction : Fraction) : Type 0 where
  pub sign : fraction.negative ≡ negative
  pub value : fraction.numerator * d ≡ n * fraction.denominator
  pub lowest : IsGcd fraction.numerator fraction.denominator 1

-- a minus sign where it is negative, the numerator, and where it isn't 1 the denominator after a slash
abbrev pub fraction_text : Fraction → List ℕ
fraction_text fraction =
    (if fraction.negative then codes "-" else []) ++ decimal fraction.numerator
    ++ (if fraction.denominator == 1 then [] else codes "/" ++ decimal fraction.denominator)

-- hundredths of a percent, of a numerator in unit 2^-2l, rounded to the nearest and half of one up
abbrev pub hundredths_of : ℕ → ℕ → ℕ
hundredths_of l n = (10000 * n + 2 ^ (2 * l - 1)) / 2 ^ (2 * l)
