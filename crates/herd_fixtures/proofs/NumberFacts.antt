-- The number of a made animal is one.
use Rattle.std.proofs.Common.{◌≡◌, ℕ, zero, suc, ◌<◌, ◌≤◌, inl, inr, length, slice_index, refl, arith}
use Rattle.std.specs.Char.{IsAsciiDigit}
use Rattle.herd_animal.specs.AnimalNumber.{IsSexLetter, IsRightAt, IsAnimalNumber}
use Rattle.herd_animal.specs.declared.number.Sex.{Sex}
use Rattle.herd_animal.specs.declared.number.Sex.TheVariants.{Male, Female}
use Rattle.herd_fixtures.specs.Name.{letter_of, number_with}
use Rattle.herd_fixtures.proofs.DigitFacts.{length-digits, digit-digits}

letter_right : (place letter : ℕ) → place < 6 → 65 ≤ letter → letter ≤ 90 → IsRightAt place letter
letter_right place letter early low high = record { letter = λ _. (low, high); sex = λ here. absurd (omega arith); own = λ late. absurd (omega arith) }

sex_right : (letter : ℕ) → IsSexLetter letter → IsRightAt 6 letter
sex_right letter sex = record { letter = λ early. absurd (omega arith); sex = λ _. sex; own = λ late. absurd (omega arith) }

digit_right : (place digit : ℕ) → 6 < place → IsAsciiDigit digit → IsRightAt place digit
digit_right place digit late here = record { letter = λ early. absurd (omega arith); sex = λ same. absurd (omega arith); own = λ _. inr here }

sex_letter : (sex : Sex) → IsSexLetter (letter_of sex)
sex_letter Male = inl refl
sex_letter Female = inr refl

right_at : (sex : Sex) (number place : ℕ) → place < 19 → IsRightAt place (slice_index (number_with sex number) place)
right_at sex number zero h = letter_right 0 _ (omega arith) (omega arith) (omega arith)
right_at sex number (suc zero) h = letter_right 1 _ (omega arith) (omega arith) (omega arith)
right_at sex number (suc (suc zero)) h = letter_right 2 _ (omega arith) (omega arith) (omega arith)
right_at sex number (suc (suc (suc zero))) h = letter_right 3 _ (omega arith) (omega arith) (omega arith)
right_at sex number (suc (suc (suc (suc zero)))) h = letter_right 4 _ (omega arith) (omega arith) (omega arith)
right_at sex number (suc (suc (suc (suc (suc zero))))) h = letter_right 5 _ (omega arith) (omega arith) (omega arith)
right_at sex number (suc (suc (suc (suc (suc (suc zero)))))) h = sex_right _ (sex_letter sex)
right_at sex number (suc (suc (suc (suc (suc (suc (suc k))))))) h = digit_right _ _ (omega arith) (digit-digits 12 number k (omega arith))

pub length-number_with : (sex : Sex) (number : ℕ) → length (number_with sex number) ≡ 19
length-number_with sex number = omega (arith, length-digits 12 number)

pub IsAnimalNumber-number_with : (sex : Sex) (number : ℕ) → IsAnimalNumber (number_with sex number)
IsAnimalNumber-number_with sex number = record {
  long = length-number_with sex number;
  right = λ place within. right_at sex number place (omega (arith, length-number_with sex number));
}
