-- The numbers of animals that are named short.
use Rattle.std.specs.Prelude.{ℕ, zero, suc, ◌+◌, ◌/◌, ◌%◌, List, [], ◌∷◌, ◌++◌, codes}
use Rattle.herd_animal.specs.declared.number.Sex.{Sex}
use Rattle.herd_animal.specs.declared.number.Sex.TheVariants.{Male, Female}
use Rattle.herd_fixtures.specs.declared.name.Name.{Name}
use Rattle.herd_fixtures.specs.declared.name.Name.TheVariants.{Bull, Cow}

-- the last digits of a number in decimal, so many
unfoldable pub digits : ℕ → ℕ → List ℕ
digits zero number = []
digits (suc more) number = digits more (number / 10) ++ (48 + number % 10) ∷ []

abbrev pub letter_of : Sex → ℕ
letter_of Male = 77
letter_of Female = 70

-- a number that ends with these digits
abbrev pub number_with : Sex → ℕ → List ℕ
number_with sex serial = codes "HOLGBR" ++ letter_of sex ∷ digits 12 serial

abbrev pub sex_named : Name → Sex
sex_named (Bull serial) = Male
sex_named (Cow serial) = Female

abbrev pub number_named : Name → List ℕ
number_named (Bull serial) = number_with Male serial
number_named (Cow serial) = number_with Female serial
