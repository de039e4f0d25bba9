-- What the words of the command line ask for, the program's own name first.
use Rattle.std.specs.Prelude.{◌≡◌, ◌<◌, ◌^◌, ℕ, max, List, slice_get, codes, Some}
use Rattle.std.specs.Str.Parse.{IsNumeral, digits_value, without_leading_plus}
use Rattle.herd_frozen.specs.rules.Book.{Book}
use Rattle.pedigree_timing.specs.Books.{first_of, paired_birth, lined_birth, corrected}
use Rattle.pedigree_timing.specs.declared.task.Task.{Task}
use Rattle.pedigree_timing.specs.declared.task.Task.TheVariants.{Births, Freeze, Corrections}

-- the digits, perhaps with a plus before them, are a number below 2 ^ 32
pub record AreDigitsOf (digits : List ℕ) (number : ℕ) : Type 0 where
  pub numeral : IsNumeral 10 (without_leading_plus digits)
  pub value : digits_value 10 (without_leading_plus digits) ≡ number
  pub fits : number < 2 ^ 32

-- this number is the word at the place
pub record HasNumber (words : List (List ℕ)) (place number : ℕ) : Type 0 where
  pub word : List ℕ
  pub there : slice_get words place ≡ Some word
  pub digits : AreDigitsOf word number

abbrev pub AsksFor : List (List ℕ) → Task → Type 0
AsksFor words (Births animals) = (slice_get words 1 ≡ Some (codes "births")) × HasNumber words 2 animals
AsksFor words (Freeze animals) = (slice_get words 1 ≡ Some (codes "freeze")) × HasNumber words 2 animals
AsksFor words (Corrections animals times) =
    (slice_get words 1 ≡ Some (codes "corrections")) × HasNumber words 2 animals × HasNumber words 3 times

-- the book in the end
abbrev pub book_after : Task → Book
book_after (Births animals) = first_of paired_birth animals
book_after (Freeze animals) = first_of paired_birth animals
book_after (Corrections animals times) = corrected (first_of lined_birth (max animals 1)) times

-- how many animals it has
abbrev pub animals_after : Task → ℕ
animals_after (Births animals) = animals
animals_after (Freeze animals) = animals
animals_after (Corrections animals times) = max animals 1
