-- Why an animal can't have these parents.
use Rattle.std.specs.Prelude.{ℕ, ◌+◌, Bool, false, List, [], ◌∷◌, ◌++◌, if◌then◌else◌, ◌&&◌, ◌||◌, not, int_lt, int_le, is_some, Option, Some, None, ℤ}
use Rattle.std.specs.List.{list_any}
use Rattle.std.specs.Map.{keys_of}
use Rattle.std.specs.Option.{option_and_then, option_map_or}
use Rattle.std.specs.Str.{bytes_eq}
use Rattle.herd_animal.specs.Sex.{is_male}
use Rattle.herd_animal.specs.declared.number.Sex.{Sex}
use Rattle.herd_animal.specs.declared.number.Sex.TheVariants.{Male, Female}
use Rattle.herd_frozen.specs.declared.rules.animal.Animal.{Animal}
use Rattle.herd_frozen.specs.declared.rules.parent_fault.ParentFault.{ParentFault}
use Rattle.herd_frozen.specs.declared.rules.parent_fault.ParentFault.TheVariants.{SireMissing, DamMissing, SireNotMale, DamNotFemale, SireNotOlder, DamNotOlder, DamGone, TooDeep}
use Rattle.herd_frozen.specs.rules.Book.{Book, record_of, is_there, sire_of, dam_of}
use Rattle.herd_frozen.specs.rules.Paths.{Parentage, has_path}

-- the first fault of a list whose test holds
abbrev pub first_that_holds : {F : Type 0} → List (Bool × F) → Option F
first_that_holds [] = None
first_that_holds (fault ∷ faults) = if fault.0 then Some fault.1 else first_that_holds faults

-- a parent is named, and passes the test
abbrev pub is_named : Option (List ℕ) → (List ℕ → Bool) → Bool
is_named parent test = option_map_or test parent false

-- the record of a parent that is named and in the book
abbrev pub record_named : Book → Option (List ℕ) → Option Animal
record_named book parent = option_and_then (record_of book) parent

-- the animal left on a day before that one
abbrev pub has_left_before : ℤ → Animal → Bool
has_left_before day animal = option_map_or (λ left. int_lt left day) animal.left false

-- a parent is named, and no record of it was found
abbrev pub is_missing : Option (List ℕ) → Option Animal → Bool
is_missing parent found = is_some parent && not (is_some found)

-- the number tells this sex
abbrev pub has_sex : Sex → List ℕ → Bool
has_sex Male number = is_male number
has_sex Female number = not (is_male number)

-- a record of a parent was found, and its birth day isn't before that of its offspring
abbrev pub is_found_not_older : ℤ → Option Animal → Bool
is_found_not_older birth found = option_map_or (λ animal. int_le birth animal.birth) found false

-- a record of a parent was found, and it left before the day
abbrev pub is_found_gone : ℤ → Option Animal → Bool
is_found_gone birth found = option_map_or (has_left_before birth) found false

-- the faults that the records of the parents show, in the order in which they are asked, each with its test
abbrev pub record_faults :
    ℤ → Option (List ℕ) → Option Animal → Option (List ℕ) → Option Animal → Bool → List (Bool × ParentFault)
record_faults birth sire sire_found dam dam_found embryo =
    (is_missing sire sire_found, SireMissing)
    ∷ (is_missing dam dam_found, DamMissing)
    ∷ (is_named sire (has_sex Female), SireNotMale)
    ∷ (is_named dam (has_sex Male), DamNotFemale)
    ∷ (is_found_not_older birth sire_found, SireNotOlder)
    ∷ (is_found_not_older birth dam_found, DamNotOlder)
    ∷ (not embryo && is_found_gone birth dam_found, DamGone)
    ∷ []

-- the first fault that the book's records of the parents show
abbrev pub fault_by_records : Book → ℤ → Option (List ℕ) → Option (List ℕ) → Bool → Option ParentFault
fault_by_records book birth sire dam embryo =
    first_that_holds (record_faults birth sire (record_named book sire) dam (record_named book dam) embryo)

-- who is in the book and their known parents, once the animal of a number has these
abbrev pub parentage_with : Book → List ℕ → Option (List ℕ) → Option (List ℕ) → Parentage (List ℕ)
parentage_with book number sire dam = record {
  is_there = λ x. bytes_eq number x || is_there book x;
  sire = λ x. if bytes_eq number x then sire else sire_of book x;
  dam = λ x. if bytes_eq number x then dam else dam_of book x;
}

-- some path of the whole book would then be longer than l; one that comes back to its animal is
abbrev pub is_too_deep : ℕ → Book → List ℕ → Option (List ℕ) → Option (List ℕ) → Bool
is_too_deep l book number sire dam =
    list_any (has_path (parentage_with book number sire dam) (l + 1)) (number ∷ keys_of book)

-- the faults of parents in the order in which they are asked: those that the book's records of them show, and last
-- that a path is too long
abbrev pub parent_faults : ℕ → Book → List ℕ → ℤ → Option (List ℕ) → Option (List ℕ) → Bool → List (Bool × ParentFault)
parent_faults l book number birth sire dam embryo =
    record_faults birth sire (record_named book sire) dam (record_named book dam) embryo
    ++ (is_too_deep l book number sire dam, TooDeep) ∷ []

-- the first fault of an animal with this number, birth day and parents
unfoldable pub parent_fault : ℕ → Book → List ℕ → ℤ → Option (List ℕ) → Option (List ℕ) → Bool → Option ParentFault
parent_fault l book number birth sire dam embryo = first_that_holds (parent_faults l book number birth sire dam embryo)
