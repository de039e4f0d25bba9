-- The book of a society: the records in the order of registration, one for each number.
use Rattle.std.specs.Prelude.{ℕ, ◌+◌, Bool, false, List, [], ◌∷◌, if◌then◌else◌, ◌&&◌, not, int_lt, is_some, Option, Some}
use Rattle.std.specs.List.{list_any}
use Rattle.std.specs.Map.{keys_of, lookup}
use Rattle.std.specs.Option.{option_and_then, option_map_or}
use Rattle.std.specs.Prelude.{ℤ}
use Rattle.std.specs.Str.{bytes_eq}
use Rattle.herd_frozen.specs.declared.rules.animal.Animal.{Animal}
use Rattle.herd_frozen.specs.rules.Paths.{Parentage, has_path, IsDepth}

abbrev pub Book : Type 0
Book = List (List ℕ × Animal)

-- what is kept under a number
abbrev pub record_of : Book → List ℕ → Option Animal
record_of book number = lookup (bytes_eq number) book

abbrev pub is_there : Book → List ℕ → Bool
is_there book number = is_some (record_of book number)

abbrev pub sire_of : Book → List ℕ → Option (List ℕ)
sire_of book number = option_and_then (λ animal. animal.sire) (record_of book number)

abbrev pub dam_of : Book → List ℕ → Option (List ℕ)
dam_of book number = option_and_then (λ animal. animal.dam) (record_of book number)

-- who is in the book, and the known parents of each
abbrev pub parentage_of : Book → Parentage (List ℕ)
parentage_of book = record { is_there = is_there book; sire = sire_of book; dam = dam_of book }

-- the longest path of known parents from the animal has n steps
abbrev pub IsDepthOf : Book → List ℕ → ℕ → Type 0
IsDepthOf book = IsDepth (parentage_of book)

-- no path is longer than l
abbrev pub is_shallow : ℕ → Book → Bool
is_shallow l book = not (list_any (has_path (parentage_of book) (l + 1)) (keys_of book))

-- the book with one record changed
abbrev pub changed : Book → List ℕ → (Animal → Animal) → Book
changed [] number change = []
changed (entry ∷ book) number change =
    if bytes_eq number entry.0 then (entry.0, change entry.1) ∷ book else entry ∷ changed book number change

-- an animal with other parents
abbrev pub with_parents : Option (List ℕ) → Option (List ℕ) → Animal → Animal
with_parents sire dam animal = record animal { sire = sire; dam = dam }

-- an animal that the herd owns from the day on
abbrev pub with_owner : ℕ → ℤ → Animal → Animal
with_owner herd day animal = record animal { herd = herd; since = day }

-- an animal that left on the day
abbrev pub with_left : ℤ → Animal → Animal
with_left day animal = record animal { left = Some day }

-- the record is that of a calf of the dam, born after the day and not from a stored embryo
abbrev pub is_calf_after : List ℕ → ℤ → Animal → Bool
is_calf_after dam day animal =
    option_map_or (bytes_eq dam) animal.dam false && (not animal.embryo && int_lt day animal.birth)

-- whether an animal is the dam of one born after the day; calves from stored embryos don't count
abbrev pub has_calved_after : Book → List ℕ → ℤ → Bool
has_calved_after book number day = list_any (λ entry. is_calf_after number day entry.1) book
