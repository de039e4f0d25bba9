-- The books that are filled, by the places of their animals in the order of registration.
use Rattle.std.specs.Prelude.{ℕ, zero, suc, ◌+◌, ◌*◌, ◌/◌, ◌%◌, ◌==◌, nat_lt, max, if◌then◌else◌, map, length, Some, None}
use Rattle.std.specs.List.{range_with_len}
use Rattle.herd_fixtures.specs.Birth.{entry}
use Rattle.herd_fixtures.specs.Name.{number_named}
use Rattle.herd_fixtures.specs.declared.birth.Birth.{Birth}
use Rattle.herd_fixtures.specs.declared.name.Name.TheVariants.{Bull, Cow}
use Rattle.herd_frozen.specs.rules.Book.{Book, changed, with_parents}
use Rattle.pedigree_timing.specs.declared.filling.TheConstants.{LINE, PAIRS}
use Rattle.pedigree_timing.specs.Animals.{birth_in, calf_birth}

-- the first so many animals
abbrev pub first_of : (ℕ → Birth) → ℕ → Book
first_of birth animals = map (λ place. entry (birth place)) (range_with_len 0 animals)

-- bulls come first, cows next, and then bull calves of each pair in turn
abbrev pub paired_birth : ℕ → Birth
paired_birth place =
    if nat_lt place PAIRS then birth_in 1900 (Bull place) None
    else if nat_lt place (2 * PAIRS) then birth_in 1900 (Cow place) None
    else calf_birth place (record { sire = Some (Bull (place % PAIRS)); dam = Some (Cow (PAIRS + place % PAIRS)) })

-- a founder, and then lines in which each animal is the sire of the next
abbrev pub lined_birth : ℕ → Birth
lined_birth zero = birth_in 1900 (Bull 0) None
lined_birth (suc before) =
    birth_in (1910 + before % LINE) (Bull (suc before)) (if before % LINE == 0 then None else Some (Bull before))

-- how many lines the book has, and 1 for a book of none
abbrev pub lines_in : Book → ℕ
lines_in book = max (length book / LINE) 1

-- the book after so many corrections: each line's first animal in turn gets the founder as its sire, in the next round
-- none
unfoldable pub corrected : Book → ℕ → Book
corrected book zero = book
corrected book (suc turn) =
    let lines = lines_in book in
    changed (corrected book turn) (number_named (Bull (turn % lines * LINE + 1)))
    (with_parents (if turn / lines % 2 == 0 then Some (number_named (Bull 0)) else None) None)
