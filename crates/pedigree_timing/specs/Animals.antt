-- The births of made animals.
use Rattle.std.specs.Prelude.{ℕ, ◌+◌, ◌*◌, ◌/◌, ◌%◌, Option, None}
use Rattle.herd_animal.specs.Day.{text_of}
use Rattle.herd_fixtures.specs.declared.birth.Birth.{Birth}
use Rattle.herd_fixtures.specs.declared.birth.Pair.{Pair}
use Rattle.herd_fixtures.specs.declared.name.Name.{Name}
use Rattle.herd_fixtures.specs.declared.name.Name.TheVariants.{Bull}
use Rattle.pedigree_timing.specs.declared.animals.TheConstants.{BIRTH_DAYS}

-- an animal that is born on the first day of a year, of a dam that isn't known
abbrev pub birth_in : ℕ → Name → Option Name → Birth
birth_in year name sire = record { 0 = name; 1 = text_of year 1 1; 2 = record { sire = sire; dam = None } }

-- a bull calf, born on one of the first 28 days of each month of 250 years
abbrev pub calf_birth : ℕ → Pair → Birth
calf_birth place parents =
    let shuffled = place * 7_919 % BIRTH_DAYS in
    record {
      0 = Bull place;
      1 = text_of (1910 + shuffled / 28 / 12) (1 + shuffled / 28 % 12) (1 + shuffled % 28);
      2 = parents;
    }
