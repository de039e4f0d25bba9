-- The sex in an animal number.
use Rattle.std.specs.Prelude.{ℕ, Bool, ◌==◌, if◌then◌else◌, List, slice_index}
use Rattle.herd_animal.specs.declared.number.Sex.{Sex}
use Rattle.herd_animal.specs.declared.number.Sex.TheVariants.{Male, Female}

-- the letter at place 6 is `M`
abbrev pub is_male : List ℕ → Bool
is_male number = slice_index number 6 == 77

abbrev pub sex_of : List ℕ → Sex
sex_of number = if is_male number then Male else Female
