-- An index or none, kept as one number.
use Rattle.std.specs.Prelude.{ℕ, ◌==◌, cond, Option, Some, None}
use Rattle.std.specs.Option.{unwrap_or}

-- what is kept for none; no index is so great
abbrev pub nowhere : ℕ
nowhere = 4294967295

-- the index of which a number is kept
abbrev pub index_kept : ℕ → Option ℕ
index_kept number = cond (number == nowhere) None (Some number)

-- the number that is kept of an index
abbrev pub number_kept : Option ℕ → ℕ
number_kept index = unwrap_or index nowhere
