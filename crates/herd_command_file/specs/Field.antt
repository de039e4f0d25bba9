-- What may stand in a field of a command file, and what it means. The tests decide the grammars of `herd_animal`.
use Rattle.std.specs.Prelude.{ℕ, ◌+◌, List, [], ◌∷◌, length, slice_index, codes, Bool, true, not, ◌&&◌, ◌||◌, ◌==◌, nat_lt, if◌then◌else◌, Option, Some, None, ℤ, pos}
use Rattle.std.specs.Char.{is_ascii_digit, is_ascii_uppercase}
use Rattle.std.specs.Int.{is_in_range}
use Rattle.std.specs.List.{list_all}
use Rattle.std.specs.Str.{bytes_eq}
use Rattle.std.specs.Str.Parse.{digits_value}
use Rattle.jiff_core.specs.Calendar.{days_in_month}
use Rattle.herd_animal.specs.Day.{day_of_month, month_of, day_number, year_of}

-- each character may stand at its place, the first at this one
abbrev pub each_right : (ℕ → ℕ → Bool) → ℕ → List ℕ → Bool
each_right is_right place [] = true
each_right is_right place (character ∷ text) = is_right place character && each_right is_right (place + 1) text

-- breed and country in letters, `M` or `F`, and then letters and digits
abbrev pub is_right_in_number : ℕ → ℕ → Bool
is_right_in_number place character =
    if nat_lt place 6 then is_ascii_uppercase character
    else if place == 6 then (character == 77) || (character == 70)
    else is_ascii_uppercase character || is_ascii_digit character

-- the text is an animal number, which is its own value
unfoldable pub is_animal_number : List ℕ → Bool
is_animal_number text = (length text == 19) && each_right is_right_in_number 0 text

-- a dash at the places 4 and 7, and a digit at each other
abbrev pub is_right_in_day : ℕ → ℕ → Bool
is_right_in_day place character =
    if (place == 4) || (place == 7) then character == 45 else is_ascii_digit character

-- the calendar has the day of this year and month
abbrev pub is_in_calendar : ℕ → ℕ → ℕ → Bool
is_in_calendar year month day = is_in_range 1 12 month && is_in_range 1 (days_in_month (pos year) month) day

-- the text is a day of the book
unfoldable pub is_day : List ℕ → Bool
is_day text =
    (length text == 10) && each_right is_right_in_day 0 text
    && is_in_range 1900 2199 (year_of text) && is_in_calendar (year_of text) (month_of text) (day_of_month text)

-- the number of the day
unfoldable pub day_in : List ℕ → ℤ
day_in text = day_number text

-- the text is a herd
unfoldable pub is_herd : List ℕ → Bool
is_herd text = is_in_range 1 8 (length text) && list_all is_ascii_digit text && not (slice_index text 0 == 48)

-- the number of the herd
unfoldable pub herd_in : List ℕ → ℕ
herd_in text = digits_value 10 text

-- a field that isn't used is empty
abbrev pub is_empty : List ℕ → Bool
is_empty text = length text == 0

-- a parent is unknown
unfoldable pub is_unknown : List ℕ → Bool
is_unknown text = is_empty text || bytes_eq text (codes "0")

-- the text is a parent: unknown, or an animal number
unfoldable pub is_parent : List ℕ → Bool
is_parent text = is_unknown text || is_animal_number text

-- the number of the parent, where it is known
unfoldable pub parent_in : List ℕ → Option (List ℕ)
parent_in text = if is_unknown text then None else Some text

-- the calf was born from a stored embryo
unfoldable pub is_embryo : List ℕ → Bool
is_embryo text = bytes_eq text (codes "1")

-- the text says whether it was
unfoldable pub is_embryo_flag : List ℕ → Bool
is_embryo_flag text = is_empty text || is_embryo text
