-- The records of animals as text.
use Rattle.std.specs.Prelude.{ℕ, ◌==◌, if◌then◌else◌, List, [], length}
use Rattle.std.specs.List.{flat_map}
use Rattle.std.specs.Option.{option_map_or}
use Rattle.herd_frozen.specs.declared.freezing.frozen.Row.{Row}
use Rattle.herd_frozen.specs.freezing.Frozen.{book_of}
use Rattle.herd_frozen.specs.rules.Book.{Book, record_of}
use Rattle.herd_record_line.specs.RecordLine.{record_line}

-- the lines of all animals, in age order
abbrev pub every_record : List Row → List ℕ
every_record rows = flat_map (λ row. record_line row.number row.animal) rows

-- the line of a number of the book; a number that isn't there has none
abbrev pub line_under : Book → List ℕ → List ℕ
line_under book number = option_map_or (record_line number) (record_of book number) []

-- the lines of some numbers as they are given, and where none are given of all animals
abbrev pub records_text : List Row → List (List ℕ) → List ℕ
records_text rows numbers =
    if length numbers == 0 then every_record rows else flat_map (line_under (book_of rows)) numbers
