-- The relationships of named animals as text: their entries in A, the numerator relationship matrix.
use Rattle.std.specs.Prelude.{◌≡◌, ℕ, ◌*◌, ◌^◌, ◌==◌, Bool, false, if◌then◌else◌, List, [], ◌∷◌, ◌++◌, All, length, map}
use Rattle.std.specs.Prelude.{codes, slice_get, Some}
use Rattle.std.specs.List.{filter, flat_map}
use Rattle.herd_frozen.specs.declared.TheConstants.{DEPTH_LIMIT}
use Rattle.herd_frozen.specs.declared.freezing.frozen.Row.{Row}
use Rattle.herd_frozen.specs.freezing.Frozen.{book_of, numbers_of}
use Rattle.herd_frozen.specs.rules.Book.{Book, is_there}
use Rattle.herd_advice.specs.FrozenAncestry.{book_ancestry}
use Rattle.herd_kinship.specs.Fraction.{halved}
use Rattle.herd_kinship.specs.Table.{entry}
use Rattle.herd_report.specs.declared.writing.relationship_list.Asked.{Asked}
use Rattle.herd_text.specs.CoefficientText.{value_line_end}
use Rattle.herd_report.specs.writing.RefusedText.{refused_line_end}

-- the line of a number that isn't in the book; of one that is there is none
abbrev pub absent_line : Book → List ℕ → List ℕ
absent_line book number = if is_there book number then [] else number ++ refused_line_end 1

-- the line of two animals: their numbers and their relationship, of which this is the numerator
abbrev pub relationship_line : List ℕ → List ℕ → ℕ → List ℕ
relationship_line x y numerator =
    x ++ codes "," ++ y ++ codes "," ++ value_line_end (halved false numerator (2 ^ (2 * DEPTH_LIMIT)))

-- the lines of an animal with each of its partners: their entries
abbrev pub lines_with : Book → List ℕ → List (List ℕ) → List ℕ
lines_with book x partners =
    flat_map (λ y. relationship_line x y (entry (book_ancestry book) (2 * DEPTH_LIMIT) (Some x) (Some y))) partners

-- the partners of the first of some animals: itself and those after it where they are paired with one another, else
-- the others
abbrev pub partners_of : {X : Type 0} → Bool → List X → List X → List X
partners_of among others animals = if among then animals else others

-- the lines of each of some animals with its partners
abbrev pub pair_lines : Book → Bool → List (List ℕ) → List (List ℕ) → List ℕ
pair_lines book among others [] = []
pair_lines book among others (x ∷ rest) =
    lines_with book x (partners_of among others (x ∷ rest)) ++ pair_lines book among others rest

-- the lines of numbers with others, and where no others are given with one another: first those of the numbers that
-- aren't in the book, as they are given, and then those of all pairs that are
abbrev pub relationships_text : Book → List (List ℕ) → List (List ℕ) → List ℕ
relationships_text book numbers others =
    flat_map (absent_line book) numbers ++ flat_map (absent_line book) others
    ++ pair_lines book (length others == 0) (filter (is_there book) others) (filter (is_there book) numbers)

-- an animal as the book has it
abbrev pub IsAsked : List Row → Asked → Type 0
IsAsked rows asked = slice_get (numbers_of rows) asked.rank ≡ Some asked.number

-- the numbers of animals
abbrev pub names_of : List Asked → List (List ℕ)
names_of asked = map (λ animal. animal.number) asked

-- these are the animals of the book among some numbers
pub record AreAsked (rows : List Row) (numbers : List (List ℕ)) (asked : List Asked) : Type 0 where
  pub names : names_of asked ≡ filter (is_there (book_of rows)) numbers
  pub each : All (IsAsked rows) asked
