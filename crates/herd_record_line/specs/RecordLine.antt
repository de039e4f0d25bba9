-- The record of an animal as a line.
use Rattle.std.specs.Prelude.{◌≡◌, ℕ, ℤ, ◌≢◌, ◌⊎◌, Bool, true, false, List, [], ◌++◌, Option, Some, None, codes, decimal, not, ◌==◌}
use Rattle.std.specs.List.{All, prefix_len}
use Rattle.std.specs.Option.{ForSome}
use Rattle.herd_animal.specs.AnimalNumber.{IsAnimalNumber}
use Rattle.herd_animal.specs.Day.{IsDay, day_number, day_text}
use Rattle.herd_animal.specs.Herd.{IsHerd, IsHerdNumber}
use Rattle.herd_frozen.specs.declared.rules.animal.Animal.{Animal}

-- an animal, or `0` where it is unknown
abbrev pub known_text : Option (List ℕ) → List ℕ
known_text None = codes "0"
known_text (Some number) = number

-- the day on which an animal left, or a dash
abbrev pub left_text : Option ℤ → List ℕ
left_text None = codes "-"
left_text (Some day) = day_text day

-- `1` for an animal from a stored embryo, and else nothing
abbrev pub embryo_text : Bool → List ℕ
embryo_text true = codes "1"
embryo_text false = []

-- a field, and the comma behind it
unfoldable pub field_text : List ℕ → List ℕ
field_text field = field ++ codes ","

-- a number and what the book keeps under it: birth day, sire, dam, herd, since when, when it left, whether an embryo
unfoldable pub record_text : List ℕ → Animal → List ℕ
record_text number animal =
    field_text number ++ field_text (day_text animal.birth)
    ++ field_text (known_text animal.sire) ++ field_text (known_text animal.dam)
    ++ field_text (decimal animal.herd) ++ field_text (day_text animal.since)
    ++ field_text (left_text animal.left) ++ embryo_text animal.embryo

-- its line
abbrev pub record_line : List ℕ → Animal → List ℕ
record_line number animal = record_text number animal ++ codes "\n"

-- the place of a text's first comma, or where it has none the text's length
abbrev pub comma_place : List ℕ → ℕ
comma_place text = prefix_len (λ character. not (character == 44)) text

-- the text lacks a character
abbrev pub HasNo : ℕ → List ℕ → Type 0
HasNo character text = All (λ other. other ≢ character) text

-- the text begins with such a field, up to its first comma, and behind that is such a text
pub record HasField (IsField IsBehind : List ℕ → Type 0) (text : List ℕ) : Type 0 where
  pub field : List ℕ
  pub behind : List ℕ
  pub joined : field_text field ++ behind ≡ text
  pub plain : HasNo 44 field
  pub is_field : IsField field
  pub is_behind : IsBehind behind

-- an animal, or `0` where it is unknown
abbrev pub IsKnownText : List ℕ → Type 0
IsKnownText text = (text ≡ codes "0") ⊎ IsAnimalNumber text

-- the day on which an animal left, or a dash
abbrev pub IsLeftText : List ℕ → Type 0
IsLeftText text = (text ≡ codes "-") ⊎ IsDay text

-- `1`, or nothing
abbrev pub IsEmbryoText : List ℕ → Type 0
IsEmbryoText text = (text ≡ []) ⊎ (text ≡ codes "1")

-- the text is a record: number, birth day, sire, dam, herd, since when, when it left, whether an embryo
abbrev pub IsRecordText : List ℕ → Type 0
IsRecordText text =
    HasField IsAnimalNumber (HasField IsDay (HasField IsKnownText (HasField IsKnownText
    (HasField IsHerd (HasField IsDay (HasField IsLeftText IsEmbryoText)))))) text

-- the day has a text, from which it can be told
pub record IsWrittenDay (day : ℤ) : Type 0 where
  pub is_day : IsDay (day_text day)
  pub same : day_number (day_text day) ≡ day

-- each field of the number and the record has a text, from which it can be told
pub record IsRecord (number : List ℕ) (animal : Animal) : Type 0 where
  pub is_number : IsAnimalNumber number
  pub birth : IsWrittenDay animal.birth
  pub sire : ForSome animal.sire IsAnimalNumber
  pub dam : ForSome animal.dam IsAnimalNumber
  pub herd : IsHerdNumber animal.herd
  pub since : IsWrittenDay animal.since
  pub left : ForSome animal.left IsWrittenDay
