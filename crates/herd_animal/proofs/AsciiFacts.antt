-- Numbers and days are written in ASCII.
use Rattle.std.proofs.Common.{ℕ, ◌<◌, inl, inr, arith, List, length, slice_index}
use Rattle.std.specs.Str.{IsUtf8}
use Rattle.std.proofs.lemmas.Bool.{cases_eq, cases_lt}
use Rattle.std.proofs.lemmas.List.{get_or_past}
use Rattle.std.proofs.lemmas.Str.{IsUtf8-from_ascii}
use Rattle.herd_animal.specs.AnimalNumber.{IsAnimalNumber, IsRightAt}
use Rattle.herd_animal.specs.Day.{IsDay, IsShapedAt}

-- a text is ASCII if each of its characters is
ascii-each : (text : List ℕ) → ((place : ℕ) → place < length text → slice_index text place < 128) → IsUtf8 text
ascii-each text each = IsUtf8-from_ascii text (λ place. elim (cases_lt place (length text)) [
  | inl within ↦ each place within
  | inr past ↦ let e = get_or_past text place 0 past in omega (arith, e)
])

right-ascii : (place character : ℕ) → IsRightAt place character → character < 128
right-ascii place character right =
    elim (cases_lt place 6) [
      | inl before ↦ let l = right.letter before in omega (arith, l.1)
      | inr behind ↦ elim (cases_eq place 6) [
        | inl at ↦ elim (right.sex at) [ inl male ↦ omega (arith, male) | inr female ↦ omega (arith, female) ]
        | inr other ↦ elim (right.own (omega (arith, behind, other))) [ inl letter ↦ omega (arith, letter.1) | inr digit ↦ omega (arith, digit.1) ]
      ]
    ]

shaped-ascii : (place character : ℕ) → IsShapedAt place character → character < 128
shaped-ascii place character shaped =
    elim (cases_eq place 4) [
      | inl first ↦ let d = shaped.dash (inl first) in omega (arith, d)
      | inr not_first ↦ elim (cases_eq place 7) [
        | inl second ↦ let d = shaped.dash (inr second) in omega (arith, d)
        | inr not_second ↦ let d = shaped.digit not_first not_second in omega (arith, d.1)
      ]
    ]

pub number-utf8 : (text : List ℕ) → IsAnimalNumber text → IsUtf8 text
number-utf8 text is = ascii-each text (λ place within. right-ascii place (slice_index text place) (is.right place within))

pub day-utf8 : (text : List ℕ) → IsDay text → IsUtf8 text
day-utf8 text is = ascii-each text (λ place within. shaped-ascii place (slice_index text place) (is.shape.shaped place within))
