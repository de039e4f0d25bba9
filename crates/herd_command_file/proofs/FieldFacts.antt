-- The tests of fields decide the grammars of numbers, days and herds.
use Rattle.std.proofs.Common.{◌≡◌, ℕ, zero, suc, ◌+◌, ◌<◌, List, [], ◌∷◌, length, slice_index, EachIndex, Bool, true, false, refl, ap, subst, arith, pos, ◌==◌, ◌&&◌, not}
use Rattle.std.specs.Bool.{Decides}
use Rattle.std.specs.List.{list_all}
use Rattle.std.specs.Prelude.{if◌then◌else◌, Result, Ok, Err, IfOk, IsOk}
use Rattle.std.specs.Result.{result_or}
use Rattle.std.proofs.lemmas.Bool.{false≢true}
use Rattle.std.specs.Char.{IsAsciiDigit, is_ascii_digit}
use Rattle.std.proofs.lemmas.Bool.Decides.{Decides-and, Decides-eqb, Decides-at, Decides-like, Decides-not, nat_tests}
use Rattle.std.specs.Int.{is_in_range, IsInRange}
use Rattle.jiff_core.specs.Calendar.{IsDate, days_in_month}
use Rattle.jiff_core.proofs.SignedLemmas.{signed_arith}
use Rattle.herd_animal.specs.AnimalNumber.{IsAnimalNumber, IsRightAt}
use Rattle.herd_animal.specs.Day.{IsDay, IsShapedAt, day_of_month, month_of, year_of}
use Rattle.herd_animal.specs.Herd.{IsHerd, IsInDigits}
use Rattle.herd_command_file.specs.Field.{each_right, is_animal_number, is_right_in_number, is_right_in_day, is_day, is_in_calendar, is_herd}

each-cons : (P : ℕ → ℕ → Type 0) (start c : ℕ) (text : List ℕ) → P start c × ((k : ℕ) → k < length text → P (start + 1 + k) (slice_index text k))
    → (k : ℕ) → k < suc (length text) → P (start + k) (slice_index (c ∷ text) k)
each-cons P start c text each zero within =
    let same : start ≡ start + 0 = omega arith in subst (λ n. P n c) same each.0
each-cons P start c text each (suc k) within =
    let same : start + 1 + k ≡ start + suc k = omega arith in
    subst (λ n. P n (slice_index text k)) same (each.1 k (omega arith))

each-uncons : (P : ℕ → ℕ → Type 0) (start c : ℕ) (text : List ℕ) → ((k : ℕ) → k < suc (length text) → P (start + k) (slice_index (c ∷ text) k))
    → P start c × ((k : ℕ) → k < length text → P (start + 1 + k) (slice_index text k))
each-uncons P start c text each =
    let first : start + 0 ≡ start = omega arith in (
      subst (λ n. P n c) first (each 0 (omega arith)),
      λ k within.
          let same : start + suc k ≡ start + 1 + k = omega arith in
          subst (λ n. P n (slice_index text k)) same (each (suc k) (omega arith)),
    )

each_right_from : (test : ℕ → ℕ → Bool) (P : ℕ → ℕ → Type 0) (each : (place character : ℕ) → Decides (test place character) (P place character))
    (start : ℕ) (text : List ℕ) → Decides (each_right test start text) ((k : ℕ) → k < length text → P (start + k) (slice_index text k))
each_right_from test P each start [] = (λ holds k within. absurd (omega arith), λ all. refl)
each_right_from test P each start (c ∷ text) =
    Decides-like (each_right test start (c ∷ text)) (each-cons P start c text) (each-uncons P start c text)
    (Decides-and (test start c) (each_right test (start + 1) text) (each start c) (each_right_from test P each (start + 1) text))

-- each character is right at its place
pub Decides-each_right : (test : ℕ → ℕ → Bool) (P : ℕ → ℕ → Type 0) (each : (place character : ℕ) → Decides (test place character) (P place character))
    (text : List ℕ) → Decides (each_right test 0 text) (EachIndex text (λ place. P place (slice_index text place)))
Decides-each_right test P each text =
    Decides-like (each_right test 0 text)
    (λ all k within. let same : 0 + k ≡ k = omega arith in subst (λ n. P n (slice_index text k)) same (all k within))
    (λ all k within. let same : k ≡ 0 + k = omega arith in subst (λ n. P n (slice_index text k)) same (all k within))
    (each_right_from test P each 0 text)

right-yes : (place character : ℕ) → is_right_in_number place character ≡ true → IsRightAt place character
right-yes place character holds = record {
  letter = grind (arith, nat_tests);
  sex = grind (arith, nat_tests);
  own = grind (arith, nat_tests);
}

right-back : (place character : ℕ) → IsRightAt place character → is_right_in_number place character ≡ true
right-back place character right = grind (arith, nat_tests)

pub Decides-is_animal_number : (text : List ℕ) → Decides (is_animal_number text) (IsAnimalNumber text)
unfolding is_animal_number
Decides-is_animal_number text =
    Decides-like (is_animal_number text)
    (λ both. record { long = both.0; right = both.1 }) (λ number. (number.long, number.right))
    (Decides-and (length text == 19) (each_right is_right_in_number 0 text) (Decides-eqb (length text) 19)
    (Decides-each_right is_right_in_number IsRightAt (λ place character. (right-yes place character, right-back place character)) text))

Decides-is_in_range : (low high n : ℕ) → Decides (is_in_range low high n) (IsInRange low high n)
Decides-is_in_range low high n = (λ holds. grind (arith, nat_tests), λ within. grind (arith, nat_tests))

shaped-yes : (place character : ℕ) → is_right_in_day place character ≡ true → IsShapedAt place character
shaped-yes place character holds = record {
  dash = grind (arith, nat_tests);
  digit = grind (arith, nat_tests);
}

shaped-back : (place character : ℕ) → IsShapedAt place character → is_right_in_day place character ≡ true
shaped-back place character right = grind (arith, nat_tests)

all_three : (a b c : Bool) → (a && b && c) ≡ true → (a ≡ true) × (b ≡ true) × (c ≡ true)
all_three true true c holds = (refl, refl, holds)
all_three true false c holds = absurd (false≢true holds)
all_three false b c holds = absurd (false≢true holds)

from_three : (a b c : Bool) → a ≡ true → b ≡ true → c ≡ true → (a && b && c) ≡ true
from_three a b c p q r = rw (p, q) r

decides_calendar : (year month day : ℕ) → Decides (is_in_calendar year month day) (IsInRange 1 12 month × IsInRange 1 (days_in_month (pos year) month) day)
decides_calendar year month day =
    Decides-and (is_in_range 1 12 month) (is_in_range 1 (days_in_month (pos year) month) day)
    (Decides-is_in_range 1 12 month) (Decides-is_in_range 1 (days_in_month (pos year) month) day)

-- a day of a year of the book is one that the calendar has
date-is_in_calendar : (year month day : ℕ) → IsDate (pos year) (pos month) (pos day) → is_in_calendar year month day ≡ true
date-is_in_calendar year month day date =
    (decides_calendar year month day).1
    ((omega (arith, signed_arith), omega (arith, signed_arith)), (omega (arith, signed_arith), omega (arith, signed_arith)))

is_in_calendar-date : (year month day : ℕ) → IsInRange 1900 2199 year → is_in_calendar year month day ≡ true → IsDate (pos year) (pos month) (pos day)
is_in_calendar-date year month day book holds =
    let both = (decides_calendar year month day).0 holds in
    ((omega (arith, signed_arith), omega (arith, signed_arith)), (omega (arith, signed_arith), omega (arith, signed_arith)), (omega (arith, signed_arith), omega (arith, signed_arith)))

pub Decides-is_day : (text : List ℕ) → Decides (is_day text) (IsDay text)
unfolding is_day
Decides-is_day text =
    let shape = Decides-and (length text == 10) (each_right is_right_in_day 0 text) (Decides-eqb (length text) 10)
    (Decides-each_right is_right_in_day IsShapedAt (λ place character. (shaped-yes place character, shaped-back place character)) text) in
    let year = is_in_range 1900 2199 (year_of text) in
    let calendar = is_in_calendar (year_of text) (month_of text) (day_of_month text) in (
      λ holds.
          let parts = all_three ((length text == 10) && each_right is_right_in_day 0 text) year calendar holds in
          let book = (Decides-is_in_range 1900 2199 (year_of text)).0 parts.1 in
          let dashes = shape.0 parts.0 in
          record {
            shape = record { long = dashes.0; shaped = dashes.1 };
            there = is_in_calendar-date (year_of text) (month_of text) (day_of_month text) book parts.2;
            year = book;
          },
      λ day.
          from_three ((length text == 10) && each_right is_right_in_day 0 text) year calendar
          (shape.1 (day.shape.long, day.shape.shaped))
          ((Decides-is_in_range 1900 2199 (year_of text)).1 day.year)
          (date-is_in_calendar (year_of text) (month_of text) (day_of_month text) day.there),
    )

list_all-each_right : (test : ℕ → Bool) (place : ℕ) (text : List ℕ) → list_all test text ≡ each_right (λ _ character. test character) place text
list_all-each_right test place [] = refl
list_all-each_right test place (c ∷ text) = ap (λ rest. test c && rest) (list_all-each_right test (place + 1) text)

Decides-IsInDigits : (text : List ℕ) → Decides (list_all is_ascii_digit text) (IsInDigits text)
Decides-IsInDigits text =
    Decides-at (list_all is_ascii_digit text) (each_right (λ _ character. is_ascii_digit character) 0 text)
    (list_all-each_right is_ascii_digit 0 text)
    (Decides-each_right (λ _ character. is_ascii_digit character) (λ _ character. IsAsciiDigit character)
    (λ _ character. Decides-is_in_range 48 57 character) text)

pub Decides-is_herd : (text : List ℕ) → Decides (is_herd text) (IsHerd text)
unfolding is_herd
Decides-is_herd text =
    let long = Decides-is_in_range 1 8 (length text) in
    let digits = Decides-IsInDigits text in
    let no_zero = Decides-not (slice_index text 0 == 48) (Decides-eqb (slice_index text 0) 48) in (
      λ holds.
          let parts = all_three (is_in_range 1 8 (length text)) (list_all is_ascii_digit text) (not (slice_index text 0 == 48)) holds in
          record { long = long.0 parts.0; digits = digits.0 parts.1; no_zero = no_zero.0 parts.2 },
      λ herd.
          from_three (is_in_range 1 8 (length text)) (list_all is_ascii_digit text) (not (slice_index text 0 == 48))
          (long.1 herd.long) (digits.1 herd.digits) (no_zero.1 herd.no_zero),
    )

-- a reading that is right where a test says so, with a cause in place of its fault
pub result_or-by_test : {T E D : Type 0} (read : Result T E) (test : Bool) (P : Type 0) (value : T) (cause : D)
    → Decides test P → (IsOk read → P) × (P → IsOk read) → IfOk read (λ x. x ≡ value)
    → result_or read (Err cause) ≡ (if test then Ok value else Err cause)
result_or-by_test (Ok x) true P value cause decides accepted same = ap (λ v. Ok v) same
result_or-by_test (Ok x) false P value cause decides accepted same = absurd (false≢true (decides.1 (accepted.0 refl)))
result_or-by_test (Err e) true P value cause decides accepted same = absurd (false≢true (accepted.1 (decides.0 refl)))
result_or-by_test (Err e) false P value cause decides accepted same = refl
