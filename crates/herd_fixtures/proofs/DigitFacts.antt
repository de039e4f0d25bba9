-- The digits of a number, written from the last to the first.
use Rattle.std.proofs.Common.{◌≡◌, ℕ, zero, suc, ◌+◌, ◌/◌, ◌%◌, ◌<◌, ◌≤◌, inl, inr, List, [], ◌∷◌, ◌++◌, length, drop, set, slice_index, refl, sym, ap, ◌∙◌, arith, append_assoc, add-one, length-append}
use Rattle.std.proofs.Math.Seq.{get_or-append_seam}
use Rattle.std.proofs.lemmas.Bool.{cases_order}
use Rattle.std.proofs.lemmas.List.{drop-set, get_or_append_left}
use Rattle.std.specs.Char.{IsAsciiDigit}
use Rattle.herd_fixtures.specs.Name.{digits}

pub length-digits : (k number : ℕ) → length (digits k number) ≡ k
unfolding digits
length-digits zero number = refl
length-digits (suc k) number = omega (arith, length-append (digits k (number / 10)) ((48 + number % 10) ∷ []), length-digits k (number / 10))

-- one more digit is written before those that are there
pub digits-more : (place before number : ℕ) (text : List ℕ) → place ≡ suc before → before < length text → digits place number ++ drop place text ≡ digits before (number / 10) ++ drop before (set text before (48 + number % 10))
unfolding digits
digits-more place before number text next within =
    rw next (append_assoc (digits before (number / 10)) ((48 + number % 10) ∷ []) (drop (suc before) text)
    ∙ ap (λ rest. digits before (number / 10) ++ rest) (sym (drop-set text before (48 + number % 10) within ∙ rw add-one refl)))

-- until the text has no place left
pub digits-none : (place number : ℕ) (text : List ℕ) → place ≤ 0 → digits place number ++ drop place text ≡ text
unfolding digits
digits-none zero number text none = refl
digits-none (suc k) number text none = absurd (omega arith)

last_digit : (number : ℕ) → IsAsciiDigit (48 + number % 10)
last_digit number = (omega arith, omega arith)

digit_before : (digit : ℕ) (front back : List ℕ) (i : ℕ) → i < length front → IsAsciiDigit (slice_index front i) → IsAsciiDigit (slice_index (front ++ back) i)
digit_before digit front back i within here = rw (get_or_append_left front back 0 i within) here

digit_behind : (front : List ℕ) (i digit : ℕ) → i ≡ length front → IsAsciiDigit digit → IsAsciiDigit (slice_index (front ++ digit ∷ []) i)
digit_behind front i digit last here = rw (last, get_or-append_seam front digit [] 0) here

-- each of them is a digit
pub digit-digits : (k number i : ℕ) → i < k → IsAsciiDigit (slice_index (digits k number) i)
unfolding digits
digit-digits zero number i within = absurd (omega arith)
digit-digits (suc k) number i within =
    elim (cases_order i k) [
      | inl same ↦ digit_behind (digits k (number / 10)) i (48 + number % 10) (same ∙ sym (length-digits k (number / 10))) (last_digit number)
      | inr (inl before) ↦ digit_before 0 (digits k (number / 10)) _ i (omega (arith, length-digits k (number / 10))) (digit-digits k (number / 10) i before)
      | inr (inr after) ↦ absurd (omega arith)
    ]
