-- The number of a herd, from what it writes in decimal.
use Rattle.std.proofs.Common.{◌≡◌, ◌∙◌, ℕ, zero, suc, ◌+◌, ◌/◌, ◌%◌, ◌^◌, ◌<◌, ◌≤◌, List, [], ◌∷◌, length, Bool, true, false, refl, sym, ap, arith, decimal, ◌==◌}
use Rattle.std.specs.Prelude.{if◌then◌else◌, Result, Ok, Err, IfOk, IsOk}
use Rattle.std.specs.Fmt.{digits, digits_onto, digit_glyph}
use Rattle.std.specs.Str.Parse.{digits_value}
use Rattle.std.proofs.Math.Nat.{pow-le-pow_right, pow-suc}
use Rattle.std.proofs.lemmas.Bool.Decides.{nat_tests}
use Rattle.std.proofs.lemmas.Fmt.{decimal_is_IsNumeral}
use Rattle.herd_animal.specs.Herd.{IsHerd}
use Rattle.herd_command_file.specs.Field.{herd_in}

longer-if : (test : Bool) (n : ℕ) (rest more : List ℕ) → length rest + 1 ≤ length more
    → length rest ≤ length (if test then digit_glyph false (n % 10) ∷ rest else more)
longer-if true n rest more h = omega arith
longer-if false n rest more h = omega arith

-- digits are only added
longer : (k n : ℕ) (rest : List ℕ) → length rest ≤ length (digits_onto k 10 false n rest)
longer zero n rest = omega arith
longer (suc k) n rest =
    longer-if (n / 10 == 0) n rest (digits_onto k 10 false (n / 10) (digit_glyph false (n % 10) ∷ rest))
    (omega (arith, longer k (n / 10) (digit_glyph false (n % 10) ∷ rest)))

short-if : (test : Bool) (j n : ℕ) (rest more : List ℕ) → (n / 10 == 0) ≡ test → length rest + 1 ≤ length more
    → ((i : ℕ) → length more ≤ i + (length rest + 1) → j ≡ i + 1 → n / 10 < 10 ^ i)
    → length (if test then digit_glyph false (n % 10) ∷ rest else more) ≤ j + length rest → n < 10 ^ j
short-if true j n rest more is grows tenth few =
    let small : n / 10 ≡ 0 = grind (arith, nat_tests) in
    let one : 1 ≤ j = omega arith in
    let most : 10 ^ 1 ≤ 10 ^ j = pow-le-pow_right (omega arith) {i = 1} one in
    omega arith
short-if false zero n rest more is grows tenth few = absurd (omega arith)
short-if false (suc i) n rest more is grows tenth few =
    let below = tenth i (omega arith) (omega arith) in
    let power = pow-suc 10 i in
    omega arith

-- a number that is written in few digits is small
short : (k j n : ℕ) (rest : List ℕ) → j < k → length (digits_onto k 10 false n rest) ≤ j + length rest → n < 10 ^ j
short zero j n rest room few = absurd (omega arith)
short (suc k) j n rest room few =
    let more = digits_onto k 10 false (n / 10) (digit_glyph false (n % 10) ∷ rest) in
    short-if (n / 10 == 0) j n rest more refl
    (omega (arith, longer k (n / 10) (digit_glyph false (n % 10) ∷ rest)))
    (λ i less one. short k i (n / 10) (digit_glyph false (n % 10) ∷ rest) (omega arith) (omega arith))
    few

-- a number with at most eight digits is the number of what it writes
few_digits : (n : ℕ) (text : List ℕ) → decimal n ≡ text → length text ≤ 8 → n ≡ digits_value 10 text
unfolding digits
few_digits n text writes few =
    let small : n < 10 ^ 8 = short 64 8 n [] (omega arith) (omega (arith, ap length writes)) in
    sym (decimal_is_IsNumeral n (omega arith)).1 ∙ ap (digits_value 10) writes

-- a herd that was read is the number of the text
pub IfOk-herd_in : {E : Type 0} (read : Result ℕ E) (text : List ℕ) → (IsOk read → IsHerd text) → IfOk read (λ herd. decimal herd ≡ text)
    → IfOk read (λ herd. herd ≡ herd_in text)
unfolding herd_in
IfOk-herd_in (Ok herd) text accepted writes = few_digits herd text writes (accepted refl).long.1
IfOk-herd_in (Err fault) text accepted writes = tt
