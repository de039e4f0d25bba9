-- Halving two numbers as often as both allow gives lowest terms, where one of them is a power of two.
use Rattle.std.proofs.Common.{ℕ, zero, suc, ◌+◌, ◌*◌, ◌-◌, ◌/◌, ◌%◌, ◌^◌, ◌<◌, ◌≤◌, ◌≡◌, ◌⊎◌, inl, inr, ⊎_elim, Bool, arith, refl, sym, ◌∙◌, ap, subst}
use Prim.Native.Nat.{◌∣◌}
use Rattle.std.specs.Int.{w128, trailing_zeros, IsGcd, IsPowerOfTwo}
use Rattle.std.specs.Int.Count.{count_trailing_zeros, trailing_of_zero}
use Rattle.std.proofs.Math.Nat.{div-div-eq-div-mul, dvd-mul_right, dvd_trans, mul-div_cancel', one-dvd, pow-succ'}
use Rattle.std.proofs.lemmas.Bool.{cases_lt}
use Rattle.std.proofs.lemmas.Nat.{trailing_le, pow-add}
use Rattle.std.proofs.lemmas.Nat.Bits.{bit_at-trailing_zeros}
use Rattle.herd_kinship.specs.Fraction.{halved, halvings, IsLowest}

parity : (n : ℕ) → (n % 2 ≡ 0) ⊎ (n % 2 ≡ 1)
parity n = ⊎_elim (λ (l : n % 2 < 1). inl (omega arith)) (λ (l : 1 ≤ n % 2). inr (omega arith)) (cases_lt (n % 2) 1)

-- two to the trailing zeros divides
pub split_trailing : (k n : ℕ) → 2 ^ count_trailing_zeros k n * (n / 2 ^ count_trailing_zeros k n) ≡ n
unfolding count_trailing_zeros
split_trailing zero n = omega arith
split_trailing (suc k) n =
    ⊎_elim
    (λ (e : n % 2 ≡ 0).
    let t : ℕ = count_trailing_zeros k (n / 2) in
    let rest : 2 ^ t * (n / 2 / 2 ^ t) ≡ n / 2 = split_trailing k (n / 2) in
    let power : 2 ^ suc t ≡ 2 * 2 ^ t = pow-succ' 2 t in
    let quotient : n / (2 * 2 ^ t) ≡ n / 2 / 2 ^ t = sym (div-div-eq-div-mul n 2 (2 ^ t)) in
    let whole : 2 * (n / 2) ≡ n = omega arith in
    let twice : 2 * (2 ^ t * (n / 2 / 2 ^ t)) ≡ 2 * (n / 2) = ap (λ v. 2 * v) rest in
    rw (e, power, quotient) (omega (arith, twice, whole)))
    (λ (e : n % 2 ≡ 1). rw e (omega arith))
    (parity n)

-- and so does two to fewer
split_fewer : (g n : ℕ) → g ≤ trailing_zeros w128 n → 2 ^ g * (n / 2 ^ g) ≡ n
split_fewer g n le =
    let t : ℕ = trailing_zeros w128 n in
    let all : 2 ^ t * (n / 2 ^ t) ≡ n = split_trailing 128 n in
    let power : 2 ^ t ≡ 2 ^ g * 2 ^ (t - g) = ap (λ k. 2 ^ k) (let e : t ≡ g + (t - g) = omega arith in e) ∙ pow-add 2 g (t - g) in
    let divides : 2 ^ g ∣ n =
    subst (λ v. 2 ^ g ∣ v) (let e : 2 ^ g * (2 ^ (t - g) * (n / 2 ^ t)) ≡ n = (let f : 2 ^ g * (2 ^ (t - g) * (n / 2 ^ t)) ≡ 2 ^ g * 2 ^ (t - g) * (n / 2 ^ t) = omega arith in f ∙ (ap (λ v. v * (n / 2 ^ t)) (sym power) ∙ all)) in e)
    (dvd-mul_right (2 ^ g) (2 ^ (t - g) * (n / 2 ^ t))) in
    mul-div_cancel' (2 ^ g) divides

-- what is left is odd
odd_left : (n : ℕ) → 0 < n → n < 2 ^ 128 → n / 2 ^ trailing_zeros w128 n % 2 ≡ 1
odd_left n pos fits = (bit_at-trailing_zeros w128 n pos fits).1

even_times : (q m : ℕ) → q % 2 ≡ 0 → q * m % 2 ≡ 0
even_times q m e =
    let half : q ≡ 2 * (q / 2) = omega arith in
    let twice : q * m ≡ 2 * (q / 2 * m) = ap (λ v. v * m) half ∙ omega arith in
    rw twice (omega arith)

-- a divisor of an odd number is odd
odd_divisor : (e o : ℕ) → o % 2 ≡ 1 → e ∣ o → e % 2 ≡ 1
odd_divisor e o odd d =
    ⊎_elim
    (λ (z : e % 2 ≡ 0).
    let whole : e * (o / e) ≡ o = mul-div_cancel' e d in
    let even : e * (o / e) % 2 ≡ 0 = even_times e (o / e) z in
    let even' : o % 2 ≡ 0 = subst (λ v. v % 2 ≡ 0) whole even in
    absurd (omega arith))
    (λ z. z)
    (parity e)

-- an odd divisor of twice a number divides the number
odd_half : (e x : ℕ) → e % 2 ≡ 1 → e ∣ 2 * x → e ∣ x
odd_half e x odd d =
    let q : ℕ = 2 * x / e in
    let whole : e * q ≡ 2 * x = mul-div_cancel' e d in
    ⊎_elim
    (λ (z : q % 2 ≡ 0).
    let half : q ≡ 2 * (q / 2) = omega arith in
    let twice : e * q ≡ 2 * (e * (q / 2)) = ap (λ v. e * v) half ∙ omega arith in
    let is : e * (q / 2) ≡ x = omega arith in
    subst (λ v. e ∣ v) is (dvd-mul_right e (q / 2)))
    (λ (z : q % 2 ≡ 1).
    let first : e ≡ 2 * (e / 2) + 1 = omega arith in
    let second : q ≡ 2 * (q / 2) + 1 = omega arith in
    let product : e * q ≡ (2 * (e / 2) + 1) * (2 * (q / 2) + 1) = ap (λ v. v * q) first ∙ ap (λ v. (2 * (e / 2) + 1) * v) second in
    let expand : (2 * (e / 2) + 1) * (2 * (q / 2) + 1) ≡ 2 * (2 * (e / 2 * (q / 2)) + e / 2 + q / 2) + 1 = omega arith in
    absurd (omega (arith, whole, product, expand)))
    (parity q)

-- an odd divisor of a power of two is 1
odd_power : (k e : ℕ) → e % 2 ≡ 1 → e ∣ 2 ^ k → e ∣ 1
odd_power zero e odd d = d
odd_power (suc k) e odd d = odd_power k e odd (odd_half e (2 ^ k) odd (subst (λ v. e ∣ v) (pow-succ' 2 k) d))

-- of two numbers of which one is odd, and one divides a power of two, 1 is the greatest common divisor
coprime : (a b k : ℕ) → (a % 2 ≡ 1) ⊎ (b % 2 ≡ 1) → (a ∣ 2 ^ k) ⊎ (b ∣ 2 ^ k) → IsGcd a b 1
coprime a b k odd power = (
  one-dvd a,
  one-dvd b,
  λ e ea eb.
      odd_power k e (⊎_elim (λ o. odd_divisor e a o ea) (λ o. odd_divisor e b o eb) odd)
      (⊎_elim (λ p. dvd_trans e ea p) (λ p. dvd_trans e eb p) power),
)

divides_power : (g n q : ℕ) → 2 ^ g * q ≡ n → IsPowerOfTwo n → (k : ℕ) × (q ∣ 2 ^ k)
divides_power g n q whole p =
    (p.0, subst (λ v. q ∣ v) (let e : q * 2 ^ g ≡ 2 ^ p.0 = (let f : q * 2 ^ g ≡ 2 ^ g * q = omega arith in f ∙ (whole ∙ p.1)) in e) (dvd-mul_right q (2 ^ g)))

-- 0 has as many trailing zeros as there are
not_zero : (n d : ℕ) → trailing_zeros w128 n < trailing_zeros w128 d → 0 < n
not_zero n d l =
    ⊎_elim
    (λ (some : 0 < n). some)
    (λ (none : n ≤ 0).
    let zero : n ≡ 0 = omega arith in
    let most = trailing_le 128 d in
    let all : trailing_zeros w128 n ≡ 128 = ap (trailing_zeros w128) zero ∙ trailing_of_zero 128 in
    absurd (omega arith))
    (cases_lt 0 n)

-- Once both are halved as often as they can be, one is odd and one is still a power of two: no factor is in both.
pub halved-lowest : (negative : Bool) (n d : ℕ) → 0 < d → n < 2 ^ 128 → d < 2 ^ 128 → IsPowerOfTwo n ⊎ IsPowerOfTwo d → IsLowest negative n d (halved negative n d)
halved-lowest negative n d pos fn fd power =
    let g : ℕ = halvings n d in
    let a : ℕ = n / 2 ^ g in
    let b : ℕ = d / 2 ^ g in
    let sn : 2 ^ g * a ≡ n = split_fewer g n (omega arith) in
    let sd : 2 ^ g * b ≡ d = split_fewer g d (omega arith) in
    let cross : a * d ≡ n * b =
    ap (λ v. a * v) (sym sd) ∙ ((let e : a * (2 ^ g * b) ≡ 2 ^ g * a * b = omega arith in e) ∙ ap (λ v. v * b) sn) in
    let odd : (a % 2 ≡ 1) ⊎ (b % 2 ≡ 1) =
    ⊎_elim
    (λ (l : trailing_zeros w128 n < trailing_zeros w128 d).
    let is : g ≡ trailing_zeros w128 n = omega arith in
    let some : 0 < n = not_zero n d l in
    inl (rw is (odd_left n some fn)))
    (λ (l : trailing_zeros w128 d ≤ trailing_zeros w128 n).
    let is : g ≡ trailing_zeros w128 d = omega arith in
    inr (rw is (odd_left d pos fd)))
    (cases_lt (trailing_zeros w128 n) (trailing_zeros w128 d)) in
    record {
      sign = refl;
      value = cross;
      lowest = ⊎_elim
          (λ p. let q = divides_power g n a sn p in coprime a b q.0 odd (inl q.1))
          (λ p. let q = divides_power g d b sd p in coprime a b q.0 odd (inr q.1))
          power;
    }
