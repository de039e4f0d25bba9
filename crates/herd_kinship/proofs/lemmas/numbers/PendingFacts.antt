-- Sets of distances as bits: none, one bit written, and the lowest bit taken.
use Rattle.std.proofs.Common.{ℕ, suc, ◌+◌, ◌*◌, ◌-◌, ◌/◌, ◌%◌, ◌^◌, ◌<◌, ◌≤◌, ◌≡◌, ⊎_elim, List, length, get_or, replicate, set, arith, sym, ◌∙◌, ap, subst}
use Rattle.std.specs.Int.{w64, bit_at, trailing_zeros}
use Rattle.std.specs.Prelude.{bit_and}
use Rattle.std.proofs.Math.Pow.{pow_pos}
use Rattle.std.proofs.lemmas.Bool.{cases_eq, cases_lt}
use Rattle.std.proofs.lemmas.List.{get_or_past, get_or-replicate, get_or-set_same, get_or-set_other, length-replicate, length-set}
use Rattle.std.proofs.lemmas.Nat.Bits.{bit_at-suc, bit_at-trailing_zeros, bit_at-zero, bit_at_and, bit_at_cat_high, bit_at_cat_low}
use Rattle.herd_kinship.specs.Pending.{IsCleared, mark, Marks}
use Rattle.herd_kinship.proofs.lemmas.numbers.FractionFacts.{split_trailing}

-- chunks of 0 have no bit
pub none-marked : (n distance : ℕ) → mark (replicate n 0) distance ≡ 0
none-marked n distance =
    let chunks : List ℕ = replicate n 0 in
    let zero : get_or chunks (distance / 64) 0 ≡ 0 =
    ⊎_elim
    (λ (within : distance / 64 < n). get_or-replicate n (distance / 64) 0 0 within)
    (λ (past : n ≤ distance / 64). get_or_past chunks (distance / 64) 0 (rw (length-replicate {A = ℕ} n 0) past))
    (cases_lt (distance / 64) n) in
    rw zero (bit_at-zero (distance % 64))

-- one bit of one chunk is written
pub marks-chunk : (chunks : List ℕ) (chunk k w w' v : ℕ) → chunk < length chunks → k < 64 → w ≡ get_or chunks chunk 0 → bit_at w' k ≡ v →
    ((i : ℕ) → i < 64 → (i ≡ k → ⊥) → bit_at w' i ≡ bit_at w i) → Marks chunks (set chunks chunk w') (64 * chunk + k) v
marks-chunk chunks chunk k w w' v within small is here others = record {
  room = length-set chunks chunk w';
  here =
      let q : (64 * chunk + k) / 64 ≡ chunk = omega arith in
      let r : (64 * chunk + k) % 64 ≡ k = omega arith in
      rw (q, r, get_or-set_same chunks chunk w' 0 within) here;
  others = λ other apart.
      let rest : other % 64 < 64 = omega arith in
      ⊎_elim
      (λ (same : other / 64 ≡ chunk).
      let differ : other % 64 ≡ k → ⊥ = λ e. apart (omega arith) in
      rw (same, get_or-set_same chunks chunk w' 0 within) (others (other % 64) rest differ ∙ ap (λ n. bit_at n (other % 64)) is))
      (λ (differ : other / 64 ≡ chunk → ⊥).
      ap (λ n. bit_at n (other % 64)) (get_or-set_other chunks chunk (other / 64) w' 0 differ))
      (cases_eq (other / 64) chunk);
}

-- a number and one less, at the bits of an odd multiple of 2^t
module _ (m t : ℕ) where
  below_low : (i : ℕ) → i < t → bit_at ((2 * m + 1) * 2 ^ t) i ≡ 0
  below_low i low =
      ap (λ n. bit_at n i) (let e : (2 * m + 1) * 2 ^ t ≡ (2 * m + 1) * 2 ^ t + 0 = omega arith in e)
      ∙ (bit_at_cat_low (2 * m + 1) t 0 i low ∙ bit_at-zero i)

  less_one : (2 * m + 1) * 2 ^ t - 1 ≡ 2 * m * 2 ^ t + (2 ^ t - 1)
  less_one = let p = pow_pos t in let e : (2 * m + 1) * 2 ^ t ≡ 2 * m * 2 ^ t + 2 ^ t = omega arith in omega (arith, p, e)

  at_low : bit_at ((2 * m + 1) * 2 ^ t - 1) t ≡ 0
  at_low =
      let p = pow_pos t in
      let z : t - t ≡ 0 = omega arith in
      ap (λ n. bit_at n t) less_one
      ∙ (bit_at_cat_high (2 * m) t (2 ^ t - 1) t (omega arith) (omega arith) ∙ rw z (let e : 2 * m / 1 % 2 ≡ 0 = omega arith in e))

  above_low : (i : ℕ) → t < i → bit_at ((2 * m + 1) * 2 ^ t - 1) i ≡ bit_at ((2 * m + 1) * 2 ^ t) i
  above_low i high =
      let p = pow_pos t in
      let j : ℕ = i - t - 1 in
      let z : i - t ≡ suc j = omega arith in
      let first : bit_at ((2 * m + 1) * 2 ^ t - 1) i ≡ bit_at m j =
      ap (λ n. bit_at n i) less_one
      ∙ (bit_at_cat_high (2 * m) t (2 ^ t - 1) i (omega arith) (omega arith)
      ∙ (ap (bit_at (2 * m)) z ∙ (bit_at-suc (2 * m) j ∙ ap (λ n. bit_at n j) (let e : 2 * m / 2 ≡ m = omega arith in e)))) in
      let second : bit_at ((2 * m + 1) * 2 ^ t) i ≡ bit_at m j =
      ap (λ n. bit_at n i) (let e : (2 * m + 1) * 2 ^ t ≡ (2 * m + 1) * 2 ^ t + 0 = omega arith in e)
      ∙ (bit_at_cat_high (2 * m + 1) t 0 i p (omega arith)
      ∙ (ap (bit_at (2 * m + 1)) z ∙ (bit_at-suc (2 * m + 1) j ∙ ap (λ n. bit_at n j) (let e : (2 * m + 1) / 2 ≡ m = omega arith in e)))) in
      first ∙ sym second

  cleared_here : bit_at (bit_and ((2 * m + 1) * 2 ^ t) ((2 * m + 1) * 2 ^ t - 1)) t ≡ 0
  cleared_here = bit_at_and ((2 * m + 1) * 2 ^ t) ((2 * m + 1) * 2 ^ t - 1) t ∙ (let z = at_low in omega arith)

  cleared_others : (i : ℕ) → (i ≡ t → ⊥) → bit_at (bit_and ((2 * m + 1) * 2 ^ t) ((2 * m + 1) * 2 ^ t - 1)) i ≡ bit_at ((2 * m + 1) * 2 ^ t) i
  cleared_others i apart =
      bit_at_and ((2 * m + 1) * 2 ^ t) ((2 * m + 1) * 2 ^ t - 1) i
      ∙ ⊎_elim
      (λ (low : i < t). let z = below_low i low in omega arith)
      (λ (high : t ≤ i). let z = above_low i (omega arith) in omega arith)
      (cases_lt i t)

-- of a chunk that isn't empty the lowest bit is cleared
pub lowest-cleared : (w : ℕ) → 0 < w → w < 2 ^ 64 → IsCleared w (bit_and w (w - 1)) (trailing_zeros w64 w)
lowest-cleared w pos fits =
    let t : ℕ = trailing_zeros w64 w in
    let low = bit_at-trailing_zeros w64 w pos fits in
    let q : ℕ = w / 2 ^ t in
    let odd : q % 2 ≡ 1 = low.1 in
    let m : ℕ = q / 2 in
    let half : q ≡ 2 * m + 1 = omega arith in
    let whole : 2 ^ t * q ≡ w = split_trailing 64 w in
    let is : (2 * m + 1) * 2 ^ t ≡ w = (let e : q * 2 ^ t ≡ 2 ^ t * q = omega arith in ap (λ n. n * 2 ^ t) (sym half) ∙ (e ∙ whole)) in
    record {
      small = low.0;
      was = low.1;
      lower = low.2;
      here = subst (λ v. bit_at (bit_and v (v - 1)) t ≡ 0) is (cleared_here m t);
      others = λ i _ apart. subst (λ v. bit_at (bit_and v (v - 1)) i ≡ bit_at v i) is (cleared_others m t i apart);
    }

-- the nearest distance of a set, and the set without it
pub record IsNearest (old new : List ℕ) (distance : ℕ) : Type 0 where
  pub found : mark old distance ≡ 1
  pub nearest : (nearer : ℕ) → nearer < distance → mark old nearer ≡ 0
  pub taken : Marks old new distance 0

-- The lowest bit of the first chunk that isn't empty is the nearest distance: what is nearer has a lower bit of this
-- chunk, or stands in an empty one.
pub nearest-cleared : (chunks : List ℕ) (first w w' k : ℕ) → first < length chunks → w ≡ get_or chunks first 0 → IsCleared w w' k →
    ((distance : ℕ) → distance < 64 * first → mark chunks distance ≡ 0) → IsNearest chunks (set chunks first w') (64 * first + k)
nearest-cleared chunks first w w' k within is cleared none_before =
    let small : k < 64 = cleared.small in
    record {
      found =
          let q : (64 * first + k) / 64 ≡ first = omega arith in
          let r : (64 * first + k) % 64 ≡ k = omega arith in
          rw (q, r) (subst (λ v. bit_at v k ≡ 1) is cleared.was);
      nearest = λ nearer near.
          ⊎_elim
          (λ (before : nearer < 64 * first). none_before nearer before)
          (λ (here : 64 * first ≤ nearer).
          let q : nearer / 64 ≡ first = omega arith in
          let lower : nearer % 64 < k = omega arith in
          let z : bit_at (get_or chunks first 0) (nearer % 64) ≡ 0 = subst (λ v. bit_at v (nearer % 64) ≡ 0) is (cleared.lower (nearer % 64) lower) in
          rw q z)
          (cases_lt nearer (64 * first));
      taken = marks-chunk chunks first k w w' 0 within small is cleared.here cleared.others;
    }
