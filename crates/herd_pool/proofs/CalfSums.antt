-- Sires that differ have together no more calves than there are animals.
use Rattle.std.proofs.Common.{◌≡◌, ℕ, zero, suc, ◌+◌, ◌<◌, ◌≤◌, inl, inr, All, AllPairs, List, [], ◌∷◌, get_or, length, Some, arith, ap, ◌∙◌, refl, sym}
use Rattle.std.specs.List.{sum_by}
use Rattle.std.proofs.lemmas.List.Sums.{sum_by-cons, sum_by-le}
use Rattle.herd_lineage.specs.declared.lineage.Parents.{Parents}
use Rattle.herd_kinship.specs.CalfLinks.{calf_count, calves_below, IsCalf}
use Rattle.herd_kinship.proofs.lemmas.sires.CalvesBelow.{step}

-- a calf has one sire
one_sire : (rows : List Parents) (s t x : ℕ) → IsCalf rows s x → IsCalf rows t x → s ≡ t
one_sire rows s t x first second = let same : Some s ≡ Some t = sym first.0 ∙ second.0 in cc

-- what is a calf of none of them adds to none
none_more : (rows : List Parents) (x : ℕ) (sires : List ℕ) → All (λ s. IsCalf rows s x → ⊥) sires
    → sum_by (λ s. length (calves_below rows s (suc x))) sires ≡ sum_by (λ s. length (calves_below rows s x)) sires
none_more rows x [] none = refl
none_more rows x (s ∷ sires) none =
    let first = sum_by-cons (λ s. length (calves_below rows s (suc x))) s sires in
    let second = sum_by-cons (λ s. length (calves_below rows s x)) s sires in
    let rest = none_more rows x sires (λ k d low. none (suc k) d (omega (arith, low))) in
    let same : length (calves_below rows s (suc x)) ≡ length (calves_below rows s x) =
    elim (step rows s x) [ inl at ↦ absurd (none 0 0 (omega arith) at.0) | inr at ↦ ap length at.1 ] in
    omega arith

-- the next animal is a calf of one of them at most
one_more : (rows : List Parents) (x : ℕ) (sires : List ℕ) → AllPairs (λ s t. s < t) sires
    → sum_by (λ s. length (calves_below rows s (suc x))) sires ≤ sum_by (λ s. length (calves_below rows s x)) sires + 1
one_more rows x [] pairs = omega arith
one_more rows x (s ∷ sires) pairs =
    let first = sum_by-cons (λ s. length (calves_below rows s (suc x))) s sires in
    let second = sum_by-cons (λ s. length (calves_below rows s x)) s sires in
    elim (step rows s x) [
      | inl at ↦
          (let long = ap length at.1 in
          let rest = none_more rows x sires (λ k d low calf. let before : s < get_or sires k d = pairs 0 (suc k) d (omega arith) (omega (arith, low)) in let same = one_sire rows s (get_or sires k d) x at.0 calf in absurd (omega arith)) in
          omega arith)
      | inr at ↦
          (let long = ap length at.1 in
          let rest = one_more rows x sires (λ i j d before within. pairs (suc i) (suc j) d (omega (arith, before)) (omega (arith, within))) in
          omega arith)
    ]

sum-few : (rows : List Parents) (n : ℕ) (sires : List ℕ) → AllPairs (λ s t. s < t) sires → sum_by (λ s. length (calves_below rows s n)) sires ≤ n
unfolding calves_below
sum-few rows zero sires pairs = let none = sum_by-le (λ (s : ℕ). length (calves_below rows s zero)) 0 sires (λ k d low. omega arith) in omega arith
sum-few rows (suc n) sires pairs = let more = one_more rows n sires pairs in let before = sum-few rows n sires pairs in omega arith

pub calf_counts-few : (rows : List Parents) (sires : List ℕ) → AllPairs (λ s t. s < t) sires → sum_by (calf_count rows) sires ≤ length rows
calf_counts-few rows sires pairs = sum-few rows (length rows) sires pairs
