-- Lists: elements at a place, elements that have a number, and sums over ranges.
use Rattle.std.proofs.Common.{◌≡◌, ◌∙◌, ℕ, zero, suc, ◌+◌, List, [], ◌∷◌, All, ap, ap₂, arith, get_or, length, map, set, sym, slice_get, Some, refl, subst}
use Rattle.std.specs.List.{range_with_len, sum_by}
use Rattle.std.proofs.lemmas.List.{map-set, set-get_or}
use Rattle.std.proofs.lemmas.List.Sums.{sum_by-cons}
use Rattle.std.proofs.lemmas.Option.{get_or_from_slice_get, slice_get_within}

-- what holds of all holds of the one at a place
pub holds_at : {A : Type 0} (P : A → Type 0) (xs : List A) → All P xs → (place : ℕ) (x : A) → slice_get xs place ≡ Some x → P x
holds_at P xs all place x is = subst P (get_or_from_slice_get xs place x x is) (all place x (slice_get_within xs place x is))

-- ---- elements that have a number

-- elements that are numbered one after the other have the numbers of a range
pub numbers-range : {A : Type 0} (number : A → ℕ) (from : ℕ) (xs : List A)
    → ((place : ℕ) (x : A) → slice_get xs place ≡ Some x → number x ≡ place + from)
    → map number xs ≡ range_with_len from (length xs)
numbers-range number from [] known = refl
numbers-range number from (x ∷ more) known =
    let first : number x ≡ from = omega (arith, known 0 x refl) in
    ap₂ (λ (n : ℕ) (ns : List ℕ). n ∷ ns) first
    (numbers-range number (from + 1) more (λ place y there. omega (arith, known (suc place) y there)))

-- another element with the same number at a place leaves the numbers as they were
pub numbers-set : {A : Type 0} (number : A → ℕ) (xs : List A) (place : ℕ) (old new : A)
    → number new ≡ number (get_or xs place old) → map number (set xs place new) ≡ map number xs
numbers-set number xs place old new same =
    map-set number xs place new ∙ ap (set (map number xs) place) same
    ∙ sym (map-set number xs place (get_or xs place old)) ∙ ap (map number) (set-get_or xs place old)

-- ---- sums over ranges

-- the sum of the values at 0 and so many numbers more, which end before a bound
abbrev pub up_to : (ℕ → ℕ) → ℕ → ℕ
up_to f zero = 0
up_to f (suc bound) = up_to f bound + f bound

pub up_to-first : (f : ℕ → ℕ) (bound : ℕ) → up_to f (suc bound) ≡ f 0 + up_to (λ k. f (suc k)) bound
up_to-first f zero = omega arith
up_to-first f (suc bound) = omega (arith, up_to-first f bound)

pub up_to-plus : (f g : ℕ → ℕ) (bound : ℕ) → up_to (λ k. f k + g k) bound ≡ up_to f bound + up_to g bound
up_to-plus f g zero = refl
up_to-plus f g (suc bound) = omega (arith, up_to-plus f g bound)

pub up_to-same : (f g : ℕ → ℕ) → ((k : ℕ) → f k ≡ g k) → (bound : ℕ) → up_to f bound ≡ up_to g bound
up_to-same f g same zero = refl
up_to-same f g same (suc bound) = omega (arith, up_to-same f g same bound, same bound)

pub up_to-nothing : (f : ℕ → ℕ) → ((k : ℕ) → f k ≡ 0) → (bound : ℕ) → up_to f bound ≡ 0
up_to-nothing f none zero = refl
up_to-nothing f none (suc bound) = omega (arith, up_to-nothing f none bound, none bound)

-- a sum over a range
pub range_sum : (f : ℕ → ℕ) (from count : ℕ) → sum_by f (range_with_len from count) ≡ up_to (λ k. f (from + k)) count
range_sum f from zero = refl
range_sum f from (suc count) =
    let later : sum_by f (range_with_len (from + 1) count) ≡ up_to (λ k. f (from + suc k)) count =
    range_sum f (from + 1) count ∙ up_to-same (λ k. f (from + 1 + k)) (λ k. f (from + suc k)) (λ k. ap f (omega arith)) count in
    let front : f (from + 0) ≡ f from = ap f (omega arith) in
    omega (arith, sum_by-cons f from (range_with_len (from + 1) count), up_to-first (λ k. f (from + k)) count, later, front)
