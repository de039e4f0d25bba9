-- Products and sums of whole numbers that are given as differences.
use Rattle.std.proofs.Common.{ℕ, suc, ◌+◌, ◌*◌, ◌-◌, ◌<◌, ◌≤◌, ◌≡◌, ◌∙◌, ap, List, [], ◌∷◌, arith, refl, ⊎_elim}
use Rattle.std.proofs.lemmas.Int.{ints}
use Rattle.std.proofs.lemmas.Bool.{cases_lt}
use Rattle.std.proofs.lemmas.List.Sums.{sum_by-cons}
use Rattle.std.proofs.Math.IntN.{ℤ, pos, negsuc, neg_ℤ, ◌-ℤ◌, ◌*ℤ◌, *ℤ-negsuc}
use Rattle.std.specs.List.{sum_by}
use Rattle.herd_kinship.specs.InverseRows.{sum_ints}

-- a times b less c
times_pos : (a b c : ℕ) → (pos a -ℤ pos b) *ℤ pos c ≡ pos (a * c) -ℤ pos (b * c)
times_pos a b c =
    ⊎_elim
    (λ (l : a < b).
    let d : ℕ = b - suc a in
    let e : pos a -ℤ pos b ≡ negsuc d = omega (arith, ints) in
    let f : b * c ≡ a * c + suc d * c =
    ap (λ n. n * c) (let g : b ≡ a + suc d = omega arith in g) ∙ omega arith in
    rw (e, f) (let n : neg_ℤ (pos (suc d * c)) ≡ pos (a * c) -ℤ pos (a * c + suc d * c) = omega (arith, ints) in n))
    (λ (l : b ≤ a).
    let d : ℕ = a - b in
    let e : pos a -ℤ pos b ≡ pos d = omega (arith, ints) in
    let f : a * c ≡ b * c + d * c =
    ap (λ n. n * c) (let g : a ≡ b + d = omega arith in g) ∙ omega arith in
    rw (e, f) (let n : pos (d * c) ≡ pos (b * c + d * c) -ℤ pos (b * c) = omega (arith, ints) in n))
    (cases_lt a b)

times_difference : (a b c d : ℕ) → (pos a -ℤ pos b) *ℤ (pos c -ℤ pos d) ≡ pos (a * c + b * d) -ℤ pos (a * d + b * c)
times_difference a b c d =
    ⊎_elim
    (λ (l : c < d).
    let e : ℕ = d - suc c in
    let s : pos c -ℤ pos d ≡ negsuc e = omega (arith, ints) in
    let da : a * d ≡ a * c + a * suc e =
    ap (λ n. a * n) (let g : d ≡ c + suc e = omega arith in g) ∙ omega arith in
    let db : b * d ≡ b * c + b * suc e =
    ap (λ n. b * n) (let g : d ≡ c + suc e = omega arith in g) ∙ omega arith in
    rw (s, *ℤ-negsuc (pos a -ℤ pos b) e, times_pos a b (suc e), da, db) (omega (arith, ints)))
    (λ (l : d ≤ c).
    let e : ℕ = c - d in
    let s : pos c -ℤ pos d ≡ pos e = omega (arith, ints) in
    let ca : a * c ≡ a * d + a * e =
    ap (λ n. a * n) (let g : c ≡ d + e = omega arith in g) ∙ omega arith in
    let cb : b * c ≡ b * d + b * e =
    ap (λ n. b * n) (let g : c ≡ d + e = omega arith in g) ∙ omega arith in
    rw (s, times_pos a b e, ca, cb) (omega (arith, ints)))
    (cases_lt c d)

pub times_differences : (a b c d n : ℕ) → (pos a -ℤ pos b) *ℤ (pos c -ℤ pos d) *ℤ pos n ≡ pos (a * c * n + b * d * n) -ℤ pos (a * d * n + b * c * n)
times_differences a b c d n =
    rw (times_difference a b c d, times_pos (a * c + b * d) (a * d + b * c) n) (omega (arith, ints))

-- a sum of differences is the difference of the sums
pub sum_ints-difference : {X : Type 0} (f : X → ℤ) (g k : X → ℕ) (xs : List X) → ((x : X) → f x ≡ pos (g x) -ℤ pos (k x)) →
    sum_ints f xs ≡ pos (sum_by g xs) -ℤ pos (sum_by k xs)
sum_ints-difference f g k [] e = refl
sum_ints-difference f g k (x ∷ xs) e =
    rw (sum_by-cons g x xs, sum_by-cons k x xs, e x, sum_ints-difference f g k xs e) (omega (arith, ints))
