-- The rows by which the inverse of the numerator relationship matrix A is made (Henderson 1976).
use Rattle.std.specs.Prelude.{ℕ, ◌*◌, Bool, false, if◌then◌else◌, List, [], ◌∷◌, Option, None, Some, ℤ, pos, negsuc, ◌+ℤ◌, ◌*ℤ◌}
use Rattle.herd_kinship.specs.Ancestry.{Ancestry}
use Rattle.herd_kinship.specs.Table.{entry}

-- the parent is known, and is p
abbrev pub is_it : {A : Type 0} → Ancestry A → Option A → A → Bool
is_it kin None p = false
is_it kin (Some q) p = kin.same q p

-- the row of i in halves: 2 at i, -1 at each known parent, -2 where both are one animal, 0 elsewhere
unfoldable pub half_row : {A : Type 0} → Ancestry A → A → A → ℤ
half_row kin i p =
    if kin.same i p then pos 2 else (
    if is_it kin (kin.sire i) p then (if is_it kin (kin.dam i) p then negsuc 1 else negsuc 0) else (
    if is_it kin (kin.dam i) p then negsuc 0 else pos 0))

-- the integers f x for the x of a list, added up
abbrev pub sum_ints : {A : Type 0} → (A → ℤ) → List A → ℤ
sum_ints f [] = pos 0
sum_ints f (x ∷ xs) = f x +ℤ sum_ints f xs

-- the rows of i and j, multiplied through A
unfoldable pub row_product : {A : Type 0} → Ancestry A → ℕ → A → A → ℤ
row_product kin l i j =
    sum_ints
    (λ p. sum_ints (λ q. half_row kin i p *ℤ half_row kin j q *ℤ pos (entry kin (2 * l) (Some p) (Some q))) kin.animals)
    kin.animals
