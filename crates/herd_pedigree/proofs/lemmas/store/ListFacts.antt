-- What a list or an option holds, what the front of a list is, and what a map sets.
use Rattle.std.proofs.Common.{ℕ, zero, suc, ◌-◌, ◌<◌, ◌≡◌, ◌++◌, ◌∙◌, arith, refl, sym, ap, List, [], ◌∷◌, is_some, Option, None, Some, length, slice_set, take}
use Rattle.std.specs.Option.{option_map}
use Rattle.std.proofs.lemmas.List.{ext_get_or, get_or-set_other, get_or-take, length-set, length-take-le, length_push, take_at}
use Rattle.indexmap.specs.IndexMap.{set_value_at as map_set_value_at}
use Rattle.herd_pedigree.specs.store.Records.{set_value_at}
use Rattle.herd_pedigree.specs.store.Undo.{without_last}

-- without the last element that was pushed
pub without_last-push : {X : Type 0} (xs : List X) (x : X) → without_last (xs ++ x ∷ []) ≡ xs
without_last-push xs x = let n = length_push xs x in take_at xs (x ∷ []) (length (xs ++ x ∷ []) - 1) (omega (arith, n))

-- what is written behind the part that is left changes nothing
pub take-set : {X : Type 0} (xs : List X) (n : ℕ) (v : X) → n < length xs → take n (slice_set xs n v) ≡ take n xs
take-set xs n v h =
    let m = length-set xs n v in
    let a = length-take-le n xs (omega (arith, h)) in
    let b = length-take-le n (slice_set xs n v) (omega (arith, h, m)) in
    ext_get_or v (take n (slice_set xs n v)) (take n xs) (omega (arith, a, b))
    (λ i l.
    let low : i < n = omega (arith, l, b) in
    get_or-take n (slice_set xs n v) i v low ∙ get_or-set_other xs n i v v (λ is. let bad : i ≡ n = is in absurd (omega (arith, bad, low))) ∙ sym (get_or-take n xs i v low))

-- a list with no elements
pub nil_unless : {X : Type 0} (xs : List X) → (0 < length xs → ⊥) → xs ≡ []
nil_unless [] never = refl
nil_unless (x ∷ xs) never = absurd (never (omega arith))

-- a value for what an option holds leaves it as full as it was
pub is_some-map : {X Y : Type 0} (f : X → Y) (o : Option X) → is_some (option_map f o) ≡ is_some o
is_some-map f None = refl
is_some-map f (Some x) = refl

-- a value that is set: the map's own word for its entries is that of the records
pub map-set : {X : Type 0} (es : List (List ℕ × X)) (i : ℕ) (x : X) → map_set_value_at es i x ≡ set_value_at es i x
map-set [] i x = refl
map-set (e ∷ es) zero x = refl
map-set (e ∷ es) (suc i) x = ap (λ rest. e ∷ rest) (map-set es i x)
