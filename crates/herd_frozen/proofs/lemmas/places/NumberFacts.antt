-- The numbers that stand at places.
use Rattle.std.proofs.Common.{ℕ, ◌<◌, ◌≤◌, ◌≡◌, arith, refl, sym, ◌∙◌, List, [], ◌∷◌, ◌++◌, Option, Some, None, IfSome, length}
use Rattle.std.proofs.lemmas.Option.{slice_get_within}
use Rattle.herd_frozen.specs.places.Places.{IsIndexIn, number_at}
use Rattle.herd_frozen.proofs.lemmas.ListFacts.{push_keeps, there}

-- one number more changes none of those before it
pub number_at-push : (numbers : List (List ℕ)) (x : List ℕ) (o : Option ℕ) → IfSome o (λ p. p < length numbers) → number_at (numbers ++ x ∷ []) o ≡ number_at numbers o
number_at-push numbers x None h = refl
number_at-push numbers x (Some p) h = let n = there numbers p h in push_keeps numbers x n.0 p n.1 ∙ sym n.1

-- the number at a place that is a parent's
pub number_at-place : (numbers : List (List ℕ)) (o : Option ℕ) (n : Option (List ℕ)) → IsIndexIn numbers o n → number_at numbers o ≡ n
number_at-place numbers None None h = refl
number_at-place numbers None (Some x) h = absurd h
number_at-place numbers (Some p) None h = absurd h
number_at-place numbers (Some p) (Some x) h = h

pub place-within : (numbers : List (List ℕ)) (o : Option ℕ) (n : Option (List ℕ)) → IsIndexIn numbers o n → IfSome o (λ p. p < length numbers)
place-within numbers None n h = tt
place-within numbers (Some p) None h = absurd h
place-within numbers (Some p) (Some x) h = slice_get_within numbers p x h

-- a place among some is among more
pub further : {m n : ℕ} (o : Option ℕ) → m ≤ n → IfSome o (λ p. p < m) → IfSome o (λ p. p < n)
further None more h = tt
further (Some p) more h = omega (arith, more, h)
