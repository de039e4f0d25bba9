-- The ranks that a pruned lineage keeps of one animal are those of the animal and of its ancestors, ascending.
use Rattle.std.proofs.Common.{◌≡◌, ◌∙◌, ◌⊎◌, inl, inr, ℕ, zero, suc, ◌+◌, ◌<◌, ◌≤◌, ◌||◌, Bool, true, false, List, [], ◌∷◌, length, filter, get_or, Option, Some, None, All, Contains, refl, sym, ap, subst, arith, eq-eqb, eqb-true}
use Rattle.std.proofs.lemmas.Bool.{cases_Bool}
use Rattle.std.proofs.lemmas.Grind.{get_or_default_zero}
use Rattle.std.proofs.lemmas.List.Elements.{All-nil, All-cons, Contains-get_or}
use Rattle.std.proofs.lemmas.List.FromFn.{length-range_with_len}
use Rattle.std.proofs.lemmas.List.Sums.{count_by-le-length, length-filter}
use Rattle.std.specs.List.{range_with_len}
use Rattle.std.specs.Option.{option_map_or}
use Rattle.merkle_tree.specs.Shown.{IsAscending}
use Rattle.merkle_tree.proofs.lemmas.Complete.{ascending-cons, ascending-first, ascending-nil, ascending-tail}
use Rattle.herd_lineage.specs.declared.lineage.Parents.{Parents}
use Rattle.herd_lineage.specs.Lineage.{IsLineage, dam_rank, sire_rank}
use Rattle.herd_lineage.proofs.lemmas.Contained.{contains_cases, contains_here, contains_later, contains_none, filter-keeps, filter-only}
use Rattle.herd_kinship.specs.Ancestry.{PathTo}
use Rattle.herd_kinship.specs.Ranks.{ranked}
use Rattle.herd_kinship.proofs.lemmas.lineages.Ranks.{rank-below, rank-in}
use Rattle.herd_pruned.specs.Pruned.{IsPrunedOf, KeepsAncestorsOf, Pruned}
use Rattle.herd_certificate.specs.Ancestors.{is_led, with_ancestors}

-- ---- ascending lists

filtered_above : (p : ℕ → Bool) (low start n : ℕ) → low ≤ start → All (λ x. low ≤ x) (filter p (range_with_len start n))
filtered_above p low start zero from = All-nil (λ x. low ≤ x)
filtered_above p low start (suc n) from =
    elim (cases_Bool (p start)) [
      | inl t ↦ rw t (All-cons (λ x. low ≤ x) start (filter p (range_with_len (start + 1) n)) from (filtered_above p low (start + 1) n (omega arith)))
      | inr t ↦ rw t (filtered_above p low (start + 1) n (omega arith))
    ]

above_later : (start : ℕ) (xs : List ℕ) → All (λ x. start + 1 ≤ x) xs → All (λ later. start < later) xs
above_later start xs h = λ k d within. (let at = h k d within in omega arith)

filtered_ascends : (p : ℕ → Bool) (start n : ℕ) → IsAscending (filter p (range_with_len start n))
filtered_ascends p start zero = ascending-nil
filtered_ascends p start (suc n) =
    elim (cases_Bool (p start)) [
      | inl t ↦
          rw t (ascending-cons start (filter p (range_with_len (start + 1) n))
          (above_later start (filter p (range_with_len (start + 1) n)) (filtered_above p (start + 1) (start + 1) n (omega arith))) (filtered_ascends p (start + 1) n))
      | inr t ↦ rw t (filtered_ascends p (start + 1) n)
    ]

order_ascends : (xs : List ℕ) → ((i j : ℕ) → i < j → j < length xs → get_or xs i 0 < get_or xs j 0) → IsAscending xs
order_ascends [] order = ascending-nil
order_ascends (x ∷ xs) order =
    ascending-cons x xs (λ k d within. (let at = order 0 (suc k) (omega arith) (omega (arith, within)) in rw (get_or_default_zero xs k d within) at))
    (order_ascends xs (λ i j low within. order (suc i) (suc j) (omega (arith, low)) (omega (arith, within))))

later_than : (x y : ℕ) (xs : List ℕ) → IsAscending (x ∷ xs) → Contains xs y → x < y
later_than x y xs up c = let at = ascending-first x xs up c.0 y c.1 in subst (λ z. x < z) c.2 at

-- two of the same numbers are one
ascending_same : (xs ys : List ℕ) → IsAscending xs → IsAscending ys → ((z : ℕ) → Contains xs z → Contains ys z) → ((z : ℕ) → Contains ys z → Contains xs z) → xs ≡ ys
ascending_same [] [] up_xs up_ys to from = refl
ascending_same [] (y ∷ ys) up_xs up_ys to from = absurd (contains_none y (from y (contains_here y ys)))
ascending_same (x ∷ xs) [] up_xs up_ys to from = absurd (contains_none x (to x (contains_here x xs)))
ascending_same (x ∷ xs) (y ∷ ys) up_xs up_ys to from =
    let same : x ≡ y =
    elim (contains_cases y x ys (to x (contains_here x xs))) [
      | inl e ↦ sym e
      | inr later ↦
          (let above = later_than y x ys up_ys later in
          elim (contains_cases x y xs (from y (contains_here y ys))) [
            | inl e ↦ e
            | inr other ↦ absurd (let below = later_than x y xs up_xs other in omega (arith, above, below))
          ])
    ] in
    let rest : xs ≡ ys =
    ascending_same xs ys (ascending-tail x xs up_xs) (ascending-tail y ys up_ys)
    (λ z c.
    elim (contains_cases y z ys (to z (contains_later x z xs c))) [
      | inl e ↦ absurd (let above = later_than x z xs up_xs c in omega (arith, above, e, same))
      | inr there ↦ there
    ])
    (λ z c.
    elim (contains_cases x z xs (from z (contains_later y z ys c))) [
      | inl e ↦ absurd (let above = later_than y z ys up_ys c in omega (arith, above, e, same))
      | inr there ↦ there
    ]) in
    ap (λ (l : List ℕ). x ∷ l) rest ∙ ap (λ (z : ℕ). z ∷ ys) same

-- ---- paths

or_true : (b : Bool) → (b || true) ≡ true
or_true true = refl
or_true false = refl

or_either : (a b : Bool) → (a || b) ≡ true → (a ≡ true) ⊎ (b ≡ true)
or_either true b e = inl refl
or_either false b e = inr e

led_over : (test : ℕ → Bool) (o : Option ℕ) → option_map_or test o false ≡ true → (q : ℕ) × (o ≡ Some q) × (test q ≡ true)
led_over test None e = absurd (cc)
led_over test (Some q) e = (q, refl, e)

led_here : (m : ℕ) (lineage : List Parents) (to from : ℕ) → from ≡ to → is_led m lineage to from ≡ true
unfolding is_led
led_here zero lineage to from e = eq-eqb from to e
led_here (suc m) lineage to from e = rw (eq-eqb from to e) refl

led_sire : (m : ℕ) (lineage : List Parents) (to from q : ℕ) → sire_rank lineage from ≡ Some q → is_led m lineage to q ≡ true → is_led (suc m) lineage to from ≡ true
unfolding is_led
led_sire m lineage to from q s led = rw (s, led) (or_true _)

led_dam : (m : ℕ) (lineage : List Parents) (to from q : ℕ) → dam_rank lineage from ≡ Some q → is_led m lineage to q ≡ true → is_led (suc m) lineage to from ≡ true
unfolding is_led
led_dam m lineage to from q d led = rw (d, led, or_true (option_map_or (is_led m lineage to) (sire_rank lineage from) false)) (or_true _)

-- a path is found, where there is one that isn't too long
led_along : (n m : ℕ) (lineage : List Parents) (to from : ℕ) → n ≤ m → PathTo (ranked lineage) n from to → is_led m lineage to from ≡ true
unfolding PathTo
led_along zero m lineage to from few path = led_here m lineage to from path
led_along (suc n) zero lineage to from few path = absurd (omega arith)
led_along (suc n) (suc m) lineage to from few path =
    let rest = led_along n m lineage to path.0 (omega arith) path.2 in
    elim path.1 [
      | inl s ↦ led_sire m lineage to from path.0 s rest
      | inr d ↦ led_dam m lineage to from path.0 d rest
    ]

-- and what is found is a path
path_found : (m : ℕ) (lineage : List Parents) (to from : ℕ) → is_led m lineage to from ≡ true → (n : ℕ) × PathTo (ranked lineage) n from to
unfolding is_led PathTo
path_found zero lineage to from led = (0, eqb-true from to led)
path_found (suc m) lineage to from led =
    elim (or_either _ _ led) [
      | inl here ↦ (0, eqb-true from to here)
      | inr further ↦
          elim (or_either _ _ further) [
            | inl by_sire ↦
                (let q = led_over (is_led m lineage to) (sire_rank lineage from) by_sire in
                let rest = path_found m lineage to q.0 q.2 in
                (suc rest.0, (q.0, inl q.1, rest.1)))
            | inr by_dam ↦
                (let q = led_over (is_led m lineage to) (dam_rank lineage from) by_dam in
                let rest = path_found m lineage to q.0 q.2 in
                (suc rest.0, (q.0, inr q.1, rest.1)))
          ]
    ]

-- a path has no more steps than there are ranks below
path_short : (l most : ℕ) (lineage : List Parents) → IsLineage l most lineage → (n from to : ℕ) → PathTo (ranked lineage) n from to → n + to ≤ from
unfolding PathTo
path_short l most lineage f zero from to path = omega (arith, path)
path_short l most lineage f (suc n) from to path =
    let rest = path_short l most lineage f n path.0 to path.2 in
    let below : path.0 < from = elim path.1 [
      | inl s ↦ f.sire from path.0 s
      | inr d ↦ f.dam from path.0 d
    ] in
    omega (arith, rest, below)

-- ---- what is kept

one_is : (x y : ℕ) → Contains (x ∷ []) y → y ≡ x
one_is x y c = elim (contains_cases x y [] c) [
  | inl e ↦ sym e
  | inr none ↦ absurd (contains_none y none)
]

pub kept_are : (l most : ℕ) (lineage : List Parents) (rank : ℕ) (pruned : Pruned) → IsLineage l most lineage → rank < length lineage
    → IsPrunedOf lineage pruned → KeepsAncestorsOf lineage (rank ∷ []) pruned → pruned.ranks ≡ with_ancestors lineage rank
unfolding with_ancestors
kept_are l most lineage rank pruned f within are keeps =
    let led = λ (other : ℕ). is_led (length lineage) lineage other rank in
    ascending_same pruned.ranks (filter led (range_with_len 0 (length lineage))) (order_ascends pruned.ranks are.order) (filtered_ascends led 0 (length lineage))
    (λ z c.
    let comes = keeps.others z c in
    let path : PathTo (ranked lineage) comes.2 rank z = subst (λ (x : ℕ). PathTo (ranked lineage) comes.2 x z) (one_is rank comes.0 comes.1) comes.3 in
    let short = path_short l most lineage f comes.2 rank z path in
    filter-keeps led (range_with_len 0 (length lineage)) z (rank-in (length lineage) z (omega (arith, short, within)))
    (led_along comes.2 (length lineage) lineage z rank (omega (arith, short, within)) path))
    (λ z c.
    let stays = filter-only led (range_with_len 0 (length lineage)) z c in
    let path = path_found (length lineage) lineage z rank stays.1 in
    keeps.ancestors z (rank, contains_here rank [], path.0, path.1))

-- they are ranks of the lineage
pub with_ancestors-within : (lineage : List Parents) (rank : ℕ) → All (λ other. other < length lineage) (with_ancestors lineage rank)
unfolding with_ancestors
with_ancestors-within lineage rank = λ k d low.
    let led = λ (other : ℕ). is_led (length lineage) lineage other rank in
    rank-below (length lineage) _ (filter-only led (range_with_len 0 (length lineage)) _ (Contains-get_or (filter led (range_with_len 0 (length lineage))) k d low)).0

pub with_ancestors-ascend : (lineage : List Parents) (rank : ℕ) → IsAscending (with_ancestors lineage rank)
unfolding with_ancestors
with_ancestors-ascend lineage rank = filtered_ascends (λ (other : ℕ). is_led (length lineage) lineage other rank) 0 (length lineage)

-- who is reached by a path is among them
pub with_ancestors-reached : (l most : ℕ) (lineage : List Parents) (rank : ℕ) → IsLineage l most lineage → rank < length lineage
    → (n z : ℕ) → PathTo (ranked lineage) n rank z → Contains (with_ancestors lineage rank) z
unfolding with_ancestors
with_ancestors-reached l most lineage rank f within n z path =
    let short = path_short l most lineage f n rank z path in
    filter-keeps (λ (other : ℕ). is_led (length lineage) lineage other rank) (range_with_len 0 (length lineage)) z
    (rank-in (length lineage) z (omega (arith, short, within)))
    (led_along n (length lineage) lineage z rank (omega (arith, short, within)) path)

-- and to each of them there is a path
pub with_ancestors-path : (lineage : List Parents) (rank z : ℕ) → Contains (with_ancestors lineage rank) z
    → (n : ℕ) × PathTo (ranked lineage) n rank z
unfolding with_ancestors
with_ancestors-path lineage rank z c =
    let stays = filter-only (λ (other : ℕ). is_led (length lineage) lineage other rank) (range_with_len 0 (length lineage)) z c in
    path_found (length lineage) lineage z rank stays.1

-- they are no more than the lineage has
pub with_ancestors-few : (lineage : List Parents) (rank : ℕ) → length (with_ancestors lineage rank) ≤ length lineage
unfolding with_ancestors
with_ancestors-few lineage rank =
    let led = λ (other : ℕ). is_led (length lineage) lineage other rank in
    let all = range_with_len 0 (length lineage) in
    let kept = length-filter led all in
    let few = count_by-le-length led all in
    let long = length-range_with_len 0 (length lineage) in
    omega (arith, kept, few, long)
