-- The calves of a sire below a border: which they are, how many, and that the links lead through them.
use Rattle.std.proofs.Common.{ℕ, zero, suc, ◌<◌, ◌≤◌, ◌≡◌, ◌⊎◌, inl, inr, ⊎_elim, All, AllPairs, Bool, true, false, ◌&&◌, cond, Contains, is_some, List, [], ◌∷◌, length, get_or, nat_eq, Option, Some, None, arith, refl, sym, ◌∙◌, ap, subst}
use Rattle.std.specs.Option.{option_map_or}
use Rattle.std.proofs.lemmas.Bool.{cases_eq, eq-eqb, eqb-true}
use Rattle.std.proofs.lemmas.List.Elements.{All-append, All-nil, All-push, All-weaker, Contains-append_left, Contains-append_right, Contains-push}
use Rattle.std.proofs.lemmas.List.Kept.{AllPairs-cons}
use Rattle.herd_lineage.specs.declared.lineage.Parents.{Parents}
use Rattle.herd_lineage.specs.Lineage.{dam_rank, sire_rank}
use Rattle.herd_kinship.specs.CalfLinks.{AreLinked, calf_count, calves_below, chain, is_calf, IsCalf, IsLink, LeadToOlder}
use Rattle.herd_kinship.proofs.lemmas.sires.CalfFacts.{calf-within}

test-yes : (s d : ℕ) (sire dam : Option ℕ) → sire ≡ Some s → dam ≡ Some d → (is_some dam && option_map_or (nat_eq s) sire false) ≡ true
test-yes s d sire dam es ed = rw (es, ed) (eq-eqb s s refl)

test-is : (s : ℕ) (sire dam : Option ℕ) → (is_some dam && option_map_or (nat_eq s) sire false) ≡ true → (sire ≡ Some s) × (d : ℕ) × (dam ≡ Some d)
test-is s sire None is = absurd (cc)
test-is s None (Some d) is = absurd (cc)
test-is s (Some t) (Some d) is = (ap Some (sym (eqb-true s t is)), d, refl)

not_true : (b : Bool) → (b ≡ true → ⊥) → b ≡ false
not_true true h = absurd (h refl)
not_true false h = refl

-- the next animal is the youngest of them, or no calf of s
abbrev pub Step : List Parents → ℕ → ℕ → Type 0
Step rows s x =
    (IsCalf rows s x × (calves_below rows s (suc x) ≡ x ∷ calves_below rows s x))
    ⊎ ((IsCalf rows s x → ⊥) × (calves_below rows s (suc x) ≡ calves_below rows s x))

step-by : (rows : List Parents) (s x : ℕ) (b : Bool) → is_calf rows s x ≡ b → Step rows s x
unfolding calves_below
step-by rows s x true is =
    inl (test-is s (sire_rank rows x) (dam_rank rows x) is, ap (λ (b : Bool). cond b (x ∷ calves_below rows s x) (calves_below rows s x)) is)
step-by rows s x false is =
    inr (
      λ calf. (let yes = test-yes s calf.1 (sire_rank rows x) (dam_rank rows x) calf.0 calf.2 in absurd (cc)),
      ap (λ (b : Bool). cond b (x ∷ calves_below rows s x) (calves_below rows s x)) is,
    )

pub step : (rows : List Parents) (s x : ℕ) → Step rows s x
step rows s x = step-by rows s x (is_calf rows s x) refl

-- each is a calf of s
pub below-each : (rows : List Parents) (s n : ℕ) → All (IsCalf rows s) (calves_below rows s n)
unfolding calves_below
below-each rows s zero = All-nil (IsCalf rows s)
below-each rows s (suc n) = elim (step rows s n) [
  | inl at ↦
      subst (All (IsCalf rows s)) (sym at.1)
      (All-append (IsCalf rows s) (n ∷ []) (calves_below rows s n) (All-push (IsCalf rows s) [] n (All-nil (IsCalf rows s)) at.0) (below-each rows s n))
  | inr at ↦ subst (All (IsCalf rows s)) (sym at.1) (below-each rows s n)
]

pub below-within : (rows : List Parents) (s n : ℕ) → All (λ x. x < length rows) (calves_below rows s n)
below-within rows s n = All-weaker (IsCalf rows s) (λ x. x < length rows) (calf-within rows s) (calves_below rows s n) (below-each rows s n)

-- it stands below the border
below-border : (rows : List Parents) (s n : ℕ) → All (λ x. x < n) (calves_below rows s n)
unfolding calves_below
below-border rows s zero = All-nil (λ x. x < 0)
below-border rows s (suc n) =
    let lower = All-weaker (λ x. x < n) (λ x. x < suc n) (λ x low. omega (arith, low)) (calves_below rows s n) (below-border rows s n) in
    elim (step rows s n) [
      | inl at ↦
          subst (All (λ x. x < suc n)) (sym at.1)
          (All-append (λ x. x < suc n) (n ∷ []) (calves_below rows s n) (All-push (λ x. x < suc n) [] n (All-nil (λ x. x < suc n)) (omega arith)) lower)
      | inr at ↦ subst (All (λ x. x < suc n)) (sym at.1) lower
    ]

-- and before the older ones
pub below-descending : (rows : List Parents) (s n : ℕ) → AllPairs (λ x y. y < x) (calves_below rows s n)
unfolding calves_below
below-descending rows s zero = λ i j d before within. absurd (omega (arith, within))
below-descending rows s (suc n) = elim (step rows s n) [
  | inl at ↦
      subst (AllPairs (λ x y. y < x)) (sym at.1)
      (AllPairs-cons (λ x y. y < x) n (calves_below rows s n) (below-border rows s n) (below-descending rows s n))
  | inr at ↦ subst (AllPairs (λ x y. y < x)) (sym at.1) (below-descending rows s n)
]

-- and they are all below the border
pub below-all : (rows : List Parents) (s n x : ℕ) → x < n → IsCalf rows s x → Contains (calves_below rows s n) x
below-all rows s zero x low calf = absurd (omega (arith, low))
below-all rows s (suc n) x low calf = elim (step rows s n) [
  | inl at ↦
      subst (λ xs. Contains xs x) (sym at.1)
      (⊎_elim (λ (same : x ≡ n). subst (λ v. Contains (n ∷ calves_below rows s n) v) (sym same) (Contains-append_left (n ∷ []) (calves_below rows s n) n (Contains-push [] n)))
      (λ (other : x ≡ n → ⊥). Contains-append_right (n ∷ []) (calves_below rows s n) x (below-all rows s n x (omega arith) calf))
      (cases_eq x n))
  | inr at ↦
      subst (λ xs. Contains xs x) (sym at.1)
      (below-all rows s n x (⊎_elim (λ (same : x ≡ n). absurd (at.0 (subst (IsCalf rows s) same calf))) (λ (other : x ≡ n → ⊥). omega arith) (cases_eq x n)) calf)
]

below-few : (rows : List Parents) (s n : ℕ) → length (calves_below rows s n) ≤ n
unfolding calves_below
below-few rows s zero = omega arith
below-few rows s (suc n) = let few = below-few rows s n in elim (step rows s n) [
  | inl at ↦ let long = ap length at.1 in omega arith
  | inr at ↦ let long = ap length at.1 in omega arith
]

-- there are no more of them than animals
pub calf_count-few : (rows : List Parents) (s : ℕ) → calf_count rows s ≤ length rows
calf_count-few rows s = below-few rows s (length rows)

module _ (earlier : List (Option ℕ)) (older : LeadToOlder earlier) where
  -- two numbers of steps that both suffice
  chain-steps : (n m : ℕ) (link : Option ℕ) → ((y : ℕ) → link ≡ Some y → y < n) → ((y : ℕ) → link ≡ Some y → y < m) → chain earlier n link ≡ chain earlier m link
  chain-steps zero zero link below within = refl
  chain-steps zero (suc m) None below within = refl
  chain-steps zero (suc m) (Some y) below within = let low = below y refl in absurd (omega arith)
  chain-steps (suc n) zero None below within = refl
  chain-steps (suc n) zero (Some y) below within = let low = within y refl in absurd (omega arith)
  chain-steps (suc n) (suc m) None below within = refl
  chain-steps (suc n) (suc m) (Some y) below within =
      ap (λ (xs : List ℕ). y ∷ xs)
      (chain-steps n m (get_or earlier y None) (λ z e. let low = below y refl in let next = older y z e in omega (arith, low, next)) (λ z e. let low = within y refl in let next = older y z e in omega (arith, low, next)))

  -- one link further
  pub chain-next : (n y : ℕ) → y < n → chain earlier n (Some y) ≡ y ∷ chain earlier n (get_or earlier y None)
  chain-next zero y low = absurd (omega (arith, low))
  chain-next (suc n) y low =
      ap (λ (xs : List ℕ). y ∷ xs)
      (chain-steps n (suc n) (get_or earlier y None) (λ z e. let next = older y z e in omega (arith, low, next)) (λ z e. let next = older y z e in omega (arith, low, next)))

  -- from the youngest one below a border the links lead through all
  pub chain-below : (rows : List Parents) (s : ℕ) (latest : List (Option ℕ)) → AreLinked rows (length rows) latest earlier → (n : ℕ) (link : Option ℕ) → IsLink rows s n link →
      chain earlier n link ≡ calves_below rows s n
  unfolding calves_below
  chain-below rows s latest are zero link is = refl
  chain-below rows s latest are (suc n) link is = elim (step rows s n) [
    | inl at ↦
        (let youngest = is.youngest n (omega arith) at.0 in
        let low = (is.calf youngest.0 youngest.1).0 in
        let high = youngest.2 in
        let same : youngest.0 ≡ n = omega arith in
        let first : link ≡ Some n = youngest.1 ∙ ap Some same in
        ap (chain earlier (suc n)) first
        ∙ (ap (λ (xs : List ℕ). n ∷ xs) (chain-below rows s latest are n (get_or earlier n None) (are.earlier_is s n (calf-within rows s n at.0) at.0)) ∙ sym at.1))
    | inr at ↦
        (let within : (y : ℕ) → link ≡ Some y → y < n = λ y e.
        let calf = is.calf y e in
        let low = calf.0 in
        ⊎_elim (λ (same : y ≡ n). absurd (at.0 (subst (IsCalf rows s) same calf.1))) (λ (other : y ≡ n → ⊥). omega arith) (cases_eq y n) in
        chain-steps (suc n) n link (λ y e. (is.calf y e).0) within
        ∙ (chain-below rows s latest are n link (record { calf = λ y e. (within y e, (is.calf y e).1); youngest = λ x low calf. is.youngest x (omega (arith, low)) calf }) ∙ sym at.1))
  ]
