-- Sums over the ranks from a border on.
use Rattle.std.proofs.Common.{ℕ, ◌+◌, ◌*◌, ◌<◌, ◌≤◌, ◌≡◌, ⊎_elim, cond, ltb, eqb, arith, refl, sym, ◌∙◌, ap, subst}
use Rattle.std.specs.List.{sum_by, range_with_len}
use Rattle.std.proofs.lemmas.Bool.{cases_lt, cases_order, lt-ltb, le-ltb, eq-eqb, ne_eqb}
use Rattle.herd_kinship.proofs.lemmas.numbers.Sums.{sum_by-agree, sum_by-add, sum_by-one, sum_by-none}
use Rattle.herd_kinship.proofs.lemmas.lineages.Ranks.{rank-below, rank-once}

-- f of the ranks from `above` on, added up
abbrev pub done : ℕ → (ℕ → ℕ) → ℕ → ℕ
done n f above = sum_by (λ j. cond (ltb j above) 0 (f j)) (range_with_len 0 n)

pub done-start : (n : ℕ) (f : ℕ → ℕ) (above : ℕ) → ((j : ℕ) → above ≤ j → j < n → f j ≡ 0) → done n f above ≡ 0
done-start n f above none =
    sum_by-agree (λ j. cond (ltb j above) 0 (f j)) (λ j. 0 * j) (range_with_len 0 n)
    (λ j c.
    ⊎_elim (λ (l : j < above). rw (lt-ltb j above l) (omega arith))
    (λ (l : above ≤ j). rw (le-ltb j above l) (none j l (rank-below n j c) ∙ omega arith)) (cases_lt j above))
    ∙ sum_by-none (λ j. 0 * j) (range_with_len 0 n) (λ j. omega arith)

-- one rank more, where the ranks between hold nothing
pub done-step : (n : ℕ) (f : ℕ → ℕ) (above y : ℕ) → y < above → y < n → ((j : ℕ) → y < j → j < above → f j ≡ 0) →
    done n f y ≡ done n f above + f y
done-step n f above y low ly between =
    sum_by-agree (λ j. cond (ltb j y) 0 (f j)) (λ j. cond (ltb j above) 0 (f j) + cond (eqb y j) (f y) 0) (range_with_len 0 n)
    (λ j c.
    ⊎_elim
    (λ (e : y ≡ j).
    let P : ℕ → Type 0 = λ v. cond (ltb v y) 0 (f v) ≡ cond (ltb v above) 0 (f v) + cond (eqb y v) (f y) 0 in
    let at : P y = rw (le-ltb y y (omega arith), lt-ltb y above low, eq-eqb y y refl) (omega arith) in
    subst P e at)
    (λ r. ⊎_elim
    (λ (g : y < j).
    ⊎_elim
    (λ (i : j < above).
    let z : f j ≡ 0 = between j g i in
    rw (le-ltb j y (omega arith), lt-ltb j above i, ne_eqb y j (λ e. omega arith), z) refl)
    (λ (i : above ≤ j).
    rw (le-ltb j y (omega arith), le-ltb j above i, ne_eqb y j (λ e. omega arith)) (omega arith))
    (cases_lt j above))
    (λ (g : j < y).
    rw (lt-ltb j y g, lt-ltb j above (omega arith), ne_eqb y j (λ e. omega arith)) refl) r)
    (cases_order y j))
    ∙ (sum_by-add (λ j. cond (ltb j above) 0 (f j)) (λ j. cond (eqb y j) (f y) 0) (range_with_len 0 n)
    ∙ ap (λ v. done n f above + v) (sum_by-one (eqb y) (f y) (range_with_len 0 n) (rank-once n y ly)))

-- where nothing is left below the border, all is done
pub done-end : (n : ℕ) (f : ℕ → ℕ) (above : ℕ) → ((j : ℕ) → j < above → f j ≡ 0) → done n f above ≡ sum_by f (range_with_len 0 n)
done-end n f above none =
    sum_by-agree (λ j. cond (ltb j above) 0 (f j)) f (range_with_len 0 n)
    (λ j c.
    ⊎_elim (λ (l : j < above). rw (lt-ltb j above l) (sym (none j l)))
    (λ (l : above ≤ j). rw (le-ltb j above l) refl) (cases_lt j above))
