-- The squared shares of x in its ancestors times the Mendelian sampling variances, added up from the youngest to the oldest.
use Rattle.std.proofs.Common.{ℕ, suc, ◌+◌, ◌*◌, ◌-◌, ◌/◌, ◌^◌, ◌<◌, ◌≤◌, ◌≡◌, ⊎_elim, List, length, Some, cond, ltb, arith, sym, ◌∙◌, ap}
use Rattle.std.specs.List.{sum_by, range_with_len}
use Rattle.std.proofs.Math.Nat.{mul-le-mul_left}
use Rattle.std.proofs.Math.Pow.{pow_pos}
use Rattle.std.proofs.lemmas.Bool.{cases_lt, lt-ltb, le-ltb}
use Rattle.std.proofs.lemmas.List.Sums.{sum_by-le-sum_by}
use Rattle.herd_lineage.specs.declared.lineage.Parents.{Parents}
use Rattle.herd_lineage.specs.Lineage.{IsLineage, depth_at, dam_rank, sire_rank}
use Rattle.herd_kinship.specs.Coefficients.{own_relationship}
use Rattle.herd_kinship.specs.Table.{entry, mendelian}
use Rattle.herd_kinship.specs.Shares.{share, shared}
use Rattle.herd_kinship.specs.Ranks.{ranked}
use Rattle.herd_kinship.specs.Tracing.{IsMetAs, IsNext}
use Rattle.herd_kinship.specs.declared.tracing.Met.{Met}
use Rattle.herd_kinship.proofs.lemmas.numbers.Sums.{cancel}
use Rattle.herd_kinship.proofs.lemmas.tracing.Brought.{later_none}
use Rattle.herd_kinship.proofs.lemmas.laws.Decompose.{decomposition}
use Rattle.herd_kinship.proofs.lemmas.ancestry.Depth.{known_some}
use Rattle.herd_kinship.proofs.lemmas.tracing.Done.{done, done-start, done-step, done-end}
use Rattle.herd_kinship.proofs.lemmas.ancestry.Exact.{term-exact}
use Rattle.herd_kinship.proofs.lemmas.lineages.LineageFacts.{ranked-depth, ranked-below_depth, depth-at_most}
use Rattle.herd_kinship.proofs.lemmas.lineages.LineageFacts.{lineage-ranked, ranked-lawful, ranked-shallow}
use Rattle.herd_kinship.proofs.lemmas.lineages.Ranks.{rank-in}
use Rattle.herd_kinship.proofs.lemmas.ancestry.Table.{entry-bound}

-- what the ancestor at j adds to the relationship of x with itself, in unit 2^-4l
abbrev pub term_of : ℕ → List Parents → ℕ → ℕ → ℕ
term_of l rows x j = share (ranked rows) l (Some x) j * share (ranked rows) l (Some x) j * mendelian (ranked rows) l j

-- the terms of the ranks from the border on are added up, in unit 2^-2l
abbrev pub IsSummed : ℕ → List Parents → ℕ → ℕ → ℕ → Type 0
IsSummed l rows x border sum = 2 ^ (2 * l) * sum ≡ done (length rows) (term_of l rows x) border

-- what is added for an ancestor of x that is met
pub record IsAdded (l : ℕ) (rows : List Parents) (x sum variance : ℕ) (met : Met) : Type 0 where
  pub shift : 2 * met.steps < 128
  pub fits : variance / 2 ^ (2 * met.steps) * (met.share * met.share) < 2 ^ 128
  pub sum_fits : sum + variance / 2 ^ (2 * met.steps) * (met.share * met.share) < 2 ^ 128
  pub summed : IsSummed l rows x met.rank (sum + variance / 2 ^ (2 * met.steps) * (met.share * met.share))

module _ (l most : ℕ) (rows : List Parents) (f : IsLineage l most rows) (x : ℕ) (lx : x < length rows) where
  -- a later animal is no ancestor
  pub summed-start : IsSummed l rows x (x + 1) 0
  summed-start =
      let none = done-start (length rows) (term_of l rows x) (x + 1) (λ j a b.
      let z = later_none (length rows) (sire_rank rows) (dam_rank rows) (lineage-ranked l most rows f) l (ranked-shallow l most rows f) x j (omega arith) b in
      rw z (omega arith)) in
      omega (arith, none)

  summed-next : (b j own sum : ℕ) → j < length rows → IsNext l rows x b j own → IsSummed l rows x b sum →
      IsSummed l rows x j (sum + own * own * (mendelian (ranked rows) l j / 2 ^ (depth_at rows x + depth_at rows x - 2 * depth_at rows j)))
  summed-next b j own sum lj next so_far =
      let kin = ranked rows in
      let s = next.share_is in
      let q : ℕ = mendelian kin l j / 2 ^ (depth_at rows x + depth_at rows x - 2 * depth_at rows j) in
      let term : term_of l rows x j ≡ 2 ^ (2 * l) * (own * own * q) =
      term-exact kin (ranked-lawful l most rows f) l (depth_at rows x) (depth_at rows x) (depth_at rows j) x x j
      (depth-at_most l most rows f x lx) (depth-at_most l most rows f x lx) s.less_deep s.less_deep
      (ranked-below_depth l most rows f x lx) (ranked-below_depth l most rows f x lx) (ranked-below_depth l most rows f j lj) (ranked-depth l most rows f j lj).0
      ∙ ap (λ v. 2 ^ (2 * l) * (v * v * q)) (sym s.own_is) in
      let step = done-step (length rows) (term_of l rows x) b j next.below lj (λ i low high. let z = next.between i low high in rw z (omega arith)) in
      omega (arith, step, term, so_far)

  all_terms : sum_by (term_of l rows x) (range_with_len 0 (length rows)) ≡ 2 ^ (2 * l) * entry (ranked rows) (2 * l) (Some x) (Some x)
  unfolding shared
  all_terms =
      let known = known_some (ranked rows) x (rank-in (length rows) x lx) in
      decomposition (ranked rows) (ranked-lawful l most rows f) l (ranked-shallow l most rows f) (Some x) (Some x) known known

  -- a sum so far is below 2
  summed-bound : (border sum : ℕ) → IsSummed l rows x border sum → sum < 2 ^ suc (2 * l)
  summed-bound border sum so_far =
      let part : done (length rows) (term_of l rows x) border ≤ sum_by (term_of l rows x) (range_with_len 0 (length rows)) =
      sum_by-le-sum_by (λ j. cond (ltb j border) 0 (term_of l rows x j)) (term_of l rows x) (range_with_len 0 (length rows))
      (λ j. ⊎_elim (λ (a : j < border). rw (lt-ltb j border a) (omega arith)) (λ (a : border ≤ j). rw (le-ltb j border a) (omega arith)) (cases_lt j border)) in
      let e : ℕ = entry (ranked rows) (2 * l) (Some x) (Some x) in
      let top : e < 2 ^ suc (2 * l) = entry-bound (ranked rows) (2 * l) (Some x) (Some x) in
      ⊎_elim (λ (a : sum < 2 ^ suc (2 * l)). a)
      (λ (a : 2 ^ suc (2 * l) ≤ sum).
      let more : suc e ≤ sum = omega arith in
      let big : 2 ^ (2 * l) * suc e ≤ 2 ^ (2 * l) * sum = mul-le-mul_left (2 ^ (2 * l)) more in
      let unit = pow_pos (2 * l) in
      absurd (omega (arith, part, all_terms, so_far, big, unit)))
      (cases_lt sum (2 ^ suc (2 * l)))

  -- the term of the next ancestor is added
  pub added : (b sum variance : ℕ) (met : Met) → 2 * l < 128 → 2 ^ suc (2 * l) < 2 ^ 128 → IsNext l rows x b met.rank met.share → IsMetAs rows x met →
      variance ≡ mendelian (ranked rows) l met.rank → IsSummed l rows x b sum → IsAdded l rows x sum variance met
  added b sum variance met small room next is of_met so_far =
      let j : ℕ = met.rank in
      let own : ℕ = met.share in
      let apart = is.steps in
      let limit = depth-at_most l most rows f x lx in
      let steps : 2 * met.steps ≡ depth_at rows x + depth_at rows x - 2 * depth_at rows j = omega (arith, apart) in
      let term : variance / 2 ^ (2 * met.steps) * (own * own)
      ≡ own * own * (mendelian (ranked rows) l j / 2 ^ (depth_at rows x + depth_at rows x - 2 * depth_at rows j)) =
      rw (steps, of_met) (omega arith) in
      let summed : IsSummed l rows x j (sum + variance / 2 ^ (2 * met.steps) * (own * own)) =
      rw term (summed-next b j own sum is.within next so_far) in
      let below = summed-bound j (sum + variance / 2 ^ (2 * met.steps) * (own * own)) summed in
      record {
        shift = omega (arith, apart, limit);
        fits = omega (arith, below, room);
        sum_fits = omega (arith, below, room);
        summed = summed;
      }

  -- where nothing is left below the border the sum is the entry
  pub summed-end : (border sum : ℕ) → ((j : ℕ) → j < border → share (ranked rows) l (Some x) j ≡ 0) → IsSummed l rows x border sum →
      sum ≡ own_relationship l rows x
  summed-end border sum none so_far =
      cancel (2 ^ (2 * l)) sum (entry (ranked rows) (2 * l) (Some x) (Some x)) (pow_pos (2 * l))
      (so_far ∙ (done-end (length rows) (term_of l rows x) border (λ j a. let z = none j a in rw z (omega arith)) ∙ all_terms))
