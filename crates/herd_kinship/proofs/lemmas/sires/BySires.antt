-- The coefficients sire by sire: what is known once the calves of some sires have theirs.
use Rattle.std.proofs.Common.{ℕ, ◌+◌, ◌*◌, ◌^◌, ◌<◌, ◌≤◌, ◌≡◌, ◌⊎◌, inl, inr, ⊎_elim, All, List, length, get_or, Some, None, arith, sym, ◌∙◌, subst}
use Rattle.std.proofs.lemmas.Bool.{cases_lt}
use Rattle.std.proofs.lemmas.List.Elements.{All-from_get_or}
use Rattle.herd_lineage.specs.declared.lineage.Parents.{Parents}
use Rattle.herd_lineage.specs.Lineage.{IsLineage, depth_at, dam_rank, sire_rank}
use Rattle.herd_kinship.specs.CalfCoefficients.{Keeps}
use Rattle.herd_kinship.specs.Coefficients.{AreCoefficients, IsBefore, IsLessDeep, IsReached, KnowsAncestors, KnowsReached, coefficient_at}
use Rattle.herd_kinship.specs.CalfLinks.{IsCalf}
use Rattle.herd_lineage.proofs.lemmas.ListFacts.{option_cases}
use Rattle.herd_kinship.proofs.lemmas.lineages.LineageFacts.{depth-at_most, parent-less_deep}
use Rattle.herd_kinship.proofs.lemmas.lineages.LineageFacts.{lineage-ranked}
use Rattle.herd_kinship.proofs.lemmas.tracing.KnownFacts.{coefficient-unknown, lineage-coefficient_bound, known-from_below, known-from_levels}
use Rattle.herd_kinship.proofs.lemmas.sires.CalfListFacts.{kept-stays}

-- where nobody has two known parents, everybody is reached
pub reached-nobody : (l : ℕ) (rows : List Parents) (P Q : ℕ → Type 0) (known : List ℕ) → ((s x : ℕ) → IsCalf rows s x → ⊥) → KnowsReached l rows P known → KnowsReached l rows Q known
reached-nobody l rows P Q known none k = record {
  each = k.each;
  right = λ x lx r. k.right x lx (λ s d es ed. absurd (none s x (es, d, ed)));
}

-- The calves of further sires are written, and every other number is kept or is right. So those that are reached from
-- both kinds of sires are known.
pub reached-more : (l : ℕ) (rows : List Parents) (P N Q : ℕ → Type 0) → ((s : ℕ) → Q s → P s ⊎ N s) → (known now : List ℕ) → length now ≡ length known →
    Keeps (coefficient_at l rows) known now →
    ((s x : ℕ) → N s → IsCalf rows s x → get_or now x 0 ≡ coefficient_at l rows x) → KnowsReached l rows P known → KnowsReached l rows Q now
reached-more l rows P N Q either known now each kept calves k = record {
  each = each ∙ k.each;
  right = λ x lx r.
      let before : IsReached rows P x → get_or now x 0 ≡ coefficient_at l rows x = λ b.
      kept-stays (coefficient_at l rows) known now kept x (k.right x lx b) in
      ⊎_elim (λ (a : sire_rank rows x ≡ None). before (λ t d et ed. absurd (cc)))
      (λ a.
      ⊎_elim (λ (b : dam_rank rows x ≡ None). before (λ t d et ed. absurd (cc)))
      (λ b.
      ⊎_elim
      (λ (old : P a.0). before (λ t d et ed. let same : Some a.0 ≡ Some t = sym a.1 ∙ et in let is : a.0 ≡ t = cc in subst P is old))
      (λ (further : N a.0). calves a.0 x further (a.1, b.0, b.1))
      (either a.0 (r a.0 b.0 a.1 b.1)))
      (option_cases (dam_rank rows x)))
      (option_cases (sire_rank rows x));
}

-- sires before the next rank are those before this one, and the one at it
pub before-next : (border s : ℕ) → IsBefore (border + 1) s → IsBefore border s ⊎ (s ≡ border)
before-next border s low = ⊎_elim (λ (below : s < border). inl below) (λ (at : border ≤ s). let is : s ≡ border = omega arith in inr is) (cases_lt s border)

-- sires of less depth than the next are those of less than this one, and those of this one
pub less_deep-next : (rows : List Parents) (depth s : ℕ) → IsLessDeep rows (depth + 1) s → IsLessDeep rows depth s ⊎ (depth_at rows s ≡ depth)
less_deep-next rows depth s low =
    ⊎_elim (λ (below : depth_at rows s < depth). inl below) (λ (at : depth ≤ depth_at rows s). let is : depth_at rows s ≡ depth = omega arith in inr is) (cases_lt (depth_at rows s) depth)

module _ (l most : ℕ) (rows : List Parents) (f : IsLineage l most rows) where
  -- at first there is 0 everywhere, and no sire
  pub reached-start : (P : ℕ → Type 0) → ((s : ℕ) → P s → ⊥) → (known : List ℕ) → length known ≡ length rows → ((x : ℕ) → x < length rows → get_or known x 0 ≡ 0) → KnowsReached l rows P known
  reached-start P nobody known each zero = record {
    each = each;
    right = λ x lx r.
        let none : (sire_rank rows x ≡ None) ⊎ (dam_rank rows x ≡ None) =
        ⊎_elim (λ a. inl a)
        (λ a. ⊎_elim (λ b. inr b) (λ b. absurd (nobody a.0 (r a.0 b.0 a.1 b.1))) (option_cases (dam_rank rows x)))
        (option_cases (sire_rank rows x)) in
        zero x lx ∙ sym (coefficient-unknown l most rows f x lx none);
  }

  -- the ancestors of a sire are reached from the sires before it
  pub reached-ancestors : (s : ℕ) (known : List ℕ) → s < length rows → KnowsReached l rows (IsBefore s) known → KnowsAncestors l rows known s
  reached-ancestors s known ls k =
      known-from_below l most rows f known s ls k.each (λ p ps.
      k.right p (omega arith) (λ t d et ed.
      let lower : t < p = (lineage-ranked l most rows f).below p t (omega arith) (inl et) in omega arith))

  -- and from the sires of less depth than its own
  pub less_deep-ancestors : (depth s : ℕ) (known : List ℕ) → s < length rows → depth_at rows s ≤ depth → KnowsReached l rows (IsLessDeep rows depth) known → KnowsAncestors l rows known s
  less_deep-ancestors depth s known ls deep k =
      known-from_levels l most rows f known s ls k.each (λ p lp less.
      k.right p lp (λ t d et ed.
      let lower : t < p = (lineage-ranked l most rows f).below p t lp (inl et) in
      let lt : t < length rows = omega arith in
      let higher : depth_at rows t < depth_at rows p = parent-less_deep l most rows f p t lp lt (inl et) in omega arith))

  -- once all sires are there, every animal is reached
  pub reached-all : (P : ℕ → Type 0) → ((s : ℕ) → s < length rows → P s) → (known : List ℕ) → KnowsReached l rows P known → AreCoefficients l rows known
  reached-all P every known k = record {
    each = k.each;
    right = λ x lx.
        k.right x lx (λ t d et ed. let lower : t < x = (lineage-ranked l most rows f).below x t lx (inl et) in every t (omega arith));
  }

  -- above the limit of depths all sires are there
  pub less_deep-all : (depth : ℕ) (known : List ℕ) → l < depth → KnowsReached l rows (IsLessDeep rows depth) known → AreCoefficients l rows known
  less_deep-all depth known above k =
      reached-all (IsLessDeep rows depth) (λ s ls. let limit : depth_at rows s ≤ l = depth-at_most l most rows f s ls in omega arith) known k

  -- the coefficients are below 1
  pub coefficients-below_one : (numerators : List ℕ) → AreCoefficients l rows numerators → All (λ n. n < 2 ^ (2 * l)) numerators
  coefficients-below_one numerators are =
      All-from_get_or (λ n. n < 2 ^ (2 * l)) numerators 0 (λ i li.
      let each : length numerators ≡ length rows = are.each in
      let within : i < length rows = omega arith in
      rw (are.right i within) (lineage-coefficient_bound l most rows f i within))
