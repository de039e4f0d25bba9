-- The entries of the animals that are kept.
use Rattle.std.proofs.Common.{Contains, ℕ, ◌<◌, ◌≡◌, ⊎_elim, List, length, get_or, slice_get, Some, arith, refl, sym, ap, ◌∙◌}
use Rattle.std.proofs.lemmas.Bool.{cases_order, eq-eqb, ne_eqb, lt-ltb, le-ltb}
use Rattle.std.proofs.lemmas.Grind.{get_or_default_zero}
use Rattle.std.proofs.lemmas.Option.{slice_get-get_or, slice_get_within}
use Rattle.herd_lineage.specs.declared.lineage.Parents.{Parents}
use Rattle.herd_lineage.specs.Lineage.{IsLineage}
use Rattle.herd_lineage.proofs.lemmas.ListFacts.{there}
use Rattle.herd_kinship.specs.Ranks.{ranked}
use Rattle.herd_kinship.specs.Coefficients.{AreCoefficients, coefficient_at}
use Rattle.herd_kinship.proofs.lemmas.ancestry.LawfulAncestry.{IsIncluded}
use Rattle.herd_kinship.proofs.lemmas.ancestry.Depth.{known_some}
use Rattle.herd_kinship.proofs.lemmas.ancestry.Renamed.{coefficient-included, entry-included}
use Rattle.herd_kinship.proofs.lemmas.lineages.LineageFacts.{ranked-lawful}
use Rattle.herd_kinship.proofs.lemmas.lineages.Ranks.{rank-below, rank-in}
use Rattle.herd_pruned.specs.Pruned.{HaveSameEntries, IsPrunedOf, KeepsAncestorsOf, Pruned, renamed_parents}
use Rattle.herd_pruned.specs.Known.{AreCoefficientsOf}

module _ (l most : ℕ) (whole : List Parents) (pruned : Pruned) (g : IsLineage l most pruned.lineage) (w : IsPrunedOf whole pruned) where
  in_order : (x y : ℕ) → x < y → y < length pruned.lineage → get_or pruned.ranks x 0 < get_or pruned.ranks y 0
  in_order x y low within = let each = w.each in w.order x y low (omega (arith, within, each))

  row : (x : ℕ) → x < length pruned.lineage → (kept : Parents) × (slice_get pruned.lineage x ≡ Some kept) × (slice_get whole (get_or pruned.ranks x 0) ≡ Some (renamed_parents (λ p. get_or pruned.ranks p 0) kept))
  row x within = let y = there pruned.lineage x within in (y.0, y.1, w.parents x y.0 y.1)

  -- they are among the animals of the whole, with the same parents and in the same order
  pub pruned-included : IsIncluded (ranked pruned.lineage) (ranked whole) (λ p. get_or pruned.ranks p 0)
  pruned-included =
      let n = length pruned.lineage in
      record {
        same = λ x y cx cy.
            let lx = rank-below n x cx in
            let ly = rank-below n y cy in
            ⊎_elim
            (λ (e : x ≡ y). rw (e, eq-eqb y y refl) (eq-eqb (get_or pruned.ranks y 0) (get_or pruned.ranks y 0) refl))
            (λ apart. ⊎_elim
            (λ (low : x < y). let o = in_order x y low ly in rw (ne_eqb x y (λ e. omega (arith, low, e))) (ne_eqb (get_or pruned.ranks x 0) (get_or pruned.ranks y 0) (λ e. omega (arith, o, e))))
            (λ (low : y < x). let o = in_order y x low lx in rw (ne_eqb x y (λ e. omega (arith, low, e))) (ne_eqb (get_or pruned.ranks x 0) (get_or pruned.ranks y 0) (λ e. omega (arith, o, e))))
            apart)
            (cases_order x y);
        before = λ x y cx cy.
            let lx = rank-below n x cx in
            let ly = rank-below n y cy in
            ⊎_elim
            (λ (e : x ≡ y). rw (e, le-ltb y y (omega arith)) (le-ltb (get_or pruned.ranks y 0) (get_or pruned.ranks y 0) (omega arith)))
            (λ apart. ⊎_elim
            (λ (low : x < y). let o = in_order x y low ly in rw (lt-ltb x y low) (lt-ltb (get_or pruned.ranks x 0) (get_or pruned.ranks y 0) o))
            (λ (low : y < x). let o = in_order y x low lx in rw (le-ltb x y (omega arith)) (le-ltb (get_or pruned.ranks x 0) (get_or pruned.ranks y 0) (omega (arith, o))))
            apart)
            (cases_order x y);
        sire = λ x cx. let at = row x (rank-below n x cx) in rw (at.1, at.2) refl;
        dam = λ x cx. let at = row x (rank-below n x cx) in rw (at.1, at.2) refl;
      }

  pub entry-kept : (x y : ℕ) → x < length pruned.lineage → y < length pruned.lineage → HaveSameEntries whole pruned x y
  entry-kept x y lx ly k =
      let kin = ranked pruned.lineage in
      sym (entry-included kin (ranked whole) (λ p. get_or pruned.ranks p 0) (ranked-lawful l most pruned.lineage g) pruned-included k (Some x) (Some y)
      (known_some kin x (rank-in (length pruned.lineage) x lx)) (known_some kin y (rank-in (length pruned.lineage) y ly)))

  pub coefficient-kept : (x rank : ℕ) → slice_get pruned.ranks x ≡ Some rank → x < length pruned.lineage → get_or pruned.ranks x 0 ≡ rank → coefficient_at l pruned.lineage x ≡ coefficient_at l whole rank
  coefficient-kept x rank at lx is =
      sym (coefficient-included (ranked pruned.lineage) (ranked whole) (λ p. get_or pruned.ranks p 0) (ranked-lawful l most pruned.lineage g) pruned-included l x (rank-in (length pruned.lineage) x lx))
      ∙ ap (λ r. coefficient_at l whole r) is

  -- each has a rank in the whole
  pub kept-within : (i d : ℕ) → i < length pruned.ranks → get_or pruned.ranks i d < length whole
  kept-within i d low =
      let each = w.each in
      let at = row i (omega (arith, low, each)) in
      rw (get_or_default_zero pruned.ranks i d low) (slice_get_within whole (get_or pruned.ranks i 0) (renamed_parents (λ p. get_or pruned.ranks p 0) at.0) at.2)

  -- coefficients that are written at their ranks
  pub coefficients-spread : (animals numerators known : List ℕ) → KeepsAncestorsOf whole animals pruned → AreCoefficients l pruned.lineage numerators → length known ≡ length whole
      → ((i : ℕ) → i < length pruned.ranks → get_or known (get_or pruned.ranks i 0) 0 ≡ get_or numerators i 0) → AreCoefficientsOf l whole (Contains animals) known
  coefficients-spread animals numerators known k are long written = record {
    each = long;
    right = λ rank comes.
        let c : Contains pruned.ranks rank = k.ancestors rank comes in
        let at : get_or pruned.ranks c.0 0 ≡ rank = sym (get_or_default_zero pruned.ranks c.0 rank c.1) ∙ c.2 in
        let each = w.each in
        let low = c.1 in
        let within : c.0 < length pruned.lineage = omega (arith, low, each) in
        let here : slice_get pruned.ranks c.0 ≡ Some rank = slice_get-get_or pruned.ranks c.0 rank c.1 ∙ ap Some c.2 in
        ap (λ r. get_or known r 0) (sym at) ∙ written c.0 c.1 ∙ are.right c.0 within ∙ coefficient-kept c.0 rank here within at;
  }
