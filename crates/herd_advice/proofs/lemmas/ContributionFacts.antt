-- What an animal contributes by its lineage it contributes by its book.
use Rattle.std.proofs.Common.{ℕ, ◌<◌, ◌≡◌, inl, inr, List, [], ◌∷◌, length, map, max, min, Some, None, Option, arith, refl, sym, ap, subst, ◌∙◌}
use Rattle.std.specs.Option.{option_map}
use Rattle.std.proofs.lemmas.Bool.{ne_eqb}
use Rattle.herd_lineage.specs.declared.lineage.Parents.{Parents}
use Rattle.herd_lineage.specs.Lineage.{IsLineage, dam_rank, sire_rank}
use Rattle.herd_frozen.specs.declared.freezing.frozen.Row.{Row}
use Rattle.herd_frozen.specs.freezing.Frozen.{IsFrozen, book_of, parents_of}
use Rattle.herd_kinship.specs.Ancestry.{IsParentIn}
use Rattle.herd_kinship.specs.Contributions.{contribution_at, contributions_of, pairs_of}
use Rattle.herd_kinship.specs.InverseRows.{half_row, is_it}
use Rattle.herd_kinship.specs.Ranks.{ranked}
use Rattle.herd_kinship.proofs.lemmas.ancestry.Depth.{IsKnown, known-dam, known-sire}
use Rattle.herd_kinship.proofs.lemmas.lineages.Ranks.{rank-below}
use Rattle.herd_advice.specs.BookContributions.{book_contribution_at, book_contributions_of, book_pairs_of}
use Rattle.herd_advice.specs.FrozenAncestry.{ancestry_of, number_of_row}
use Rattle.herd_advice.proofs.lemmas.BookFacts.{parents-differ}
use Rattle.herd_advice.proofs.lemmas.FrozenFacts.{lawful, long, member, mendelian-book, renamed}

module _ (l most : ℕ) (rows : List Row) (f : IsFrozen l most rows) (made : List Parents) (its : made ≡ map parents_of rows) (w : IsLineage l most made) (i : ℕ) (li : i < length rows) where
  is_it-book : (o : Option ℕ) (p : ℕ) → IsKnown (ranked made) o → p < length rows → is_it (ancestry_of rows) (option_map (number_of_row rows) o) (number_of_row rows p) ≡ is_it (ranked made) o p
  is_it-book None p known lp = refl
  is_it-book (Some q) p known lp = (renamed l most rows f made its w).same q p (known q refl) (member l most rows f made its w p lp)

  half-book : (p : ℕ) → p < length rows → half_row (ancestry_of rows) (number_of_row rows i) (number_of_row rows p) ≡ half_row (ranked made) i p
  unfolding half_row
  half-book p lp =
      let r = renamed l most rows f made its w in
      let ci = member l most rows f made its w i li in
      let kin = ranked made in
      rw (
        r.same i p ci (member l most rows f made its w p lp),
        r.sire i ci,
        r.dam i ci,
        is_it-book (kin.sire i) p (known-sire kin (lawful l most rows f made its w) i ci) lp,
        is_it-book (kin.dam i) p (known-dam kin (lawful l most rows f made its w) i ci) lp,
      ) refl

  contribution-book : (p q : ℕ) → p < length rows → q < length rows → contribution_at l made i (p, q) ≡ book_contribution_at l rows i (p, q)
  contribution-book p q lp lq = rw (mendelian-book l most rows f made its w i li, half-book p lp, half-book q lq) refl

  parent-within : (p : ℕ) → IsParentIn (ranked made) p i → p < length rows
  parent-within p is =
      subst (λ n. p < n) (long l most rows f made its w)
      (rank-below (length made) p ((lawful l most rows f made its w).parents p i (member l most rows f made its w i li) is).0)

  differ : (p : ℕ) → sire_rank made i ≡ Some p → dam_rank made i ≡ Some p → ⊥
  differ p s d =
      let r = renamed l most rows f made its w in
      let ci = member l most rows f made its w i li in
      parents-differ l most (book_of rows) f.lawful (number_of_row rows p) (number_of_row rows i)
      (r.sire i ci ∙ ap (option_map (number_of_row rows)) s) (r.dam i ci ∙ ap (option_map (number_of_row rows)) d)

  greater-within : (s d : ℕ) → s < length rows → d < length rows → max s d < length rows
  greater-within s d ls ld = grind arith

  lesser-within : (s d : ℕ) → s < length rows → min s d < length rows
  lesser-within s d ls = grind arith

  listed : (s d : Option ℕ) → ((p : ℕ) → s ≡ Some p → p < length rows) → ((p : ℕ) → d ≡ Some p → p < length rows) → ((p : ℕ) → s ≡ Some p → d ≡ Some p → ⊥) →
      map (contribution_at l made i) (pairs_of i s d) ≡ map (book_contribution_at l rows i) (book_pairs_of i s d)
  listed None None ls ld apart = λ j. contribution-book i i li li j ∷ []
  listed (Some s) None ls ld apart =
      λ j. contribution-book i i li li j ∷ contribution-book i s li (ls s refl) j ∷ contribution-book s s (ls s refl) (ls s refl) j ∷ []
  listed None (Some d) ls ld apart =
      λ j. contribution-book i i li li j ∷ contribution-book i d li (ld d refl) j ∷ contribution-book d d (ld d refl) (ld d refl) j ∷ []
  listed (Some s) (Some d) ls ld apart =
      let ws = ls s refl in
      let wd = ld d refl in
      rw (ne_eqb s d (λ e. apart s refl (ap Some (sym e))))
      (λ j.
      contribution-book i i li li j
      ∷ contribution-book i s li ws j
      ∷ contribution-book i d li wd j
      ∷ contribution-book s s ws ws j
      ∷ contribution-book d d wd wd j
      ∷ contribution-book (max s d) (min s d) (greater-within s d ws wd) (lesser-within s d ws) j
      ∷ [])

  pub contributions-book : contributions_of l made i ≡ book_contributions_of l rows i
  unfolding contributions_of book_contributions_of
  contributions-book =
      listed (sire_rank made i) (dam_rank made i) (λ p e. parent-within p (inl e)) (λ p e. parent-within p (inr e)) differ
      ∙ ap (λ (v : List Parents). map (book_contribution_at l rows i) (book_pairs_of i (sire_rank v i) (dam_rank v i))) its
