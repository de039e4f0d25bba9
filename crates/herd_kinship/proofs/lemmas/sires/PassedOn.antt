-- The steps by which a column is made: its parts along a tracing, and its relationships from the oldest on.
use Rattle.std.proofs.Common.{ℕ, suc, ◌+◌, ◌*◌, ◌-◌, ◌/◌, ◌^◌, ◌<◌, ◌≤◌, ◌≡◌, inl, inr, ⊎_elim, List, length, get_or, set, Option, Some, None, Contains, arith, refl, sym, ◌∙◌, ap, subst}
use Rattle.std.proofs.lemmas.Bool.{cases_lt, cases_eq}
use Rattle.std.proofs.lemmas.List.{get_or-set_same, get_or-set_other, length-set}
use Rattle.herd_lineage.specs.declared.lineage.Parents.{Parents}
use Rattle.herd_lineage.specs.Lineage.{IsLineage, dam_rank, sire_rank}
use Rattle.herd_kinship.proofs.lemmas.Lists.{contains-at}
use Rattle.herd_kinship.specs.Ancestry.{IsParentIn}
use Rattle.herd_kinship.specs.Columns.{at_parent, related, inherited, passed_to, CanPassTo, HasAll, IsCollection}
use Rattle.herd_kinship.specs.Ranks.{AreParentsAt, ranked}
use Rattle.herd_kinship.specs.Shares.{share}
use Rattle.herd_kinship.specs.Table.{mendelian}
use Rattle.herd_kinship.specs.Tracing.{IsMetAs, IsNext}
use Rattle.herd_kinship.specs.declared.tracing.Met.{Met}
use Rattle.herd_kinship.proofs.lemmas.tracing.Brought.{later_none}
use Rattle.herd_kinship.proofs.lemmas.sires.ColumnFacts.{column-step, inherited-bound, inherited-none, inherited-term, related-bound}
use Rattle.herd_kinship.proofs.lemmas.lineages.LineageFacts.{depth-at_most}
use Rattle.herd_kinship.proofs.lemmas.lineages.LineageFacts.{lineage-ranked, ranked-shallow}
use Rattle.herd_kinship.proofs.lemmas.tracing.KnownFacts.{right-more}
use Rattle.herd_kinship.proofs.lemmas.lineages.ParentsFacts.{parents-sire, parents-dam, parents-within}
use Rattle.herd_kinship.proofs.lemmas.ancestry.Table.{entry-none_right}

-- what all ranks of a collection have, each that is contained has
pub has-all : (column collected : List ℕ) (f : ℕ → ℕ) (p : ℕ) → HasAll column collected f → Contains collected p → get_or column p 0 ≡ f p
has-all column collected f p has c = subst (λ q. get_or column q 0 ≡ f q) (contains-at collected p c) (has c.0 c.1)

-- from the border on the parts are written where there was 0
pub record AreParts (l : ℕ) (rows : List Parents) (s border : ℕ) (old now : List ℕ) : Type 0 where
  pub each : length now ≡ length old
  pub written : (j : ℕ) → border ≤ j → j < length rows → get_or old j 0 ≡ 0 → get_or now j 0 ≡ inherited l rows s j
  pub left : (j : ℕ) → j < border → get_or now j 0 ≡ get_or old j 0

-- the collected ranks from the index k on have their relationships, the ones before it their parts
pub record IsPassedOn (l : ℕ) (rows : List Parents) (s : ℕ) (collected : List ℕ) (k : ℕ) (column : List ℕ) : Type 0 where
  pub each : length column ≡ length rows
  pub done : (m : ℕ) → k ≤ m → m < length collected → get_or column (get_or collected m 0) 0 ≡ related l rows s (Some (get_or collected m 0))
  pub left : (m : ℕ) → m < k → m < length collected → get_or column (get_or collected m 0) 0 ≡ inherited l rows s (get_or collected m 0)

-- the ranks below a border have their relationships, the others their parts
pub record AreRelated (l : ℕ) (rows : List Parents) (s border : ℕ) (column : List ℕ) : Type 0 where
  pub each : length column ≡ length rows
  pub done : (j : ℕ) → j < border → get_or column j 0 ≡ related l rows s (Some j)
  pub left : (j : ℕ) → border ≤ j → j < length rows → get_or column j 0 ≡ inherited l rows s j

-- what a step may use at the index k
pub record HasParents (l : ℕ) (rows : List Parents) (s : ℕ) (column : List ℕ) (o : Option ℕ) : Type 0 where
  pub within : (p : ℕ) → o ≡ Some p → p < length column
  pub value : at_parent column o ≡ related l rows s o
  pub below_two : related l rows s o < 2 ^ suc (2 * l)

-- a step can be made at the rank j, and makes its relationship
pub record IsPassing (l : ℕ) (rows : List Parents) (s : ℕ) (column : List ℕ) (j : ℕ) (parents : Parents) : Type 0 where
  pub can : CanPassTo column parents j
  pub value : passed_to column parents j ≡ related l rows s (Some j)

-- what a tracing's step writes for the ancestor that is met
pub record IsPart (l : ℕ) (rows : List Parents) (s variance : ℕ) (met : Met) : Type 0 where
  pub shift : met.steps < 128
  pub fits : variance / 2 ^ met.steps * (met.share * 1) < 2 ^ 128
  pub value : variance / 2 ^ met.steps * (met.share * 1) ≡ inherited l rows s met.rank

module _ (l most : ℕ) (rows : List Parents) (f : IsLineage l most rows) (s : ℕ) (ls : s < length rows) where
  pub part-is : (b variance : ℕ) (met : Met) → l < 128 → 2 ^ suc (2 * l) < 2 ^ 128 → IsNext l rows s b met.rank met.share → IsMetAs rows s met →
      variance ≡ mendelian (ranked rows) l met.rank → IsPart l rows s variance met
  part-is b variance met small room next is of_met =
      let limit = depth-at_most l most rows f s ls in
      let below = inherited-bound l most rows f s ls met.rank is.within in
      let steps = is.steps in
      let one : met.share * 1 ≡ met.share = omega arith in
      let value : variance / 2 ^ met.steps * (met.share * 1) ≡ inherited l rows s met.rank =
      rw (is.steps, one) (inherited-term l most rows f s ls met.rank met.share variance is.within next.share_is of_met) in
      record {
        shift = omega (arith, steps, limit);
        fits = rw value (omega (arith, below, room));
        value = value;
      }

  pub parts-start : (old : List ℕ) → AreParts l rows s (s + 1) old old
  parts-start old = record {
    each = refl;
    written = λ j b lj none.
        none ∙ sym (inherited-none l most rows f s ls j
        (later_none (length rows) (sire_rank rows) (dam_rank rows) (lineage-ranked l most rows f) l (ranked-shallow l most rows f) s j (omega arith) lj));
    left = λ j b. refl;
  }

  pub parts-next : (b y own v : ℕ) (old now : List ℕ) → length old ≡ length rows → y < length rows → IsNext l rows s b y own → v ≡ inherited l rows s y → AreParts l rows s b old now →
      AreParts l rows s y old (set now y v)
  parts-next b y own v old now long ly next is so_far =
      let each : length now ≡ length old = so_far.each in
      record {
        each = length-set now y v ∙ each;
        written = λ j yj lj none.
            ⊎_elim
            (λ (e : y ≡ j). subst (λ q. get_or (set now y v) q 0 ≡ inherited l rows s q) e (get_or-set_same now y v 0 (omega arith) ∙ is))
            (λ (ne : y ≡ j → ⊥).
            get_or-set_other now y j v 0 (λ q. ne (sym q))
            ∙ ⊎_elim (λ (jb : j < b). so_far.left j jb ∙ (none ∙ sym (inherited-none l most rows f s ls j (next.between j (omega arith) jb))))
            (λ (bj : b ≤ j). so_far.written j bj lj none)
            (cases_lt j b))
            (cases_eq y j);
        left = λ j jy. let low = next.below in get_or-set_other now y j v 0 (λ q. omega arith) ∙ so_far.left j (omega arith);
      }

  pub parts-end : (border : ℕ) (old now : List ℕ) → ((j : ℕ) → j < border → share (ranked rows) l (Some s) j ≡ 0) → AreParts l rows s border old now →
      (j : ℕ) → j < length rows → get_or old j 0 ≡ 0 → get_or now j 0 ≡ inherited l rows s j
  parts-end border old now none so_far j lj zero =
      ⊎_elim (λ (jb : j < border). so_far.left j jb ∙ (zero ∙ sym (inherited-none l most rows f s ls j (none j jb))))
      (λ (bj : border ≤ j). so_far.written j bj lj zero)
      (cases_lt j border)

  -- a step, where the parents have their relationships and the animal its part
  is-passing : (j : ℕ) (column : List ℕ) (parents : Parents) → 2 ^ suc (2 * l) + 2 ^ suc (2 * l) < 2 ^ 128 → AreParentsAt rows j parents → j < length column →
      get_or column j 0 ≡ inherited l rows s j → HasParents l rows s column parents.sire → HasParents l rows s column parents.dam → IsPassing l rows s column j parents
  is-passing j column parents room at here left sire dam =
      let es = parents-sire rows j parents at in
      let ed = parents-dam rows j parents at in
      let step : (related l rows s parents.sire + related l rows s parents.dam) / 2 + inherited l rows s j ≡ related l rows s (Some j) =
      rw (← es, ← ed) (column-step l most rows f s ls j (parents-within rows j parents at)) in
      let value : passed_to column parents j ≡ related l rows s (Some j) = rw (sire.value, dam.value, left) (omega (arith, step)) in
      let below = related-bound l most rows f s ls (Some j) in
      let of_sire = sire.below_two in
      let of_dam = dam.below_two in
      record {
        can = record {
          itself = here;
          sire = sire.within;
          dam = dam.within;
          both = rw (sire.value, dam.value) (omega (arith, of_sire, of_dam, room));
          sum = rw value (omega (arith, below, room));
        };
        value = value;
      }

  -- the same in the order of ranks
  has-lower : (i : ℕ) (column : List ℕ) → i < length rows → AreRelated l rows s i column → (o : Option ℕ) → ((p : ℕ) → o ≡ Some p → IsParentIn (ranked rows) p i) →
      HasParents l rows s column o
  has-lower i column li so_far None parent = record {
    within = λ p e. absurd (cc);
    value = sym (entry-none_right (ranked rows) (2 * l) (Some s));
    below_two = related-bound l most rows f s ls None;
  }
  has-lower i column li so_far (Some q) parent =
      let each : length column ≡ length rows = so_far.each in
      let lower : q < i = (lineage-ranked l most rows f).below i q li (parent q refl) in
      record {
        within = λ p e. let same : q ≡ p = cc in omega arith;
        value = so_far.done q lower;
        below_two = related-bound l most rows f s ls (Some q);
      }

  pub related-passing : (i : ℕ) (column : List ℕ) (parents : Parents) → 2 ^ suc (2 * l) + 2 ^ suc (2 * l) < 2 ^ 128 → AreParentsAt rows i parents → AreRelated l rows s i column →
      IsPassing l rows s column i parents
  related-passing i column parents room at so_far =
      let li = parents-within rows i parents at in
      let each : length column ≡ length rows = so_far.each in
      is-passing i column parents room at (omega arith) (so_far.left i (omega arith) li)
      (has-lower i column li so_far parents.sire (λ p e. inl (parents-sire rows i parents at ∙ e)))
      (has-lower i column li so_far parents.dam (λ p e. inr (parents-dam rows i parents at ∙ e)))

  pub related-next : (i v : ℕ) (column : List ℕ) → i < length rows → v ≡ related l rows s (Some i) → AreRelated l rows s i column → AreRelated l rows s (i + 1) (set column i v)
  related-next i v column li value so_far =
      let each : length column ≡ length rows = so_far.each in
      record {
        each = length-set column i v ∙ each;
        done = right-more column (λ j. related l rows s (Some j)) i v (omega arith) value so_far.done;
        left = λ j ij lj. get_or-set_other column i j v 0 (λ q. omega arith) ∙ so_far.left j (omega arith) lj;
      }

  module _ (collected : List ℕ) (is : IsCollection rows collected) where
    -- a parent's relationship is there, since it is collected later
    parent-done : (k : ℕ) (column : List ℕ) → k < length collected → IsPassedOn l rows s collected (k + 1) column → (p : ℕ) → IsParentIn (ranked rows) p (get_or collected k 0) →
        get_or column p 0 ≡ related l rows s (Some p)
    parent-done k column lk so_far p parent =
        let c : Contains collected p = is.closed k p lk parent in
        let m : ℕ = c.0 in
        let lm : m < length collected = c.1 in
        let at : get_or collected m 0 ≡ p = contains-at collected p c in
        let lower : p < get_or collected k 0 = (lineage-ranked l most rows f).below (get_or collected k 0) p (is.within k lk) parent in
        let later : k + 1 ≤ m =
        ⊎_elim (λ (a : k < m). let e : k + 1 ≤ m = omega arith in e)
        (λ (a : m ≤ k).
        ⊎_elim (λ (e : m ≡ k). let same : get_or collected m 0 ≡ get_or collected k 0 = ap (λ v. get_or collected v 0) e in absurd (omega arith))
        (λ (ne : m ≡ k → ⊥). let higher : get_or collected k 0 < get_or collected m 0 = is.descending m k (omega arith) lk in absurd (omega arith))
        (cases_eq m k))
        (cases_lt k m) in
        subst (λ q. get_or column q 0 ≡ related l rows s (Some q)) at (so_far.done m later lm)

    has-parent : (k : ℕ) (column : List ℕ) → k < length collected → IsPassedOn l rows s collected (k + 1) column → (o : Option ℕ) →
        ((p : ℕ) → o ≡ Some p → IsParentIn (ranked rows) p (get_or collected k 0)) → HasParents l rows s column o
    has-parent k column lk so_far None parent = record {
      within = λ p e. absurd (cc);
      value = sym (entry-none_right (ranked rows) (2 * l) (Some s));
      below_two = related-bound l most rows f s ls None;
    }
    has-parent k column lk so_far (Some q) parent = record {
      within = λ p e.
          let same : q ≡ p = cc in
          let each : length column ≡ length rows = so_far.each in
          let lower : q < get_or collected k 0 = (lineage-ranked l most rows f).below (get_or collected k 0) q (is.within k lk) (parent q refl) in
          let top : get_or collected k 0 < length rows = is.within k lk in
          omega arith;
      value = parent-done k column lk so_far q (parent q refl);
      below_two = related-bound l most rows f s ls (Some q);
    }

    -- a step at the index below i, by the parents of its rank
    pub passing : (i : ℕ) (column : List ℕ) (parents : Parents) → 2 ^ suc (2 * l) + 2 ^ suc (2 * l) < 2 ^ 128 → 0 < i → i ≤ length collected →
        AreParentsAt rows (get_or collected (i - 1) 0) parents → IsPassedOn l rows s collected i column → IsPassing l rows s column (get_or collected (i - 1) 0) parents
    passing i column parents room pos top at so_far =
        let k : ℕ = i - 1 in
        let j : ℕ = get_or collected k 0 in
        let lk : k < length collected = omega arith in
        let next : IsPassedOn l rows s collected (k + 1) column = subst (λ v. IsPassedOn l rows s collected v column) (let e : i ≡ k + 1 = omega arith in e) so_far in
        let within : j < length rows = is.within k lk in
        let each : length column ≡ length rows = so_far.each in
        is-passing j column parents room at (omega arith) (next.left k (omega arith) lk)
        (has-parent k column lk next parents.sire (λ p e. inl (parents-sire rows j parents at ∙ e)))
        (has-parent k column lk next parents.dam (λ p e. inr (parents-dam rows j parents at ∙ e)))

    pub passed-next : (i v : ℕ) (column : List ℕ) → 0 < i → i ≤ length collected → v ≡ related l rows s (Some (get_or collected (i - 1) 0)) → IsPassedOn l rows s collected i column →
        IsPassedOn l rows s collected (i - 1) (set column (get_or collected (i - 1) 0) v)
    passed-next i v column pos top value before =
        let k : ℕ = i - 1 in
        let lk : k < length collected = omega arith in
        let so_far : IsPassedOn l rows s collected (k + 1) column = subst (λ w. IsPassedOn l rows s collected w column) (let e : i ≡ k + 1 = omega arith in e) before in
        let j : ℕ = get_or collected k 0 in
        let each : length column ≡ length rows = so_far.each in
        let within : j < length rows = is.within k lk in
        let long : j < length column = omega arith in
        record {
          each = length-set column j v ∙ each;
          done = λ m km lm.
              ⊎_elim
              (λ (e : k ≡ m). subst (λ q. get_or (set column j v) (get_or collected q 0) 0 ≡ related l rows s (Some (get_or collected q 0))) e (get_or-set_same column j v 0 long ∙ value))
              (λ (ne : k ≡ m → ⊥).
              let other : get_or collected m 0 < j = is.descending k m (omega arith) lm in
              get_or-set_other column j (get_or collected m 0) v 0 (λ q. omega arith) ∙ so_far.done m (omega arith) lm)
              (cases_eq k m);
          left = λ m mk lm.
              let other : j < get_or collected m 0 = is.descending m k mk lk in
              get_or-set_other column j (get_or collected m 0) v 0 (λ q. omega arith) ∙ so_far.left m (omega arith) lm;
        }
