-- What follows where the coefficients at an animal's ancestors are known.
use Rattle.std.proofs.Common.{ℕ, suc, ◌+◌, ◌*◌, ◌-◌, ◌/◌, ◌^◌, ◌<◌, ◌≤◌, ◌≡◌, ◌⊎◌, ⊎_elim, inl, inr, List, length, get_or, set, min, Option, Some, None, arith, sym, ◌∙◌, ap, subst, refl}
use Rattle.std.specs.Option.{ForSome}
use Rattle.herd_lineage.specs.declared.lineage.Parents.{Parents}
use Rattle.herd_lineage.specs.Lineage.{IsLineage, depth_at, dam_rank, sire_rank}
use Rattle.herd_kinship.specs.Ancestry.{IsAncestor, IsParentIn, PathTo}
use Rattle.herd_kinship.specs.Table.{coefficient, entry, mendelian}
use Rattle.herd_kinship.specs.Shares.{share}
use Rattle.herd_kinship.specs.Coefficients.{IsKnownParent, KnowsAncestors, own_relationship, quarter_of}
use Rattle.herd_kinship.specs.Ranks.{AreParentsAt, HasUnknownParent, ranked}
use Rattle.herd_kinship.specs.Tracing.{IsNext}
use Rattle.herd_kinship.proofs.lemmas.lineages.ParentsFacts.{parents-dam, parents-sire, parents-within}
use Rattle.herd_kinship.proofs.lemmas.ancestry.Ancestors.{share-reached, ancestor-before, path-joined}
use Rattle.herd_kinship.proofs.lemmas.ancestry.Bounds.{entry-itself, coefficient-bound, inbred-is, quarter-is, coefficient-none}
use Rattle.herd_kinship.proofs.lemmas.ancestry.Depth.{Below, Below-sire, Below-dam}
use Rattle.herd_kinship.proofs.lemmas.lineages.LineageFacts.{path_to-joined, ranked-depth, ranked-below_limit, ranked-lawful}
use Rattle.herd_kinship.proofs.lemmas.lineages.Ranks.{rank-in, rank-below}
use Rattle.herd_kinship.proofs.lemmas.ancestry.Table.{entry-none_left}
use Rattle.std.proofs.lemmas.Bool.{ltb-true, cases_eq}
use Rattle.std.proofs.lemmas.List.{get_or-set_same, get_or-set_other}

-- numerators that are right below a rank are right up to it, once the rank's is written
pub right-more : (xs : List ℕ) (f : ℕ → ℕ) (i v : ℕ) → i < length xs → v ≡ f i → ((p : ℕ) → p < i → get_or xs p 0 ≡ f p) →
    (p : ℕ) → p < i + 1 → get_or (set xs i v) p 0 ≡ f p
right-more xs f i v li e right p lp =
    ⊎_elim
    (λ (s : i ≡ p). subst (λ q. get_or (set xs i v) q 0 ≡ f q) s (get_or-set_same xs i v 0 li ∙ e))
    (λ (s : i ≡ p → ⊥). get_or-set_other xs i p v 0 (λ q. s (sym q)) ∙ right p (omega arith))
    (cases_eq i p)

-- the numerators of the animal's known parents are below 1, and give its Mendelian sampling variance
pub record AreKnownParents (l : ℕ) (rows : List Parents) (known : List ℕ) (x : ℕ) (parents : Parents) : Type 0 where
  pub sire : ForSome parents.sire (IsKnownParent l known)
  pub dam : ForSome parents.dam (IsKnownParent l known)
  pub variance : 2 ^ (2 * l) - quarter_of l known parents.sire - quarter_of l known parents.dam ≡ mendelian (ranked rows) l x

module _ (l most : ℕ) (rows : List Parents) (f : IsLineage l most rows) where
  -- a coefficient is below 1
  pub lineage-coefficient_bound : (x : ℕ) → x < length rows → coefficient (ranked rows) l x < 2 ^ (2 * l)
  lineage-coefficient_bound x lx = coefficient-bound (ranked rows) (ranked-lawful l most rows f) l x (ranked-below_limit l most rows f x lx)

  -- a parent's numerator is its coefficient
  known-parent : (known : List ℕ) (x p : ℕ) → x < length rows → KnowsAncestors l rows known x → IsParentIn (ranked rows) p x →
      (p < length rows) × (get_or known p 0 ≡ coefficient (ranked rows) l p)
  unfolding PathTo
  known-parent known x p lx k is =
      let lp : p < length rows = rank-below (length rows) p ((ranked-lawful l most rows f).parents p x (rank-in (length rows) x lx) is).0 in
      let path : PathTo (ranked rows) 1 x p = (p, is, refl) in
      (lp, k.right p lp (0, path))

  -- an ancestor's ancestors are known too
  known-ancestor : (known : List ℕ) (x y n : ℕ) → x < length rows → KnowsAncestors l rows known x → PathTo (ranked rows) n x y → KnowsAncestors l rows known y
  known-ancestor known x y n lx k path = record {
    each = k.each;
    right = λ p lp a.
        let whole : PathTo (ranked rows) (n + suc a.0) x p = path_to-joined (ranked rows) n (suc a.0) x y p path a.1 in
        k.right p lp (n + a.0, subst (λ i. PathTo (ranked rows) i x p) (let e : n + suc a.0 ≡ suc (n + a.0) = omega arith in e) whole);
  }

  -- those of the ancestors that a tracing meets
  pub known-next : (known : List ℕ) (x b y own : ℕ) → x < length rows → KnowsAncestors l rows known x → IsNext l rows x b y own → KnowsAncestors l rows known y
  known-next known x b y own lx k next =
      ⊎_elim
      (λ (z : share (ranked rows) (depth_at rows x - depth_at rows y) (Some x) y ≡ 0).
      let pos = next.share_is.some in let is = next.share_is.own_is in absurd (omega arith))
      (λ r.
      let same : r.0 ≡ x = cc (r.1) in
      known-ancestor known x y r.2.0 lx k (subst (λ v. PathTo (ranked rows) r.2.0 v y) same r.2.1))
      (share-reached (ranked rows) (ranked-lawful l most rows f) (depth_at rows x - depth_at rows y) (Some x) y)

  -- a parent's quarter
  quarter-parent : (known : List ℕ) (o : Option ℕ) → Below (ranked rows) l o →
      ((q : ℕ) → o ≡ Some q → get_or known q 0 ≡ coefficient (ranked rows) l q) →
      quarter_of l known o ≡ entry (ranked rows) (2 * l - 2) o o
  quarter-parent known None b right = sym (entry-none_left (ranked rows) (2 * l - 2) None)
  quarter-parent known (Some q) b right =
      ap (λ v. (2 ^ (2 * l) + v) / 4) (right q refl) ∙ quarter-is (ranked rows) (ranked-lawful l most rows f) l q b

  -- the Mendelian sampling variance by the numerators of the parents
  mendelian-known : (known : List ℕ) (x : ℕ) → x < length rows → KnowsAncestors l rows known x →
      2 ^ (2 * l) - quarter_of l known (sire_rank rows x) - quarter_of l known (dam_rank rows x) ≡ mendelian (ranked rows) l x
  unfolding mendelian
  mendelian-known known x lx k =
      let kin = ranked rows in
      let w = ranked-lawful l most rows f in
      let b = ranked-below_limit l most rows f x lx in
      let s = quarter-parent known (sire_rank rows x) (Below-sire kin w l x b) (λ q e. (known-parent known x q lx k (inl e)).1) in
      let d = quarter-parent known (dam_rank rows x) (Below-dam kin w l x b) (λ q e. (known-parent known x q lx k (inr e)).1) in
      rw (s, d) refl

  parent-known : (known : List ℕ) (x p : ℕ) → x < length rows → KnowsAncestors l rows known x → IsParentIn (ranked rows) p x → IsKnownParent l known p
  parent-known known x p lx k is =
      let at = known-parent known x p lx k is in
      let lp : p < length rows = at.0 in
      record {
        within = rw k.each lp;
        below_one = rw at.1 (lineage-coefficient_bound p lp);
      }

  -- the same of parents that are read by themselves
  pub parents-known : (known : List ℕ) (x : ℕ) (parents : Parents) → x < length rows → KnowsAncestors l rows known x → AreParentsAt rows x parents → AreKnownParents l rows known x parents
  parents-known known x parents lx k is =
      let es = parents-sire rows x parents is in
      let ed = parents-dam rows x parents is in
      record {
        sire = λ p e. parent-known known x p lx k (inl (es ∙ e));
        dam = λ p e. parent-known known x p lx k (inr (ed ∙ e));
        variance = rw (← es, ← ed) (mendelian-known known x lx k);
      }

  -- the entry of an animal with itself, less the whole, is its coefficient
  lineage-inbred : (x : ℕ) → x < length rows →
      own_relationship l rows x - 2 ^ (2 * l) ≡ coefficient (ranked rows) l x
  lineage-inbred x lx = inbred-is (ranked rows) (ranked-lawful l most rows f) l x (ranked-below_limit l most rows f x lx)

  -- held between 0 and 1, which it is
  pub lineage-inbred_value : (x : ℕ) → x < length rows →
      min (own_relationship l rows x - 2 ^ (2 * l)) (2 ^ (2 * l) - 1)
      ≡ coefficient (ranked rows) l x
  lineage-inbred_value x lx =
      let is = lineage-inbred x lx in
      let below = lineage-coefficient_bound x lx in
      rw is (omega (arith, below))

  -- where a parent is unknown the coefficient is 0
  pub coefficient-unknown : (x : ℕ) → x < length rows → HasUnknownParent rows x → coefficient (ranked rows) l x ≡ 0
  coefficient-unknown x lx none = coefficient-none (ranked rows) l x none

  -- where a parent is unknown the entry of the animal with itself is the whole
  entry-unknown : (x : ℕ) → x < length rows → HasUnknownParent rows x →
      own_relationship l rows x ≡ 2 ^ (2 * l)
  entry-unknown x lx none =
      entry-itself (ranked rows) (ranked-lawful l most rows f) l x (ranked-below_limit l most rows f x lx)
      ∙ (ap (λ v. 2 ^ (2 * l) + v) (coefficient-unknown x lx none) ∙ omega arith)

  -- the same, by the parents that are read
  pub entry-one_unknown : (x : ℕ) (parents : Parents) → AreParentsAt rows x parents → (parents.sire ≡ None) ⊎ (parents.dam ≡ None) → own_relationship l rows x ≡ 2 ^ (2 * l)
  entry-one_unknown x parents at none =
      entry-unknown x (parents-within rows x parents at) (⊎_elim (λ s. inl (parents-sire rows x parents at ∙ s)) (λ d. inr (parents-dam rows x parents at ∙ d)) none)

  -- an ancestor stands below
  ancestor-below : (x p : ℕ) → x < length rows → p < length rows → IsAncestor (ranked rows) p x → p < x
  ancestor-below x p lx lp a = ltb-true p x (ancestor-before (ranked rows) (ranked-lawful l most rows f) a.0 x p (rank-in (length rows) x lx) a.1)

  -- right coefficients of all ranks below make the ancestors known
  pub known-from_below : (known : List ℕ) (x : ℕ) → x < length rows → length known ≡ length rows →
      ((p : ℕ) → p < x → get_or known p 0 ≡ coefficient (ranked rows) l p) → KnowsAncestors l rows known x
  known-from_below known x lx each right = record { each = each; right = λ p lp a. right p (ancestor-below x p lx lp a) }

  -- an ancestor is less deep
  ancestor-less_deep : (x p : ℕ) → x < length rows → p < length rows → IsAncestor (ranked rows) p x →
      depth_at rows p < depth_at rows x
  ancestor-less_deep x p lx lp a =
      let longer : suc a.0 + depth_at rows p ≤ depth_at rows x =
      (ranked-depth l most rows f x lx).1 (suc a.0 + depth_at rows p)
      (path-joined (ranked rows) (ranked-lawful l most rows f) (suc a.0) (depth_at rows p) x p (rank-in (length rows) x lx) a.1 (ranked-depth l most rows f p lp).0) in
      omega arith

  -- right coefficients of all animals that are less deep make the ancestors known
  pub known-from_levels : (known : List ℕ) (x : ℕ) → x < length rows → length known ≡ length rows →
      ((p : ℕ) → p < length rows → depth_at rows p < depth_at rows x → get_or known p 0 ≡ coefficient (ranked rows) l p) →
      KnowsAncestors l rows known x
  known-from_levels known x lx each right = record { each = each; right = λ p lp a. right p lp (ancestor-less_deep x p lx lp a) }
