-- The column of an animal s in a lineage, by ranks and in whole numbers; its relationships with all, by numbers.
use Rattle.std.proofs.Common.{ℕ, suc, ◌+◌, ◌*◌, ◌-◌, ◌/◌, ◌^◌, ◌<◌, ◌≤◌, ◌≡◌, ◌⊎◌, inl, inr, ⊎_elim, List, length, get_or, Option, Some, arith, refl, sym, ◌∙◌, ap, subst}
use Rattle.std.proofs.Math.Nat.{mul-div_cancel_left}
use Rattle.std.proofs.Math.Pow.{pow_pos}
use Rattle.std.proofs.lemmas.Nat.{pow-add}
use Rattle.herd_lineage.specs.declared.TheConstants.{MOST_ANIMALS}
use Rattle.herd_lineage.specs.declared.lineage.Parents.{Parents}
use Rattle.herd_lineage.specs.Lineage.{IsLineage, depth_at, dam_rank, sire_rank}
use Rattle.herd_kinship.specs.Ancestry.{PathTo}
use Rattle.herd_kinship.specs.Columns.{related, inherited, AreRelationships, IsColumn}
use Rattle.herd_kinship.specs.Ranks.{ranked}
use Rattle.herd_kinship.specs.Shares.{share}
use Rattle.herd_kinship.specs.Table.{coefficient, entry, mendelian}
use Rattle.herd_kinship.specs.Tracing.{IsShareOf}
use Rattle.herd_kinship.proofs.lemmas.ancestry.Ancestors.{share-reached, path-joined}
use Rattle.herd_kinship.proofs.lemmas.numbers.Sums.{cancel}
use Rattle.herd_kinship.proofs.lemmas.laws.ColumnSums.{column}
use Rattle.herd_kinship.proofs.lemmas.ancestry.Depth.{Below, Below-sire, Below-dam, known_some, unit}
use Rattle.herd_kinship.proofs.lemmas.ancestry.Exact.{term-exact}
use Rattle.herd_kinship.proofs.lemmas.lineages.LineageFacts.{depth-at_most, parent-less_deep, ranked-below_depth, ranked-below_limit, ranked-depth}
use Rattle.herd_kinship.proofs.lemmas.lineages.LineageFacts.{ranked-lawful, ranked-shallow}
use Rattle.herd_kinship.proofs.lemmas.lineages.Ranks.{rank-in}
use Rattle.herd_kinship.proofs.lemmas.ancestry.Shares.{share-itself}
use Rattle.herd_kinship.proofs.lemmas.ancestry.Table.{entry-bound}

-- a term of j itself, less 2^l on both sides
own_left : (c t m a q : ℕ) → 0 < c → t * c * m ≡ c * c * (a * 1 * q) → t * m ≡ c * (a * q)
own_left c t m a q pos e =
    cancel c (t * m) (c * (a * q)) pos (omega (arith, e))

multiple : (c n q : ℕ) → 0 < c → n ≡ c * q → n / c ≡ q
multiple c n q pos e = ap (λ v. v / c) e ∙ mul-div_cancel_left q pos

column_left : (c p t m e a b i : ℕ) → p ≡ c * c → c * i ≡ t * m → 2 * (p * e) ≡ 2 * (t * c * m) + (p * a + p * b) → p * (2 * e) ≡ p * (a + b + 2 * i)
column_left c p t m e a b i square is all =
    let mine : c * (c * i) ≡ c * (t * m) = ap (λ v. c * v) is in
    let finer : p * i ≡ c * c * i = ap (λ v. v * i) square in
    omega (arith, mine, finer, all)

square : (l : ℕ) → 2 ^ (2 * l) ≡ 2 ^ l * 2 ^ l
square l = ap (λ n. 2 ^ n) (let e : 2 * l ≡ l + l = omega arith in e) ∙ pow-add 2 l l

module _ (l most : ℕ) (rows : List Parents) (f : IsLineage l most rows) (s : ℕ) (ls : s < length rows) where
  -- what s has of j's Mendelian sampling variance is whole in unit 2^-2l
  inherited-own : (j : ℕ) → j < length rows → depth_at rows j ≤ depth_at rows s →
      share (ranked rows) l (Some s) j * mendelian (ranked rows) l j
      ≡ 2 ^ l * (share (ranked rows) (depth_at rows s - depth_at rows j) (Some s) j * (mendelian (ranked rows) l j / 2 ^ (depth_at rows s - depth_at rows j)))
  inherited-own j lj less =
      let kin = ranked rows in
      let w = ranked-lawful l most rows f in
      let gs : ℕ = depth_at rows s in
      let g : ℕ = depth_at rows j in
      let m : ℕ = mendelian kin l j in
      let t : ℕ = share kin l (Some s) j in
      let own : ℕ = share kin (gs - g) (Some s) j in
      let none : share kin (g - g) (Some j) j ≡ 1 = share-itself kin w (g - g) j ∙ ap (λ n. 2 ^ n) (let e : g - g ≡ 0 = omega arith in e) in
      own_left (2 ^ l) t m own (m / 2 ^ (gs - g)) (pow_pos l)
      (sym (ap (λ v. t * v * m) (share-itself kin w l j))
      ∙ (term-exact kin w l gs g g s j j (depth-at_most l most rows f s ls) (depth-at_most l most rows f j lj) less (let e : g ≤ g = omega arith in e)
      (ranked-below_depth l most rows f s ls) (ranked-below_depth l most rows f j lj) (ranked-below_depth l most rows f j lj) (ranked-depth l most rows f j lj).0
      ∙ (ap (λ v. 2 ^ (2 * l) * (own * v * (m / 2 ^ (gs + g - 2 * g)))) none
      ∙ (ap (λ n. 2 ^ (2 * l) * (own * 1 * (m / 2 ^ n))) (let e : gs + g - 2 * g ≡ gs - g = omega arith in e)
      ∙ ap (λ v. v * (own * 1 * (m / 2 ^ (gs - g)))) (square l)))))

  -- s has nothing of an animal that is deeper
  reached-less_deep : (j : ℕ) → j < length rows → (share (ranked rows) l (Some s) j ≡ 0) ⊎ (depth_at rows j ≤ depth_at rows s)
  reached-less_deep j lj =
      ⊎_elim (λ z. inl z)
      (λ r.
      let same : r.0 ≡ s = cc (r.1) in
      let path : PathTo (ranked rows) r.2.0 s j = subst (λ v. PathTo (ranked rows) r.2.0 v j) same r.2.1 in
      let longer : r.2.0 + depth_at rows j ≤ depth_at rows s =
      (ranked-depth l most rows f s ls).1 (r.2.0 + depth_at rows j)
      (path-joined (ranked rows) (ranked-lawful l most rows f) r.2.0 (depth_at rows j) s j (rank-in (length rows) s ls) path (ranked-depth l most rows f j lj).0) in
      inr (omega arith))
      (share-reached (ranked rows) (ranked-lawful l most rows f) l (Some s) j)

  -- nothing of an animal, nothing of its Mendelian sampling variance
  pub inherited-none : (j : ℕ) → share (ranked rows) l (Some s) j ≡ 0 → inherited l rows s j ≡ 0
  inherited-none j none = multiple (2 ^ l) _ 0 (pow_pos l) (rw none (omega arith))

  -- by a share in its own unit
  pub inherited-term : (j own part : ℕ) → j < length rows → IsShareOf rows s j own → part ≡ mendelian (ranked rows) l j →
      part / 2 ^ (depth_at rows s - depth_at rows j) * own ≡ inherited l rows s j
  inherited-term j own part lj is part_is =
      let m : ℕ = mendelian (ranked rows) l j in
      let steps : ℕ = depth_at rows s - depth_at rows j in
      let mine : part ≡ m = part_is in
      let turned : part / 2 ^ steps * own ≡ own * (m / 2 ^ steps) = rw mine (omega arith) in
      turned ∙ (ap (λ v. v * (m / 2 ^ steps)) is.own_is ∙ sym (multiple (2 ^ l) _ _ (pow_pos l) (inherited-own j lj is.less_deep)))

  inherited-exact : (j : ℕ) → j < length rows → 2 ^ l * inherited l rows s j ≡ share (ranked rows) l (Some s) j * mendelian (ranked rows) l j
  inherited-exact j lj =
      let n : ℕ = share (ranked rows) l (Some s) j * mendelian (ranked rows) l j in
      let by_multiple : (q : ℕ) → n ≡ 2 ^ l * q → 2 ^ l * (n / 2 ^ l) ≡ n = λ q e. ap (λ v. 2 ^ l * v) (multiple (2 ^ l) n q (pow_pos l) e) ∙ sym e in
      ⊎_elim (λ (z : share (ranked rows) l (Some s) j ≡ 0). by_multiple 0 (rw z (omega arith)))
      (λ (less : depth_at rows j ≤ depth_at rows s). by_multiple _ (inherited-own j lj less))
      (reached-less_deep j lj)

  -- THE COLUMN, in unit 2^-2l
  pub lineage-column : (j : ℕ) → j < length rows → IsColumn l rows s j
  lineage-column j lj =
      let kin = ranked rows in
      let w = ranked-lawful l most rows f in
      cancel (2 ^ (2 * l)) _ _ (pow_pos (2 * l))
      (column_left (2 ^ l) (2 ^ (2 * l)) (share kin l (Some s) j) (mendelian kin l j) _ _ _ (inherited l rows s j) (square l) (inherited-exact j lj)
      (column kin w l (ranked-shallow l most rows f) (Some s) j (known_some kin s (rank-in (length rows) s ls)) (rank-in (length rows) j lj)))

  -- each step of the column: halves lose nothing
  pub column-step : (j : ℕ) → j < length rows →
      (related l rows s (sire_rank rows j) + related l rows s (dam_rank rows j)) / 2 + inherited l rows s j ≡ related l rows s (Some j)
  column-step j lj =
      let c = lineage-column j lj in
      omega (arith, c)

  -- each relationship is below 2, and so is what is inherited
  pub related-bound : (o : Option ℕ) → related l rows s o < 2 ^ suc (2 * l)
  related-bound o = entry-bound (ranked rows) (2 * l) (Some s) o

  pub inherited-bound : (j : ℕ) → j < length rows → inherited l rows s j < 2 ^ suc (2 * l)
  inherited-bound j lj =
      let c = lineage-column j lj in
      let b = related-bound (Some j) in
      omega (arith, c, b)

  half_of : (x d : ℕ) → sire_rank rows x ≡ Some s → dam_rank rows x ≡ Some d → entry (ranked rows) (2 * l - 1) (Some s) (Some d) ≡ coefficient (ranked rows) l x
  unfolding coefficient
  half_of x d is is' = rw (is, is') refl

  -- the coefficient of an animal of two known parents is half their relationship
  pub coefficient-related : (d x : ℕ) → x < length rows → sire_rank rows x ≡ Some s → dam_rank rows x ≡ Some d →
      related l rows s (Some d) / 2 ≡ coefficient (ranked rows) l x
  coefficient-related d x lx is is' =
      let kin = ranked rows in
      let w = ranked-lawful l most rows f in
      let k : ℕ = 2 * l - 1 in
      let b = ranked-below_limit l most rows f x lx in
      let deep = parent-less_deep l most rows f x s lx ls (inl is) in
      let limit = depth-at_most l most rows f x lx in
      let next : 2 * l ≡ suc k = omega arith in
      let bs : Below kin l (Some s) = subst (λ o. Below kin l o) is (Below-sire kin w l x b) in
      let bd : Below kin l (Some d) = subst (λ o. Below kin l o) is' (Below-dam kin w l x b) in
      let step = unit kin w k (Some s) (Some d) l l bs bd (omega arith) in
      let whole : related l rows s (Some d) ≡ 2 * entry kin k (Some s) (Some d) = ap (λ n. entry kin n (Some s) (Some d)) next ∙ step in
      let half : related l rows s (Some d) / 2 ≡ entry kin k (Some s) (Some d) = omega (arith, whole) in
      half ∙ half_of x d is is'

module _ (l : ℕ) (rows : List Parents) (f : IsLineage l MOST_ANIMALS rows) where
  -- by the numbers of the animals
  pub relationships-made : (rank : ℕ) (column : List ℕ) → rank < length rows → length column ≡ length rows →
      ((j : ℕ) → j < length rows → get_or column j 0 ≡ related l rows rank (Some j)) → AreRelationships l rows rank column
  relationships-made rank column lp each right = record {
    each = each;
    right = λ j lj. right j lj;
  }
