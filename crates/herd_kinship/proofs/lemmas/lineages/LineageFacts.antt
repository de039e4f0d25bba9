-- What a lineage says of its animals, which are named by their ranks.
use Rattle.std.proofs.Common.{ℕ, zero, suc, ◌+◌, ◌<◌, ◌≤◌, ◌≡◌, inl, inr, ⊎_elim, ◌⊎◌, List, length, map, max, slice_get, Some, None, Option, arith, refl, sym, subst, ◌∙◌}
use Rattle.std.proofs.lemmas.Option.{slice_get-map, get_or_from_slice_get}
use Rattle.herd_lineage.specs.declared.lineage.Parents.{Parents}
use Rattle.herd_lineage.specs.Lineage.{IsLineage, depth_above, depth_at, depth_from, sire_rank, dam_rank}
use Rattle.herd_kinship.specs.Ancestry.{Ancestry, IsParentIn, PathTo}
use Rattle.herd_kinship.specs.Laws.{IsBounded}
use Rattle.herd_kinship.specs.Ranks.{ranked}
use Rattle.herd_kinship.proofs.lemmas.ancestry.LawfulAncestry.{IsDepth, IsLawful, IsShallow, Path}
use Rattle.herd_kinship.proofs.lemmas.ancestry.Depth.{Below, Below-shallow, Below-depth, known_some}
use Rattle.herd_kinship.proofs.lemmas.laws.LawFacts.{bounded}
use Rattle.herd_kinship.proofs.lemmas.lineages.Ranks.{AreRanked, rank-in, rank-below, ranks-are_lawful}

pub depth_at-row : (rows : List Parents) (i : ℕ) (row : Parents) → slice_get rows i ≡ Some row → depth_at rows i ≡ row.depth
depth_at-row rows i row e =
    get_or_from_slice_get (map (λ (r : Parents). r.depth) rows) i row.depth 0
    (slice_get-map (λ (r : Parents). r.depth) rows i ∙ rw e refl)

pub lineage-few : (l most : ℕ) (rows : List Parents) → IsLineage l most rows → length rows ≤ most
lineage-few l most rows f = f.few

pub lineage-ranked : (l most : ℕ) (rows : List Parents) → IsLineage l most rows → AreRanked (length rows) (sire_rank rows) (dam_rank rows)
lineage-ranked l most rows f = record { below = λ i p li is. ⊎_elim (λ e. f.sire i p e) (λ e. f.dam i p e) is }

pub ranked-lawful : (l most : ℕ) (rows : List Parents) → IsLineage l most rows → IsLawful (ranked rows)
ranked-lawful l most rows f = ranks-are_lawful (length rows) (sire_rank rows) (dam_rank rows) (lineage-ranked l most rows f)

-- one more than the depth of a parent is among the two of which the greater is the depth
above-parent : (depth : ℕ → ℕ) (sire dam : Option ℕ) (p : ℕ) → (sire ≡ Some p) ⊎ (dam ≡ Some p) → suc (depth p) ≤ depth_from depth sire dam
above-parent depth sire dam p is =
    ⊎_elim (λ e. let at : depth_above depth sire ≡ depth p + 1 = rw e refl in grind (arith, at)) (λ e. let at : depth_above depth dam ≡ depth p + 1 = rw e refl in grind (arith, at)) is

above_some : (depth : ℕ → ℕ) (o : Option ℕ) (d : ℕ) → depth_above depth o ≡ suc d → (p : ℕ) × (o ≡ Some p) × (depth p ≡ d)
above_some depth None d e = absurd (cc)
above_some depth (Some p) d e = (p, refl, omega arith)

deeper_parent : (a b d : ℕ) → max a b ≡ suc d → (a ≡ suc d) ⊎ (b ≡ suc d)
deeper_parent a b d e = grind arith

module _ (l most : ℕ) (rows : List Parents) (f : IsLineage l most rows) where
  -- a parent is less deep
  pub parent-less_deep : (i p : ℕ) → i < length rows → p < length rows → IsParentIn (ranked rows) p i → depth_at rows p < depth_at rows i
  parent-less_deep i p li lp is = rw (f.depth i li) (above-parent (depth_at rows) (sire_rank rows i) (dam_rank rows i) p is)

  parent-in : (i p : ℕ) → i < length rows → IsParentIn (ranked rows) p i → p < length rows
  parent-in i p li is = let low : p < i = (lineage-ranked l most rows f).below i p li is in omega arith

  -- a path is no longer than the depth
  path-depth : (n i : ℕ) → Path (ranked rows) n i → n ≤ depth_at rows i
  unfolding Path
  path-depth zero i path = omega arith
  path-depth (suc n) i path =
      let li : i < length rows = rank-below (length rows) i path.0 in
      let p : ℕ = path.1.0 in
      let rest = path-depth n p path.1.2 in
      let less = parent-less_deep i p li (parent-in i p li path.1.1) path.1.1 in
      omega (arith, rest, less)

  -- and one is as long
  path-made : (d i : ℕ) → i < length rows → depth_at rows i ≡ d → Path (ranked rows) d i
  unfolding Path
  path-made zero i li e = rank-in (length rows) i li
  path-made (suc d) i li e =
      let at : max (depth_above (depth_at rows) (sire_rank rows i)) (depth_above (depth_at rows) (dam_rank rows i)) ≡ suc d = sym (f.depth i li) ∙ e in
      let by : (o : Option ℕ) → ((p : ℕ) → o ≡ Some p → IsParentIn (ranked rows) p i) → depth_above (depth_at rows) o ≡ suc d → Path (ranked rows) (suc d) i =
      λ o is up.
      let p = above_some (depth_at rows) o d up in
      (rank-in (length rows) i li, (p.0, is p.0 p.1, path-made d p.0 (parent-in i p.0 li (is p.0 p.1)) p.2)) in
      ⊎_elim (λ s. by (sire_rank rows i) (λ p q. inl q) s) (λ t. by (dam_rank rows i) (λ p q. inr q) t)
      (deeper_parent (depth_above (depth_at rows) (sire_rank rows i)) (depth_above (depth_at rows) (dam_rank rows i)) d at)

  pub ranked-depth : (i : ℕ) → i < length rows → IsDepth (ranked rows) i (depth_at rows i)
  ranked-depth i li = (path-made (depth_at rows i) i li refl, λ m path. path-depth m i path)

  path-member : (n i : ℕ) → Path (ranked rows) n i → i < length rows
  unfolding Path
  path-member zero i path = rank-below (length rows) i path
  path-member (suc n) i path = rank-below (length rows) i path.0

  -- no depth is above the limit
  pub depth-at_most : (i : ℕ) → i < length rows → depth_at rows i ≤ l
  depth-at_most i li = f.shallow i li

  pub ranked-shallow : IsShallow (ranked rows) l
  ranked-shallow i path =
      let long = path-depth (l + 1) i path in
      let limit = f.shallow i (path-member (l + 1) i path) in
      omega (arith, long, limit)

  pub ranked-below_limit : (i : ℕ) → i < length rows → Below (ranked rows) (suc l) (Some i)
  ranked-below_limit i li =
      Below-shallow (ranked rows) (ranked-lawful l most rows f) l ranked-shallow (Some i) (known_some (ranked rows) i (rank-in (length rows) i li))

  pub ranked-below_depth : (i : ℕ) → i < length rows → Below (ranked rows) (suc (depth_at rows i)) (Some i)
  ranked-below_depth i li = Below-depth (ranked rows) (depth_at rows i) i (rank-in (length rows) i li) (ranked-depth i li)

  pub ranked-bounded : (x y : ℕ) → x < length rows → y < length rows → IsBounded (ranked rows) l x y
  ranked-bounded x y lx ly = bounded (ranked rows) (ranked-lawful l most rows f) l ranked-shallow x y (rank-in (length rows) x lx) (rank-in (length rows) y ly)

-- a path to an animal and one from it are one path
pub path_to-joined : {A : Type 0} (kin : Ancestry A) (n m : ℕ) (x y z : A) → PathTo kin n x y → PathTo kin m y z → PathTo kin (n + m) x z
unfolding PathTo
path_to-joined kin zero m x y z first second =
    subst (λ k. PathTo kin k x z) (let e : m ≡ zero + m = omega arith in e) (subst (λ v. PathTo kin m v z) (sym first) second)
path_to-joined {A} kin (suc n) m x y z first second =
    let q : A = first.0 in
    let whole : PathTo kin (suc (n + m)) x z = (q, first.1, path_to-joined kin n m q y z first.2 second) in
    subst (λ k. PathTo kin k x z) (let e : suc (n + m) ≡ suc n + m = omega arith in e) whole
