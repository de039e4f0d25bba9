-- A lineage with one animal more.
use Rattle.std.proofs.Common.{ℕ, ◌+◌, ◌<◌, ◌≡◌, ⊎_elim, arith, refl, sym, ap, ◌∙◌, subst, List, [], ◌∷◌, ◌++◌, Option, Some, None, max, length, slice_get, map}
use Rattle.std.specs.Option.{option_and_then}
use Rattle.std.proofs.lemmas.List.{length_push}
use Rattle.std.proofs.lemmas.Option.{slice_get-map, slice_get_within, get_or_from_slice_get}
use Rattle.herd_lineage.specs.declared.lineage.Parents.{Parents}
use Rattle.herd_lineage.specs.Lineage.{IsLineage, IsNextOf, depth_above, depth_at, depth_from, sire_rank, dam_rank}
use Rattle.herd_lineage.proofs.lemmas.ListFacts.{push_cases, push_keeps, there}

pub depth_at-row : (rows : List Parents) (i : ℕ) (row : Parents) → slice_get rows i ≡ Some row → depth_at rows i ≡ row.depth
depth_at-row rows i row e =
    get_or_from_slice_get (map (λ (r : Parents). r.depth) rows) i row.depth 0
    (slice_get-map (λ (r : Parents). r.depth) rows i ∙ rw e refl)

read : (field : Parents → Option ℕ) (o : Option Parents) (p : ℕ) → option_and_then field o ≡ Some p → (y : Parents) × (o ≡ Some y) × (field y ≡ Some p)
read field None p e = absurd (cc)
read field (Some y) p e = (y, refl, e)

above-agree : (f g : ℕ → ℕ) (o : Option ℕ) → ((p : ℕ) → o ≡ Some p → f p ≡ g p) → depth_above f o ≡ depth_above g o
above-agree f g None same = refl
above-agree f g (Some p) same = ap (λ n. n + 1) (same p refl)

from-agree : (f g : ℕ → ℕ) (s d : Option ℕ) → ((p : ℕ) → s ≡ Some p → f p ≡ g p) → ((p : ℕ) → d ≡ Some p → f p ≡ g p) → depth_from f s d ≡ depth_from g s d
from-agree f g s d of_sire of_dam = λ i. max (above-agree f g s of_sire i) (above-agree f g d of_dam i)

module _ (l most : ℕ) (xs : List Parents) (x : Parents) (f : IsLineage l most xs) (n : IsNextOf l most xs x) where
  abbrev ys : List Parents
  ys = xs ++ x ∷ []

  earlier : (field : Parents → Option ℕ) → ((i p : ℕ) → option_and_then field (slice_get xs i) ≡ Some p → p < i) → ((p : ℕ) → field x ≡ Some p → p < length xs) →
      (i p : ℕ) → option_and_then field (slice_get ys i) ≡ Some p → p < i
  earlier field old new i p e =
      let y = read field (slice_get ys i) p e in
      ⊎_elim
      (λ (b : slice_get xs i ≡ Some y.0). old i p (rw b y.2))
      (λ last. let end : p < length xs = new p (ap field last.1 ∙ y.2) in let at : i ≡ length xs = last.0 in omega (arith, end, at))
      (push_cases xs x y.0 i y.1)

  depth-kept : (p : ℕ) → p < length xs → depth_at ys p ≡ depth_at xs p
  depth-kept p lp =
      let y = there xs p lp in
      depth_at-row ys p y.0 (push_keeps xs x y.0 p y.1) ∙ sym (depth_at-row xs p y.0 y.1)

  its-depth : (i : ℕ) (y : Parents) → slice_get ys i ≡ Some y → y.depth ≡ depth_from (depth_at xs) y.sire y.dam → ((p : ℕ) → y.sire ≡ Some p → p < length xs) → ((p : ℕ) → y.dam ≡ Some p → p < length xs) →
      depth_at ys i ≡ depth_from (depth_at ys) (sire_rank ys i) (dam_rank ys i)
  its-depth i y at is sire dam =
      let s : sire_rank ys i ≡ y.sire = ap (option_and_then (λ (r : Parents). r.sire)) at in
      let d : dam_rank ys i ≡ y.dam = ap (option_and_then (λ (r : Parents). r.dam)) at in
      depth_at-row ys i y at ∙ is
      ∙ from-agree (depth_at xs) (depth_at ys) y.sire y.dam (λ p e. sym (depth-kept p (sire p e))) (λ p e. sym (depth-kept p (dam p e)))
      ∙ (λ j. depth_from (depth_at ys) (sym s j) (sym d j))

  pub lineage-push : IsLineage l most ys
  lineage-push =
      let long : length ys ≡ length xs + 1 = length_push xs x in
      record {
        few = let few = n.few in omega (arith, long, few);
        sire = earlier (λ (r : Parents). r.sire) f.sire n.sire;
        dam = earlier (λ (r : Parents). r.dam) f.dam n.dam;
        depth = λ i li.
            let y = there ys i li in
            ⊎_elim
            (λ (b : slice_get xs i ≡ Some y.0).
            let lx : i < length xs = slice_get_within xs i y.0 b in
            let s : sire_rank xs i ≡ y.0.sire = ap (option_and_then (λ (r : Parents). r.sire)) b in
            let d : dam_rank xs i ≡ y.0.dam = ap (option_and_then (λ (r : Parents). r.dam)) b in
            its-depth i y.0 y.1 (sym (depth_at-row xs i y.0 b) ∙ f.depth i lx ∙ (λ j. depth_from (depth_at xs) (s j) (d j)))
            (λ p e. let low : p < i = f.sire i p (s ∙ e) in omega (arith, low, lx)) (λ p e. let low : p < i = f.dam i p (d ∙ e) in omega (arith, low, lx)))
            (λ last.
            its-depth i y.0 y.1 (subst (λ (v : Parents). v.depth ≡ depth_from (depth_at xs) v.sire v.dam) last.1 n.depth)
            (subst (λ (v : Parents). (p : ℕ) → v.sire ≡ Some p → p < length xs) last.1 n.sire)
            (subst (λ (v : Parents). (p : ℕ) → v.dam ≡ Some p → p < length xs) last.1 n.dam))
            (push_cases xs x y.0 i y.1);
        shallow = λ i li.
            let y = there ys i li in
            ⊎_elim
            (λ (b : slice_get xs i ≡ Some y.0).
            let low = f.shallow i (slice_get_within xs i y.0 b) in
            let same = depth_at-row xs i y.0 b in
            let now = depth_at-row ys i y.0 y.1 in
            omega (arith, low, same, now))
            (λ last.
            let now : depth_at ys i ≡ x.depth = depth_at-row ys i y.0 y.1 ∙ sym (ap (λ (r : Parents). r.depth) last.1) in
            let low = n.shallow in
            omega (arith, now, low))
            (push_cases xs x y.0 i y.1);
      }
