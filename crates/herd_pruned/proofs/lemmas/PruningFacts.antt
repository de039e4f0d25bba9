-- A lineage is pruned animal by animal, from the oldest on.
use Rattle.std.proofs.Common.{ℕ, zero, suc, ◌+◌, ◌<◌, ◌≤◌, ◌≡◌, ◌≢◌, inl, inr, ⊎_elim, Bool, true, false, Contains, List, [], ◌∷◌, ◌++◌, length, max, get_or, set, slice_get, Option, Some, None, arith, refl, sym, ap, subst, ◌∙◌}
use Rattle.std.specs.Option.{option_map}
use Rattle.std.proofs.lemmas.List.{get_or-set_other, get_or-set_same, get_or_append_left, get_or_push, length_push, length-set}
use Rattle.std.proofs.lemmas.Bool.{cases_eq, cases_lt}
use Rattle.std.proofs.lemmas.Option.{same_Some, get_or_from_slice_get, slice_get-get_or, slice_get_within}
use Rattle.herd_lineage.specs.declared.lineage.Parents.{Parents}
use Rattle.herd_lineage.specs.Lineage.{IsLineage, IsNextOf, depth_above, depth_at, depth_from, dam_rank, sire_rank}
use Rattle.herd_lineage.proofs.lemmas.ListFacts.{push_cases, push_keeps, push_last, there}
use Rattle.herd_kinship.specs.Ancestry.{IsParentIn, PathTo}
use Rattle.herd_kinship.specs.Ranks.{ranked}
use Rattle.herd_kinship.proofs.lemmas.lineages.LineageFacts.{depth_at-row}
use Rattle.herd_pruned.specs.Marked.{IsMarked, MarksAncestors}
use Rattle.herd_pruned.specs.Pruned.{ArePlaces, IsPrunedOf, KeepsAncestorsOf, renamed_parents}

-- names that agree below a number
named-same : (xs ys : List ℕ) (i : ℕ) → ((p : ℕ) → p < i → get_or xs p 0 ≡ get_or ys p 0) → (o : Option ℕ) → ((p : ℕ) → o ≡ Some p → p < i) → option_map (λ p. get_or xs p 0) o ≡ option_map (λ p. get_or ys p 0) o
named-same xs ys i same None low = refl
named-same xs ys i same (Some p) low = ap Some (same p (low p refl))

-- Of the animals below a border those that are marked are kept.
pub record IsPruning (whole : List Parents) (marks : List Bool) (border : ℕ) (kept : List Parents) (ranks places : List ℕ) : Type 0 where
  pub long : length places ≡ length whole
  pub pruned : IsPrunedOf whole (record { lineage = kept; ranks = ranks })
  pub few : length ranks ≤ border
  pub below : (place rank : ℕ) → slice_get ranks place ≡ Some rank → (rank < border) × IsMarked marks rank
  pub there : (rank : ℕ) → rank < border → IsMarked marks rank → slice_get ranks (get_or places rank 0) ≡ Some rank
  pub placed : ArePlaces ranks places

pub no_animals : (l most : ℕ) → IsLineage l most []
no_animals l most = record {
  few = omega arith;
  sire = λ i p e. absurd (cc);
  dam = λ i p e. absurd (cc);
  depth = λ i within. absurd (omega (arith, within));
  shallow = λ i within. absurd (omega (arith, within));
}

pub pruning-start : (whole : List Parents) (marks : List Bool) (places : List ℕ) → length places ≡ length whole → IsPruning whole marks 0 [] [] places
pruning-start whole marks places long = record {
  long = long;
  pruned = record { each = refl; order = λ i j low within. absurd (omega (arith, within)); parents = λ i kept at. absurd (cc) };
  few = omega arith;
  below = λ place rank at. absurd (cc);
  there = λ rank within is. absurd (omega (arith, within));
  placed = λ place rank at. absurd (cc);
}

module _ (l most : ℕ) (whole : List Parents) (f : IsLineage l most whole) (animals : ℕ → Type 0) (marks : List Bool) (m : MarksAncestors whole animals marks)
    (border : ℕ) (within : border < length whole) (kept : List Parents) (g : IsLineage l most kept) (ranks places : List ℕ) (w : IsPruning whole marks border kept ranks places) where
  -- an animal that isn't marked
  pub pruning-past : slice_get marks border ≡ Some false → IsPruning whole marks (border + 1) kept ranks places
  pruning-past unmarked = record {
    long = w.long;
    pruned = w.pruned;
    few = let few = w.few in omega (arith, few);
    below = λ place rank at. let b = w.below place rank at in (let low = b.0 in omega (arith, low), b.1);
    there = λ rank low is.
        ⊎_elim
        (λ (e : rank ≡ border). absurd (no (sym (subst (λ r. IsMarked marks r) e is) ∙ unmarked)))
        (λ (other : rank ≢ border). w.there rank (omega arith) is)
        (cases_eq rank border);
    placed = w.placed;
  }
    where
      no : Some true ≡ Some false → ⊥
      no e = cc

  module _ (marked : IsMarked marks border) (parents : Parents) (at : slice_get whole border ≡ Some parents) where
    its-sire : sire_rank whole border ≡ parents.sire
    its-sire = rw at refl

    its-dam : dam_rank whole border ≡ parents.dam
    its-dam = rw at refl

    -- a parent is kept
    parent-kept : (p : ℕ) → IsParentIn (ranked whole) p border → slice_get ranks (get_or places p 0) ≡ Some p
    parent-kept p is =
        w.there p (⊎_elim (λ s. f.sire border p s) (λ d. f.dam border p d) is) (m.parents border p marked is)

    pub sire-within : (p : ℕ) → parents.sire ≡ Some p → p < length places
    sire-within p e = let low = f.sire border p (its-sire ∙ e) in let long = w.long in omega (arith, low, long, within)

    pub dam-within : (p : ℕ) → parents.dam ≡ Some p → p < length places
    dam-within p e = let low = f.dam border p (its-dam ∙ e) in let long = w.long in omega (arith, low, long, within)

    -- what its parents' places lead to
    led-back : (o : Option ℕ) → ((p : ℕ) → o ≡ Some p → IsParentIn (ranked whole) p border) → option_map (λ i. get_or (ranks ++ border ∷ []) i 0) (option_map (λ p. get_or places p 0) o) ≡ o
    led-back None is = refl
    led-back (Some p) is =
        let at = push_keeps ranks border p (get_or places p 0) (parent-kept p (is p refl)) in
        ap Some (get_or_from_slice_get (ranks ++ border ∷ []) (get_or places p 0) p 0 at)

    depth-kept : (i rank : ℕ) → slice_get ranks i ≡ Some rank → depth_at kept i ≡ depth_at whole rank
    depth-kept i rank e =
        let each = w.pruned.each in
        let low : i < length kept = let low = slice_get_within ranks i rank e in omega (arith, low, each) in
        let y = there kept i low in
        let named : slice_get whole rank ≡ Some (renamed_parents (λ p. get_or ranks p 0) y.0) =
        subst (λ r. slice_get whole r ≡ Some (renamed_parents (λ p. get_or ranks p 0) y.0)) (get_or_from_slice_get ranks i rank 0 e) (w.pruned.parents i y.0 y.1) in
        depth_at-row kept i y.0 y.1 ∙ sym (depth_at-row whole rank (renamed_parents (λ p. get_or ranks p 0) y.0) named)

    above-kept : (o : Option ℕ) → ((p : ℕ) → o ≡ Some p → IsParentIn (ranked whole) p border) → depth_above (depth_at whole) o ≡ depth_above (depth_at kept) (option_map (λ p. get_or places p 0) o)
    above-kept None is = refl
    above-kept (Some p) is = ap (λ d. d + 1) (sym (depth-kept (get_or places p 0) p (parent-kept p (is p refl))))

    place-within : (o : Option ℕ) → ((p : ℕ) → o ≡ Some p → IsParentIn (ranked whole) p border) → (q : ℕ) → option_map (λ p. get_or places p 0) o ≡ Some q → q < length kept
    place-within None is q e = absurd (cc)
    place-within (Some p) is q e =
        let each = w.pruned.each in
        let low = slice_get_within ranks (get_or places p 0) p (parent-kept p (is p refl)) in
        let same : get_or places p 0 ≡ q = same_Some _ _ e in
        subst (λ i. i < length kept) same (omega (arith, low, each))

    sire-is : (p : ℕ) → parents.sire ≡ Some p → IsParentIn (ranked whole) p border
    sire-is p e = inl (its-sire ∙ e)

    dam-is : (p : ℕ) → parents.dam ≡ Some p → IsParentIn (ranked whole) p border
    dam-is p e = inr (its-dam ∙ e)

    -- it can be the next one that is kept
    pub pruning-can : IsNextOf l most kept (renamed_parents (λ p. get_or places p 0) parents)
    pruning-can =
        let each = w.pruned.each in
        let few = w.few in
        let all = f.few in
        let row = depth_at-row whole border parents at in
        record {
          few = omega (arith, each, few, all, within);
          sire = place-within parents.sire sire-is;
          dam = place-within parents.dam dam-is;
          depth =
              sym row ∙ f.depth border within
              ∙ (λ j. depth_from (depth_at whole) (its-sire j) (its-dam j))
              ∙ (λ j. max (above-kept parents.sire sire-is j) (above-kept parents.dam dam-is j));
          shallow = let low = f.shallow border within in omega (arith, low, row);
        }

    -- and then it is kept
    pub pruning-next : IsPruning whole marks (border + 1) (kept ++ renamed_parents (λ p. get_or places p 0) parents ∷ []) (ranks ++ border ∷ []) (set places border (length kept))
    pruning-next =
        let placed = renamed_parents (λ p. get_or places p 0) parents in
        let ranks' = ranks ++ border ∷ [] in
        let places' = set places border (length kept) in
        let each = w.pruned.each in
        let long = w.long in
        let first : (p : ℕ) → p < length ranks → get_or ranks' p 0 ≡ get_or ranks p 0 = λ p low. get_or_append_left ranks (border ∷ []) 0 p low in
        let last : get_or ranks' (length ranks) 0 ≡ border = get_or_push ranks border 0 (length ranks) refl in
        record {
          long = length-set places border (length kept) ∙ long;
          pruned = record {
            each = length_push kept placed ∙ ap (λ n. n + 1) each ∙ sym (length_push ranks border);
            order = λ i j low end.
                let size = length_push ranks border in
                ⊎_elim
                (λ (inner : j < length ranks).
                rw (first i (omega arith), first j inner) (w.pruned.order i j low inner))
                (λ (outer : length ranks ≤ j).
                let is : j ≡ length ranks = omega (arith, outer, end, size) in
                let under : i < length ranks = omega (arith, low, is) in
                let b = (w.below i (get_or ranks i 0) (slice_get-get_or ranks i 0 under)).0 in
                rw (is, last, first i under) b)
                (cases_lt j (length ranks));
            parents = λ i y e.
                ⊎_elim
                (λ (old : slice_get kept i ≡ Some y).
                let low : i < length ranks = let low = slice_get_within kept i y old in omega (arith, low, each) in
                let same : (o : Option ℕ) → ((p : ℕ) → o ≡ Some p → p < i) → option_map (λ p. get_or ranks p 0) o ≡ option_map (λ p. get_or ranks' p 0) o = named-same ranks ranks' i (λ p under. sym (first p (omega arith))) in
                rw (first i low) (w.pruned.parents i y old ∙ ap Some (λ j. record {
                  sire = same y.sire (λ p s. g.sire i p (rw old s)) j;
                  dam = same y.dam (λ p d. g.dam i p (rw old d)) j;
                  depth = y.depth;
                })))
                (λ (new : (i ≡ length kept) × (placed ≡ y)).
                let is : i ≡ length ranks = new.0 ∙ each in
                rw (is, last) (at ∙ ap Some (λ j. record {
                  sire = sym (led-back parents.sire sire-is) j;
                  dam = sym (led-back parents.dam dam-is) j;
                  depth = parents.depth;
                }) ∙ ap (λ v. Some (renamed_parents (λ p. get_or ranks' p 0) v)) new.1))
                (push_cases kept placed y i e);
          };
          few = let few = w.few in let size = length_push ranks border in omega (arith, few, size);
          below = λ place rank e.
              ⊎_elim
              (λ old. let b = w.below place rank old in (let low = b.0 in omega (arith, low), b.1))
              (λ new. (let is = new.1 in omega (arith, is), subst (λ r. IsMarked marks r) new.1 marked))
              (push_cases ranks border rank place e);
          there = λ rank low is.
              ⊎_elim
              (λ (here : rank ≡ border).
              rw (here, get_or-set_same places border (length kept) 0 (omega (arith, within, long)), each) (push_last ranks border))
              (λ (other : rank ≢ border).
              rw (get_or-set_other places border rank (length kept) 0 other) (push_keeps ranks border rank (get_or places rank 0) (w.there rank (omega arith) is)))
              (cases_eq rank border);
          placed = λ place rank e.
              ⊎_elim
              (λ old.
              let b = (w.below place rank old).0 in
              let other : rank ≢ border = λ same. absurd (omega (arith, b, same)) in
              let was = w.placed place rank old in
              let inner : rank < length places' = let inner = slice_get_within places rank place was in let size = length-set places border (length kept) in omega (arith, inner, size) in
              slice_get-get_or places' rank 0 inner ∙ ap Some (get_or-set_other places border rank (length kept) 0 other ∙ get_or_from_slice_get places rank place 0 was))
              (λ new.
              let inner : border < length places' = let size = length-set places border (length kept) in omega (arith, within, long, size) in
              subst (λ r. slice_get places' r ≡ Some place) new.1
              (slice_get-get_or places' border 0 inner ∙ ap Some (get_or-set_same places border (length kept) 0 (omega (arith, within, long)) ∙ each ∙ sym new.0)))
              (push_cases ranks border rank place e);
        }

-- all that come from some animals are marked
came : (whole : List Parents) (animals : ℕ → Type 0) (marks : List Bool) → MarksAncestors whole animals marks → (n animal rank : ℕ) → IsMarked marks animal → PathTo (ranked whole) n animal rank → IsMarked marks rank
unfolding PathTo
came whole animals marks m zero animal rank is path = subst (λ r. IsMarked marks r) path is
came whole animals marks m (suc n) animal rank is path =
    came whole animals marks m n path.0 rank (m.parents animal path.0 is path.1) path.2

-- and so they are kept
pub pruning-end : (whole : List Parents) (animals : List ℕ) (marks : List Bool) (border : ℕ) (kept : List Parents) (ranks places : List ℕ) → border ≡ length whole → MarksAncestors whole (Contains animals) marks
    → IsPruning whole marks border kept ranks places → KeepsAncestorsOf whole animals (record { lineage = kept; ranks = ranks })
pruning-end whole animals marks border kept ranks places end m w = record {
  ancestors = λ rank c.
      let is = came whole (Contains animals) marks m c.2 c.0 rank (m.themselves c.0 c.1) c.3 in
      let each = m.each in
      let low : rank < border = let low = slice_get_within marks rank true is in omega (arith, low, each, end) in
      let at = w.there rank low is in
      (get_or places rank 0, slice_get_within ranks (get_or places rank 0) rank at, get_or_from_slice_get ranks (get_or places rank 0) rank rank at);
  others = λ rank c.
      let at : slice_get ranks c.0 ≡ Some rank = slice_get-get_or ranks c.0 rank c.1 ∙ ap Some c.2 in
      m.others rank (w.below c.0 rank at).1;
}
