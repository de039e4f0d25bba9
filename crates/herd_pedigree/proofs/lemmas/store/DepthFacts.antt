-- The depths once one animal that is nobody's parent has other parents.
use Rattle.std.proofs.Common.{ℕ, ◌+◌, ◌<◌, ◌≤◌, ◌≡◌, ◌⊎◌, ⊎_elim, inl, inr, arith, refl, sym, ap, ◌∙◌, subst, IsTrue, List, [], ◌∷◌, ◌++◌, Option, Some, None, length, max, slice_index, IfSome}
use Rattle.std.proofs.lemmas.Bool.{cases_lt, lt-ltb, ltb-true}
use Rattle.std.proofs.lemmas.List.{get_or_append_left, get_or_push, length_push}
use Rattle.herd_frozen.specs.rules.Paths.{Parentage}
use Rattle.herd_frozen.specs.rules.Depths.{IsParent, AreDepths, depth_above, depth_from}
use Rattle.herd_frozen.specs.places.Places.{parent_at, parentage_at}

pub above-same : {A : Type 0} (g h : A → ℕ) (o : Option A) → ((p : A) → o ≡ Some p → h p ≡ g p) → depth_above h o ≡ depth_above g o
above-same g h None same = refl
above-same g h (Some p) same = ap (λ v. v + 1) (same p refl)

-- parents of which two ways to count the depth agree
pub from-same : {A : Type 0} (g h : A → ℕ) (sire dam : Option A) → ((p : A) → (sire ≡ Some p) ⊎ (dam ≡ Some p) → h p ≡ g p) → depth_from h sire dam ≡ depth_from g sire dam
from-same g h sire dam same = (λ i. max (above-same g h sire (λ p e. same p (inl e)) i) (above-same g h dam (λ p e. same p (inr e)) i))

above-most : {A : Type 0} (g : A → ℕ) (l : ℕ) (o : Option A) → ((p : A) → o ≡ Some p → g p ≤ l) → depth_above g o ≤ l + 1
above-most g l None most = omega arith
above-most g l (Some p) most = let m = most p refl in omega arith

-- the depth that parents give is at most one above theirs
pub from-most : {A : Type 0} (g : A → ℕ) (l : ℕ) (sire dam : Option A) → ((p : A) → (sire ≡ Some p) ⊎ (dam ≡ Some p) → g p ≤ l) → depth_from g sire dam ≤ l + 1
from-most g l sire dam most =
    let a = above-most g l sire (λ p e. most p (inl e)) in
    let b = above-most g l dam (λ p e. most p (inr e)) in
    grind (arith, a, b)

-- x has the parents and the depth that it had
pub record IsSameAt {A : Type 0} (old new : Parentage A) (g h : A → ℕ) (x : A) : Type 0 where
  pub there : IsTrue (new.is_there x) → IsTrue (old.is_there x)
  pub sire : new.sire x ≡ old.sire x
  pub dam : new.dam x ≡ old.dam x
  pub depth : h x ≡ g x

-- one animal is or becomes nobody's parent, and gets parents and the depth that they give
pub record IsLeafSet {A : Type 0} (old new : Parentage A) (g h : A → ℕ) (a : A) : Type 0 where
  pub others : (x : A) → IsTrue (new.is_there x) → (x ≡ a) ⊎ IsSameAt old new g h x
  pub stay : (x : A) → IsTrue (old.is_there x) → IsTrue (new.is_there x)
  pub leaf : (x : A) → IsTrue (new.is_there x) → IsParent new a x → ⊥
  pub named : (p : A) → IsParent new p a → IsTrue (old.is_there p)
  pub given : h a ≡ depth_from g (new.sire a) (new.dam a)

module _ {A : Type 0} (l top : ℕ) (old new : Parentage A) (g h : A → ℕ) (a : A) (d : AreDepths l old g) (s : IsLeafSet old new g h a) (wide : l ≤ top) (low : h a ≤ top) where
  same_parent : (x p : A) → IsTrue (new.is_there x) → IsParent new p x → IsTrue (new.is_there p) → h p ≡ g p
  same_parent x p there is here =
      ⊎_elim (λ (e : p ≡ a). absurd (s.leaf x there (subst (λ v. IsParent new v x) e is))) (λ k. k.depth) (s.others p here)

  closed_at : (p x : A) → IsTrue (new.is_there x) → IsParent new p x → IsTrue (new.is_there p)
  closed_at p x there is =
      ⊎_elim
      (λ (e : x ≡ a). s.stay p (s.named p (subst (λ v. IsParent new p v) e is)))
      (λ k. s.stay p (d.closed p x (k.there there) (⊎_elim (λ e. inl (sym k.sire ∙ e)) (λ e. inr (sym k.dam ∙ e)) is)))
      (s.others x there)

  kept_at : (x : A) → IsTrue (new.is_there x) → h x ≡ depth_from h (new.sire x) (new.dam x)
  kept_at x there =
      let same : depth_from h (new.sire x) (new.dam x) ≡ depth_from g (new.sire x) (new.dam x) =
      from-same g h (new.sire x) (new.dam x) (λ p is. same_parent x p there is (closed_at p x there is)) in
      ⊎_elim
      (λ (e : x ≡ a). ap h e ∙ s.given ∙ sym (ap (λ v. depth_from g (new.sire v) (new.dam v)) e) ∙ sym same)
      (λ k. k.depth ∙ d.kept x (k.there there) ∙ sym (λ i. depth_from g (k.sire i) (k.dam i)) ∙ sym same)
      (s.others x there)

  pub depths-leaf : AreDepths top new h
  depths-leaf = record {
    closed = closed_at;
    kept = kept_at;
    most = λ x there.
        ⊎_elim
        (λ (e : x ≡ a). subst (λ v. h v ≤ top) (sym e) low)
        (λ k. let m = d.most x (k.there there) in let e = k.depth in omega (arith, m, e, wide))
        (s.others x there);
  }

parent-push : (parents : List (Option ℕ)) (o : Option ℕ) (c : ℕ) → c < length parents → parent_at (parents ++ o ∷ []) c ≡ parent_at parents c
parent-push parents o c h = get_or_append_left parents (o ∷ []) None c h

-- a parent that is known is within
pub within_some : (o : Option ℕ) (p n : ℕ) → IfSome o (λ p. p < n) → o ≡ Some p → p < n
within_some None p n h e = absurd (cc)
within_some (Some q) p n h e = let k : q ≡ p = cc in subst (λ v. v < n) k h

-- a place more at the end
module _ (l : ℕ) (sires dams : List (Option ℕ)) (depths : List ℕ) (d : AreDepths l (parentage_at sires dams) (slice_index depths))
    (long : length depths ≡ length sires) (same : length dams ≡ length sires)
    (sire dam : Option ℕ) (sire_within : IfSome sire (λ p. p < length sires)) (dam_within : IfSome dam (λ p. p < length sires)) where
  end_sire : parent_at (sires ++ sire ∷ []) (length sires) ≡ sire
  end_sire = get_or_push sires sire None (length sires) refl

  end_dam : parent_at (dams ++ dam ∷ []) (length sires) ≡ dam
  end_dam = get_or_push dams dam None (length sires) same

  named_end : (p : ℕ) → IsParent (parentage_at (sires ++ sire ∷ []) (dams ++ dam ∷ [])) p (length sires) → p < length sires
  named_end p is =
      ⊎_elim
      (λ (e : parent_at (sires ++ sire ∷ []) (length sires) ≡ Some p). within_some sire p (length sires) sire_within (sym end_sire ∙ e))
      (λ (e : parent_at (dams ++ dam ∷ []) (length sires) ≡ Some p). within_some dam p (length sires) dam_within (sym end_dam ∙ e))
      is

  leaf_set-push : (v : ℕ) → v ≡ depth_from (slice_index depths) sire dam → IsLeafSet (parentage_at sires dams) (parentage_at (sires ++ sire ∷ []) (dams ++ dam ∷ [])) (slice_index depths) (slice_index (depths ++ v ∷ [])) (length sires)
  leaf_set-push v e =
      let more = length_push sires sire in
      record {
        others = λ x there.
            let w = ltb-true x (length (sires ++ sire ∷ [])) there in
            ⊎_elim
            (λ (low : x < length sires).
            inr (record {
              there = λ _. lt-ltb x (length sires) low;
              sire = parent-push sires sire x low;
              dam = parent-push dams dam x (omega (arith, low, same));
              depth = get_or_append_left depths (v ∷ []) 0 x (omega (arith, low, long));
            }))
            (λ (high : length sires ≤ x). inl (omega (arith, high, w, more)))
            (cases_lt x (length sires));
        stay = λ x there. let w = ltb-true x (length sires) there in lt-ltb x (length (sires ++ sire ∷ [])) (omega (arith, w, more));
        leaf = λ x there is.
            let w = ltb-true x (length (sires ++ sire ∷ [])) there in
            ⊎_elim
            (λ (low : x < length sires).
            let old : IsParent (parentage_at sires dams) (length sires) x =
            ⊎_elim (λ e. inl (sym (parent-push sires sire x low) ∙ e)) (λ e. inr (sym (parent-push dams dam x (omega (arith, low, same))) ∙ e)) is in
            let w = ltb-true (length sires) (length sires) (d.closed (length sires) x (lt-ltb x (length sires) low) old) in
            absurd (omega (arith, w)))
            (λ (high : length sires ≤ x).
            let end : x ≡ length sires = omega (arith, high, w, more) in
            let self = named_end (length sires) (subst (λ v. IsParent (parentage_at (sires ++ sire ∷ []) (dams ++ dam ∷ [])) (length sires) v) end is) in
            absurd (omega (arith, self)))
            (cases_lt x (length sires));
        named = λ p is. lt-ltb p (length sires) (named_end p is);
        given =
            get_or_push depths v 0 (length sires) long ∙ e
            ∙ sym (λ i. depth_from (slice_index depths) (end_sire i) (end_dam i));
      }

  pub depths-push : (v : ℕ) → v ≡ depth_from (slice_index depths) sire dam → (top : ℕ) → l ≤ top → v ≤ top → AreDepths top (parentage_at (sires ++ sire ∷ []) (dams ++ dam ∷ [])) (slice_index (depths ++ v ∷ []))
  depths-push v e top wide low =
      depths-leaf l top (parentage_at sires dams) (parentage_at (sires ++ sire ∷ []) (dams ++ dam ∷ [])) (slice_index depths) (slice_index (depths ++ v ∷ [])) (length sires) d (leaf_set-push v e) wide
      (subst (λ n. n ≤ top) (sym (get_or_push depths v 0 (length sires) long)) low)

  pub new_depth-most : depth_from (slice_index depths) sire dam ≤ l + 1
  new_depth-most =
      from-most (slice_index depths) l sire dam
      (λ p is. d.most p (lt-ltb p (length sires) (⊎_elim (λ e. within_some sire p (length sires) sire_within e) (λ e. within_some dam p (length sires) dam_within e) is)))
