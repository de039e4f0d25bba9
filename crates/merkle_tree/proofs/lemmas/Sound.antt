-- A root that is right shows each leaf to be the tree's, or a collision.
use Rattle.std.proofs.Common.{◌≡◌, ◌⊎◌, ℕ, zero, suc, ◌<◌, ◌≤◌, ◌+◌, ◌-◌, ◌^◌, List, [], ◌∷◌, ◌++◌, length, take, drop, refl, sym, ◌∙◌, ap, subst, inl, inr, arith, lit<, length-drop, length-take-le, eqb, eqb-true}
use Rattle.std.proofs.lemmas.Bool.{cases_lt, cases_Bool, cond-true, cond-false}
use Rattle.std.proofs.lemmas.List.Elements.{Contains-append_left, Contains-append_right, All-append, All-cons, All-nil, All-take, All-drop, All-head, All-tail, All-same}
use Rattle.std.proofs.lemmas.List.{take-append-drop}
use Rattle.std.specs.List.{All}
use Rattle.std.specs.Prelude.{slice_get}
use Rattle.std.specs.declared.option.Option.{Option}
use Rattle.std.specs.declared.option.Option.TheVariants.{None, Some}
use Rattle.std.specs.Option.{option_map}
use Rattle.merkle_tree.specs.Tree.{IsDigest, node_digest, tree_at}
use Rattle.merkle_tree.specs.Shown.{AreDigests, Found, StandsIn, both, count_before, first_of, found_at, joined, leaf_at, places_of}
use Rattle.merkle_tree.specs.Collision.{Collision, checked_at, nodes_at}
use Rattle.merkle_tree.specs.declared.shown.Shown.{Shown}
use Rattle.merkle_tree.proofs.lemmas.Digests.{digest-is, same_or_collision, contains_here, contains_later, contains_same, more_messages, front_same, back_same, join_bytes, tail_same}
use Rattle.merkle_tree.proofs.lemmas.Steps.{tree_skip, tree_split, nodes_skip, nodes_split, found_none, found_leaf, found_skip, found_split, checked_skip, checked_split}

pub slice_get-take : {X : Type 0} (k : ℕ) (xs : List X) (i : ℕ) → i < k → slice_get (take k xs) i ≡ slice_get xs i
slice_get-take zero xs i h = absurd (omega arith)
slice_get-take (suc k) [] i h = refl
slice_get-take (suc k) (x ∷ xs) zero h = refl
slice_get-take (suc k) (x ∷ xs) (suc i) h = slice_get-take k xs i (omega arith)

pub slice_get-drop : {X : Type 0} (k : ℕ) (xs : List X) (i : ℕ) → slice_get (drop k xs) i ≡ slice_get xs (k + i)
slice_get-drop zero xs i = let e : 0 + i ≡ i = omega arith in rw e refl
slice_get-drop (suc k) [] i = refl
slice_get-drop (suc k) (x ∷ xs) i = let e : suc k + i ≡ suc (k + i) = omega arith in rw e (slice_get-drop k xs i)

from_take : {X : Type 0} (k : ℕ) (xs : List X) (i : ℕ) (x : X) → slice_get (take k xs) i ≡ Some x → slice_get xs i ≡ Some x
from_take zero xs i x e = absurd (cc)
from_take (suc k) [] i x e = e
from_take (suc k) (y ∷ ys) zero x e = e
from_take (suc k) (y ∷ ys) (suc i) x e = from_take k ys i x e

-- a tree's root is a digest
tree_is_digest_zero : (leaves : List (List ℕ)) → All IsDigest leaves → IsDigest (tree_at zero leaves)
unfolding tree_at
tree_is_digest_zero [] each = digest-is []
tree_is_digest_zero (leaf ∷ rest) each = All-head IsDigest leaf rest each

tree_is_digest_suc : (level : ℕ) → ((leaves : List (List ℕ)) → All IsDigest leaves → IsDigest (tree_at level leaves)) → (leaves : List (List ℕ)) → All IsDigest leaves → IsDigest (tree_at (suc level) leaves)
tree_is_digest_suc level below leaves each =
    elim (cases_lt (2 ^ level) (length leaves)) [
      | inl more ↦ subst (λ (d : List ℕ). IsDigest d) (sym (tree_split level leaves more)) (digest-is _)
      | inr fits ↦ subst (λ (d : List ℕ). IsDigest d) (sym (tree_skip level leaves fits)) (below leaves each)
    ]

pub tree_is_digest : (level : ℕ) (leaves : List (List ℕ)) → All IsDigest leaves → IsDigest (tree_at level leaves)
tree_is_digest zero = tree_is_digest_zero
tree_is_digest (suc level) = tree_is_digest_suc level (tree_is_digest level)

-- both parts of what was found in two
pub record FromBoth (one : Option Found) (two : List (List ℕ) → Option Found) (f : Found) : Type 0 where
  pub first : Found
  pub second : Found
  pub first_is : one ≡ Some first
  pub second_is : two first.left ≡ Some second
  pub is : f ≡ joined first second

from_second : (first : Found) (second : Option Found) (f : Found) → option_map (joined first) second ≡ Some f → (s : Found) × (second ≡ Some s) × (f ≡ joined first s)
from_second first None f e = absurd (cc)
from_second first (Some s) f e = (s, refl, cc)

pub from_both : (one : Option Found) (two : List (List ℕ) → Option Found) (f : Found) → both one two ≡ Some f → FromBoth one two f
from_both None two f e = absurd (cc)
from_both (Some first) two f e =
    let other = from_second first (two first.left) f e in
    record { first = first; second = other.0; first_is = refl; second_is = other.1; is = other.2 }

-- what is found is a digest, and digests are left
pub record GivesDigests (f : Found) : Type 0 where
  pub root : IsDigest f.root
  pub left : All IsDigest f.left

first_gives : (digests : List (List ℕ)) (f : Found) → All IsDigest digests → first_of digests ≡ Some f → GivesDigests f
first_gives [] f each e = absurd (cc)
first_gives (d ∷ left) f each e =
    let is : record { root = d; left = left } ≡ f = cc in
    subst (λ (g : Found). GivesDigests g) is (record { root = All-head IsDigest d left each; left = All-tail IsDigest d left each })

leaf_gives : (base : ℕ) (first : Shown) (rest : List Shown) (digests : List (List ℕ)) (f : Found) → IsDigest first.digest → All IsDigest digests
    → leaf_at base first rest digests ≡ Some f → GivesDigests f
leaf_gives base first [] digests f digest each e =
    elim (cases_Bool (eqb first.place base)) [
      | inl here ↦
          (let found : Some (record { root = first.digest; left = digests }) ≡ Some f = sym (cond-true (eqb first.place base) (Some (record { root = first.digest; left = digests })) None here) ∙ e in
          let is : record { root = first.digest; left = digests } ≡ f = cc in
          subst (λ (g : Found). GivesDigests g) is (record { root = digest; left = each }))
      | inr other ↦
          (let none : None ≡ Some f = sym (cond-false (eqb first.place base) (Some (record { root = first.digest; left = digests })) None other) ∙ e in
          absurd (cc))
    ]
leaf_gives base first (second ∷ rest) digests f digest each e = absurd (cc)

GivesAt : ℕ → Type 0
GivesAt level = (base count : ℕ) (shown : List Shown) (digests : List (List ℕ)) (f : Found) → All IsDigest digests → AreDigests shown
    → found_at level base count shown digests ≡ Some f → GivesDigests f

gives_zero : GivesAt zero
unfolding GivesAt
gives_zero base count [] digests f each shown_each e = first_gives digests f each (sym (found_none zero base count digests) ∙ e)
gives_zero base count (first ∷ rest) digests f each shown_each e =
    leaf_gives base first rest digests f (All-head (λ s. IsDigest s.digest) first rest shown_each) each (sym (found_leaf base count first rest digests) ∙ e)

gives_suc : (level : ℕ) → GivesAt level → GivesAt (suc level)
unfolding GivesAt
gives_suc level lower base count [] digests f each shown_each e = first_gives digests f each (sym (found_none (suc level) base count digests) ∙ e)
gives_suc level lower base count (first ∷ rest) digests f each shown_each e =
    elim (cases_lt (2 ^ level) count) [
      | inr fits ↦ lower base count (first ∷ rest) digests f each shown_each (sym (found_skip level base count first rest digests fits) ∙ e)
      | inl more ↦
          (let n = count_before (base + 2 ^ level) (places_of (first ∷ rest)) in
          let parts = from_both _ _ f (sym (found_split level base count first rest digests more) ∙ e) in
          let one = lower base (2 ^ level) (take n (first ∷ rest)) digests parts.first each (All-take (λ s. IsDigest s.digest) n (first ∷ rest) shown_each) parts.first_is in
          let two = lower (base + 2 ^ level) (count - 2 ^ level) (drop n (first ∷ rest)) parts.first.left parts.second one.left (All-drop (λ s. IsDigest s.digest) n (first ∷ rest) shown_each) parts.second_is in
          subst (λ (g : Found). GivesDigests g) (sym parts.is) (record { root = digest-is _; left = two.left }))
    ]

gives_at : (level : ℕ) → GivesAt level
gives_at zero = gives_zero
gives_at (suc level) = gives_suc level (gives_at level)

pub gives : (level base count : ℕ) (shown : List Shown) (digests : List (List ℕ)) (f : Found) → All IsDigest digests → AreDigests shown
    → found_at level base count shown digests ≡ Some f → GivesDigests f
unfolding GivesAt
gives level = gives_at level

-- a root that is the tree's shows each leaf to be there, or a collision
SoundAt : ℕ → Type 0
SoundAt level = (base count : ℕ) (shown : List Shown) (digests : List (List ℕ)) (f : Found) (leaves : List (List ℕ))
    → All IsDigest digests → AreDigests shown → All IsDigest leaves → length leaves ≡ count → 0 < count → count ≤ 2 ^ level
    → found_at level base count shown digests ≡ Some f → f.root ≡ tree_at level leaves
    → All (StandsIn base leaves) shown ⊎ Collision (checked_at level base count shown digests) (nodes_at level leaves)

sound_leaf : (base : ℕ) (first : Shown) (rest : List Shown) (digests : List (List ℕ)) (f : Found) (leaves : List (List ℕ))
    → leaf_at base first rest digests ≡ Some f → f.root ≡ tree_at zero leaves → 0 < length leaves → All (StandsIn base leaves) (first ∷ rest)
unfolding tree_at
sound_leaf base first rest digests f [] e same some = absurd (omega arith)
sound_leaf base first (second ∷ rest) digests f (leaf ∷ leaves) e same some = absurd (cc)
sound_leaf base first [] digests f (leaf ∷ leaves) e same some =
    elim (cases_Bool (eqb first.place base)) [
      | inl here ↦
          (let found : Some (record { root = first.digest; left = digests }) ≡ Some f = sym (cond-true (eqb first.place base) (Some (record { root = first.digest; left = digests })) None here) ∙ e in
          let is : record { root = first.digest; left = digests } ≡ f = cc in
          let digest : first.digest ≡ leaf = ap (λ (g : Found). g.root) is ∙ same in
          let place : first.place ≡ base = eqb-true first.place base here in
          let at : first.place - base ≡ 0 = omega arith in
          All-cons (StandsIn base (leaf ∷ leaves)) first [] (record {
            behind = omega arith;
            there = ap (λ (i : ℕ). slice_get (leaf ∷ leaves) i) at ∙ ap (λ (d : List ℕ). Some d) (sym digest);
          }) (All-nil (StandsIn base (leaf ∷ leaves))))
      | inr other ↦
          (let none : None ≡ Some f = sym (cond-false (eqb first.place base) (Some (record { root = first.digest; left = digests })) None other) ∙ e in
          absurd (cc))
    ]

sound_zero : SoundAt zero
unfolding SoundAt
sound_zero base count [] digests f leaves digests_are shown_are leaves_are len some few e same = inl (All-nil (StandsIn base leaves))
sound_zero base count (first ∷ rest) digests f leaves digests_are shown_are leaves_are len some few e same =
    inl (sound_leaf base first rest digests f leaves (sym (found_leaf base count first rest digests) ∙ e) same (omega arith))

-- a leaf of a half is one of the whole
left_stands : (base half : ℕ) (leaves : List (List ℕ)) (s : Shown) → StandsIn base (take half leaves) s → StandsIn base leaves s
left_stands base half leaves s at =
    record { behind = at.behind; there = from_take half leaves (s.place - base) s.digest at.there }

right_stands : (base half : ℕ) (leaves : List (List ℕ)) (s : Shown) → StandsIn (base + half) (drop half leaves) s → StandsIn base leaves s
right_stands base half leaves s at =
    let behind = at.behind in
    let place : half + (s.place - (base + half)) ≡ s.place - base = omega arith in
    record {
      behind = omega arith;
      there = ap (λ (i : ℕ). slice_get leaves i) (sym place) ∙ (sym (slice_get-drop half leaves (s.place - (base + half))) ∙ at.there);
    }

both_stand : (base half n : ℕ) (leaves : List (List ℕ)) (shown : List Shown) → All (StandsIn base (take half leaves)) (take n shown)
    → All (StandsIn (base + half) (drop half leaves)) (drop n shown) → All (StandsIn base leaves) shown
both_stand base half n leaves shown one two =
    All-same (StandsIn base leaves) shown (take n shown ++ drop n shown) (sym (take-append-drop n shown))
    (All-append (StandsIn base leaves) (take n shown) (drop n shown)
    (λ k d at. left_stands base half leaves _ (one k d at))
    (λ k d at. right_stands base half leaves _ (two k d at)))

sound_split : (level : ℕ) → SoundAt level → (base count : ℕ) (first : Shown) (rest : List Shown) (digests : List (List ℕ)) (f : Found) (leaves : List (List ℕ))
    → All IsDigest digests → AreDigests (first ∷ rest) → All IsDigest leaves → length leaves ≡ count → count ≤ 2 ^ suc level → 2 ^ level < count
    → found_at (suc level) base count (first ∷ rest) digests ≡ Some f → f.root ≡ tree_at (suc level) leaves
    → All (StandsIn base leaves) (first ∷ rest) ⊎ Collision (checked_at (suc level) base count (first ∷ rest) digests) (nodes_at (suc level) leaves)
unfolding SoundAt
sound_split level lower base count first rest digests f leaves digests_are shown_are leaves_are len few more e same =
    let half = 2 ^ level in
    let shown = first ∷ rest in
    let n = count_before (base + half) (places_of shown) in
    let before = take n shown in
    let behind = drop n shown in
    let more_leaves : half < length leaves = omega arith in
    let parts = from_both _ _ f (sym (found_split level base count first rest digests more) ∙ e) in
    let one = parts.first in
    let two = parts.second in
    let before_are = All-take (λ s. IsDigest s.digest) n shown shown_are in
    let behind_are = All-drop (λ s. IsDigest s.digest) n shown shown_are in
    let one_gives = gives level base half before digests one digests_are before_are parts.first_is in
    let two_gives = gives level (base + half) (count - half) behind one.left two one_gives.left behind_are parts.second_is in
    let left_tree = tree_at level (take half leaves) in
    let right_tree = tree_at level (drop half leaves) in
    let left_leaves = All-take IsDigest half leaves leaves_are in
    let right_leaves = All-drop IsDigest half leaves leaves_are in
    let left_is = tree_is_digest level (take half leaves) left_leaves in
    let right_is = tree_is_digest level (drop half leaves) right_leaves in
    let checked = 1 ∷ (one.root ++ two.root) in
    let node = 1 ∷ (left_tree ++ right_tree) in
    let these = checked_at (suc level) base count shown digests in
    let those = nodes_at (suc level) leaves in
    let these_one = checked_at level base half before digests in
    let these_two = checked_at level (base + half) (count - half) behind one.left in
    let those_one = nodes_at level (take half leaves) in
    let those_two = nodes_at level (drop half leaves) in
    let these_are = checked_split level base count first rest digests one two more parts.first_is parts.second_is in
    let those_are = nodes_split level leaves more_leaves in
    let digests_same : node_digest one.root two.root ≡ node_digest left_tree right_tree = ap (λ (g : Found). g.root) (sym parts.is) ∙ (same ∙ tree_split level leaves more_leaves) in
    let double : 2 ^ suc level ≡ 2 ^ level + 2 ^ level = omega arith in
    let positive : 0 < half = omega arith in
    let count_right : length (drop half leaves) ≡ count - half = length-drop half leaves ∙ ap (λ (k : ℕ). k - half) len in
    elim (same_or_collision these those checked node
    (contains_same these _ these_are checked (Contains-append_right these_one (checked ∷ these_two) checked (contains_here checked these_two)))
    (contains_same those _ those_are node (contains_here node (those_one ++ those_two)))
    (join_bytes 1 one.root two.root (lit< tt) one_gives.root.0 two_gives.root.0) (join_bytes 1 left_tree right_tree (lit< tt) left_is.0 right_is.0) digests_same) [
      | inr c ↦ inr c
      | inl equal ↦
          (let first_same = front_same one.root two.root left_tree right_tree 32 one_gives.root.1 left_is.1 (tail_same 1 _ _ equal) in
          let second_same = back_same one.root two.root left_tree right_tree 32 one_gives.root.1 left_is.1 (tail_same 1 _ _ equal) in
          elim (lower base half before digests one (take half leaves) digests_are before_are left_leaves (length-take-le half leaves (omega arith)) positive (omega arith) parts.first_is first_same) [
            | inr c ↦ inr (more_messages these_one those_one these those
                (λ m at. contains_same these _ these_are m (Contains-append_left these_one (checked ∷ these_two) m at))
                (λ m at. contains_same those _ those_are m (contains_later node (those_one ++ those_two) m (Contains-append_left those_one those_two m at))) c)
            | inl ones ↦
                (elim (lower (base + half) (count - half) behind one.left two (drop half leaves) one_gives.left behind_are right_leaves count_right (omega arith) (omega arith) parts.second_is second_same) [
                  | inr c ↦ inr (more_messages these_two those_two these those
                      (λ m at. contains_same these _ these_are m (Contains-append_right these_one (checked ∷ these_two) m (contains_later checked these_two m at)))
                      (λ m at. contains_same those _ those_are m (contains_later node (those_one ++ those_two) m (Contains-append_right those_one those_two m at))) c)
                  | inl others ↦ inl (both_stand base half n leaves shown ones others)
                ])
          ])
    ]

sound_suc : (level : ℕ) → SoundAt level → SoundAt (suc level)
unfolding SoundAt
sound_suc level lower base count [] digests f leaves digests_are shown_are leaves_are len some few e same = inl (All-nil (StandsIn base leaves))
sound_suc level lower base count (first ∷ rest) digests f leaves digests_are shown_are leaves_are len some few e same =
    elim (cases_lt (2 ^ level) count) [
      | inl more ↦ sound_split level lower base count first rest digests f leaves digests_are shown_are leaves_are len few more e same
      | inr fits ↦
          (let leaves_fit : length leaves ≤ 2 ^ level = omega arith in
          elim (lower base count (first ∷ rest) digests f leaves digests_are shown_are leaves_are len some fits
          (sym (found_skip level base count first rest digests fits) ∙ e) (same ∙ tree_skip level leaves leaves_fit)) [
            | inl here ↦ inl here
            | inr c ↦ inr (more_messages _ _ _ _ (contains_same _ _ (checked_skip level base count first rest digests fits)) (contains_same _ _ (nodes_skip level leaves leaves_fit)) c)
          ])
    ]

sound_levels : (level : ℕ) → SoundAt level
sound_levels zero = sound_zero
sound_levels (suc level) = sound_suc level (sound_levels level)

pub sound_at : (level base count : ℕ) (shown : List Shown) (digests : List (List ℕ)) (f : Found) (leaves : List (List ℕ))
    → All IsDigest digests → AreDigests shown → All IsDigest leaves → length leaves ≡ count → 0 < count → count ≤ 2 ^ level
    → found_at level base count shown digests ≡ Some f → f.root ≡ tree_at level leaves
    → All (StandsIn base leaves) shown ⊎ Collision (checked_at level base count shown digests) (nodes_at level leaves)
unfolding SoundAt
sound_at level = sound_levels level
