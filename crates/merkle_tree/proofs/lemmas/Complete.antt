-- The digests beside the shown leaves of a tree give its root.
use Rattle.std.proofs.Common.{◌≡◌, ℕ, zero, suc, ◌<◌, ◌≤◌, ◌+◌, ◌-◌, ◌^◌, List, [], ◌∷◌, ◌++◌, length, take, drop, refl, sym, ◌∙◌, ap, subst, inl, inr, arith, length-drop, length-take-le, append_assoc, eqb, eq-eqb}
use Rattle.std.proofs.lemmas.Bool.{cases_lt, cond-true, cond-false, lt-ltb, le-ltb}
use Rattle.std.proofs.lemmas.List.{take-map, drop-map}
use Rattle.std.proofs.lemmas.List.Elements.{All-nil, All-cons, All-head, All-tail, All-take}
use Rattle.std.specs.List.{All}
use Rattle.std.specs.Prelude.{slice_get, unwrap_or}
use Rattle.std.specs.declared.option.Option.{Option}
use Rattle.std.specs.declared.option.Option.TheVariants.{None, Some}
use Rattle.std.specs.Option.{option_map}
use Rattle.merkle_tree.specs.Tree.{tree_at}
use Rattle.merkle_tree.specs.Shown.{Found, IsAscending, LieWithin, beside_at, both, count_before, found_at, joined, leaf_at, places_of, shown_at, shown_of}
use Rattle.merkle_tree.specs.declared.shown.Shown.{Shown}
use Rattle.merkle_tree.proofs.lemmas.Sound.{slice_get-take, slice_get-drop}
use Rattle.merkle_tree.proofs.lemmas.Steps.{tree_skip, tree_split, beside_nothing, beside_zero, beside_skip, beside_split, found_none, found_leaf, found_skip, found_split}

pub ascending-tail : (place : ℕ) (behind : List ℕ) → IsAscending (place ∷ behind) → IsAscending behind
unfolding IsAscending
ascending-tail place behind h = h.1

pub ascending-first : (place : ℕ) (behind : List ℕ) → IsAscending (place ∷ behind) → All (λ later. place < later) behind
unfolding IsAscending
ascending-first place behind h = h.0

pub ascending-nil : IsAscending []
unfolding IsAscending
ascending-nil = tt

pub ascending-cons : (place : ℕ) (behind : List ℕ) → All (λ later. place < later) behind → IsAscending behind → IsAscending (place ∷ behind)
unfolding IsAscending
ascending-cons place behind first rest = (first, rest)

ascending-take : (n : ℕ) (places : List ℕ) → IsAscending places → IsAscending (take n places)
ascending-take zero places h = ascending-nil
ascending-take (suc n) [] h = ascending-nil
ascending-take (suc n) (place ∷ behind) h =
    ascending-cons place (take n behind) (All-take (λ later. place < later) n behind (ascending-first place behind h)) (ascending-take n behind (ascending-tail place behind h))

ascending-drop : (n : ℕ) (places : List ℕ) → IsAscending places → IsAscending (drop n places)
ascending-drop zero places h = h
ascending-drop (suc n) [] h = h
ascending-drop (suc n) (place ∷ behind) h = ascending-drop n behind (ascending-tail place behind h)

-- the places before a place, and the others
count-cons : (end place : ℕ) (behind : List ℕ) → place < end → count_before end (place ∷ behind) ≡ suc (count_before end behind)
count-cons end place behind below =
    let one_more : 1 + count_before end behind ≡ suc (count_before end behind) = omega arith in
    cond-true _ _ _ (lt-ltb place end below) ∙ one_more

count-none : (end place : ℕ) (behind : List ℕ) → end ≤ place → count_before end (place ∷ behind) ≡ 0
count-none end place behind beyond = cond-false _ _ _ (le-ltb place end beyond)

before_end : (end low high : ℕ) (places : List ℕ) → LieWithin low high places → LieWithin low end (take (count_before end places) places)
before_end end low high [] lie = All-nil (λ p. (low ≤ p) × (p < end))
before_end end low high (place ∷ behind) lie =
    elim (cases_lt place end) [
      | inl below ↦
          subst (λ (n : ℕ). LieWithin low end (take n (place ∷ behind))) (sym (count-cons end place behind below))
          (All-cons (λ p. (low ≤ p) × (p < end)) place (take (count_before end behind) behind)
          ((All-head (λ p. (low ≤ p) × (p < high)) place behind lie).0, below)
          (before_end end low high behind (All-tail (λ p. (low ≤ p) × (p < high)) place behind lie)))
      | inr beyond ↦
          subst (λ (n : ℕ). LieWithin low end (take n (place ∷ behind))) (sym (count-none end place behind beyond)) (All-nil (λ p. (low ≤ p) × (p < end)))
    ]

all_later : (end high place : ℕ) (behind : List ℕ) → end ≤ place → All (λ later. place < later) behind → (low : ℕ) → LieWithin low high behind → LieWithin end high behind
all_later end high place behind beyond later low lie = λ k d at. (let after = later k d at in let bounds = (lie k d at).1 in (omega arith, bounds))

behind_end : (end low high : ℕ) (places : List ℕ) → IsAscending places → LieWithin low high places → LieWithin end high (drop (count_before end places) places)
behind_end end low high [] ascending lie = All-nil (λ p. (end ≤ p) × (p < high))
behind_end end low high (place ∷ behind) ascending lie =
    elim (cases_lt place end) [
      | inl below ↦
          subst (λ (n : ℕ). LieWithin end high (drop n (place ∷ behind))) (sym (count-cons end place behind below))
          (behind_end end low high behind (ascending-tail place behind ascending) (All-tail (λ p. (low ≤ p) × (p < high)) place behind lie))
      | inr beyond ↦
          subst (λ (n : ℕ). LieWithin end high (drop n (place ∷ behind))) (sym (count-none end place behind beyond))
          (All-cons (λ p. (end ≤ p) × (p < high)) place behind (beyond, (All-head (λ p. (low ≤ p) × (p < high)) place behind lie).1)
          (all_later end high place behind beyond (ascending-first place behind ascending) low (All-tail (λ p. (low ≤ p) × (p < high)) place behind lie)))
    ]

places-shown : (all : List (List ℕ)) (places : List ℕ) → places_of (shown_of all places) ≡ places
places-shown all [] = refl
places-shown all (place ∷ behind) = ap (λ (l : List ℕ). place ∷ l) (places-shown all behind)

-- the leaves stand among all from base on
abbrev StandFrom : ℕ → List (List ℕ) → List (List ℕ) → Type 0
StandFrom base all leaves = (i : ℕ) → i < length leaves → slice_get leaves i ≡ slice_get all (base + i)

CompleteAt : ℕ → Type 0
CompleteAt level = (base : ℕ) (all leaves more : List (List ℕ)) (places : List ℕ) → StandFrom base all leaves → length leaves ≤ 2 ^ level
    → IsAscending places → LieWithin base (base + length leaves) places
    → found_at level base (length leaves) (shown_of all places) (beside_at level base leaves places ++ more) ≡ Some (record { root = tree_at level leaves; left = more })

complete_nothing : (level base : ℕ) (leaves more : List (List ℕ)) → found_at level base (length leaves) [] (beside_at level base leaves [] ++ more) ≡ Some (record { root = tree_at level leaves; left = more })
complete_nothing level base leaves more =
    ap (λ (l : List (List ℕ)). found_at level base (length leaves) [] (l ++ more)) (beside_nothing level base leaves)
    ∙ found_none level base (length leaves) (tree_at level leaves ∷ more)

complete_single : (base place : ℕ) (behind : List ℕ) (all more : List (List ℕ)) (leaf : List ℕ) → place ≡ base → length behind ≡ 0 → Some leaf ≡ slice_get all base
    → leaf_at base (shown_at all place) (shown_of all behind) more ≡ Some (record { root = leaf; left = more })
complete_single base place (second ∷ rest) all more leaf here last is = absurd (omega arith)
complete_single base place [] all more leaf here last is =
    cond-true (eqb place base) _ None (eq-eqb place base here)
    ∙ ap (λ (o : Option (List ℕ)). Some (record { root = unwrap_or o []; left = more })) (ap (λ (p : ℕ). slice_get all p) here ∙ sym is)

tree_of_one : (leaf : List ℕ) (rest : List (List ℕ)) → tree_at zero (leaf ∷ rest) ≡ leaf
unfolding tree_at
tree_of_one leaf rest = refl

none_behind : (base place : ℕ) (behind : List ℕ) → place ≡ base → All (λ later. place < later) behind → LieWithin base (base + 1) behind → length behind ≡ 0
none_behind base place [] here later lie = refl
none_behind base place (second ∷ rest) here later lie =
    let after = All-head (λ p. place < p) second rest later in
    let bounds = (All-head (λ p. (base ≤ p) × (p < base + 1)) second rest lie).1 in
    absurd (omega arith)

complete_zero : CompleteAt zero
unfolding CompleteAt
complete_zero base all leaves more [] stand few ascending lie = complete_nothing zero base leaves more
complete_zero base all [] more (place ∷ behind) stand few ascending lie =
    let bounds = All-head (λ p. (base ≤ p) × (p < base + 0)) place behind lie in
    let low = bounds.0 in
    let high = bounds.1 in
    absurd (omega arith)
complete_zero base all (leaf ∷ second ∷ rest) more (place ∷ behind) stand few ascending lie = absurd (omega arith)
complete_zero base all (leaf ∷ []) more (place ∷ behind) stand few ascending lie =
    let bounds = All-head (λ p. (base ≤ p) × (p < base + 1)) place behind lie in
    let low = bounds.0 in
    let high = bounds.1 in
    let here : place ≡ base = omega arith in
    let last = none_behind base place behind here (ascending-first place behind ascending) (All-tail (λ p. (base ≤ p) × (p < base + 1)) place behind lie) in
    let zero_more : base + 0 ≡ base = omega arith in
    ap (λ (l : List (List ℕ)). found_at zero base 1 (shown_of all (place ∷ behind)) (l ++ more)) (beside_zero base (leaf ∷ []) (place ∷ behind) (λ e. absurd (omega arith)))
    ∙ found_leaf base 1 (shown_at all place) (shown_of all behind) more
    ∙ complete_single base place behind all more leaf here last (stand 0 (omega arith) ∙ ap (λ (i : ℕ). slice_get all i) zero_more)
    ∙ ap (λ (d : List ℕ). Some (record { root = d; left = more })) (sym (tree_of_one leaf []))

stand-take : (base half : ℕ) (all leaves : List (List ℕ)) → half ≤ length leaves → StandFrom base all leaves → StandFrom base all (take half leaves)
stand-take base half all leaves fits stand = λ i at.
    let long = length-take-le half leaves fits in
    slice_get-take half leaves i (omega arith) ∙ stand i (omega arith)

stand-drop : (base half : ℕ) (all leaves : List (List ℕ)) → StandFrom base all leaves → StandFrom (base + half) all (drop half leaves)
stand-drop base half all leaves stand = λ i at.
    let long = length-drop half leaves in
    let place : base + (half + i) ≡ base + half + i = omega arith in
    slice_get-drop half leaves i ∙ stand (half + i) (omega arith) ∙ ap (λ (p : ℕ). slice_get all p) place

complete_split : (level : ℕ) → CompleteAt level → (base : ℕ) (all leaves more : List (List ℕ)) (place : ℕ) (behind : List ℕ) → StandFrom base all leaves → length leaves ≤ 2 ^ suc level
    → 2 ^ level < length leaves → IsAscending (place ∷ behind) → LieWithin base (base + length leaves) (place ∷ behind)
    → found_at (suc level) base (length leaves) (shown_of all (place ∷ behind)) (beside_at (suc level) base leaves (place ∷ behind) ++ more) ≡ Some (record { root = tree_at (suc level) leaves; left = more })
unfolding CompleteAt
complete_split level lower base all leaves more place behind stand few some ascending lie =
    let half = 2 ^ level in
    let places = place ∷ behind in
    let n = count_before (base + half) places in
    let shown_number : count_before (base + half) (places_of (shown_of all places)) ≡ n = ap (λ (l : List ℕ). count_before (base + half) l) (places-shown all places) in
    let one = beside_at level base (take half leaves) (take n places) in
    let two = beside_at level (base + half) (drop half leaves) (drop n places) in
    let long_left = length-take-le half leaves (omega arith) in
    let long_right = length-drop half leaves in
    let double : 2 ^ suc level ≡ 2 ^ level + 2 ^ level = omega arith in
    let high : base + length leaves ≡ base + half + length (drop half leaves) = omega arith in
    let left_lie = subst (λ (l : ℕ). LieWithin base (base + l) (take n places)) (sym long_left) (before_end (base + half) base (base + length leaves) places lie) in
    let right_lie = subst (λ (h : ℕ). LieWithin (base + half) h (drop n places)) high (behind_end (base + half) base (base + length leaves) places ascending lie) in
    let left = lower base all (take half leaves) (two ++ more) (take n places) (stand-take base half all leaves (omega arith) stand) (omega arith) (ascending-take n places ascending) left_lie in
    let right = lower (base + half) all (drop half leaves) more (drop n places) (stand-drop base half all leaves stand) (omega arith) (ascending-drop n places ascending) right_lie in
    let left_shown : take (count_before (base + half) (places_of (shown_of all places))) (shown_of all places) ≡ shown_of all (take n places)
    = ap (λ (m : ℕ). take m (shown_of all places)) shown_number ∙ take-map (shown_at all) n places in
    let right_shown : drop (count_before (base + half) (places_of (shown_of all places))) (shown_of all places) ≡ shown_of all (drop n places)
    = ap (λ (m : ℕ). drop m (shown_of all places)) shown_number ∙ drop-map (shown_at all) n places in
    let left_root = tree_at level (take half leaves) in
    let right_root = tree_at level (drop half leaves) in
    let behind_two = λ (digests : List (List ℕ)). found_at level (base + half) (length leaves - half) (drop (count_before (base + half) (places_of (shown_of all places))) (shown_of all places)) digests in
    let first_is : found_at level base half (take (count_before (base + half) (places_of (shown_of all places))) (shown_of all places)) (beside_at (suc level) base leaves places ++ more) ≡ Some (record { root = left_root; left = two ++ more })
    = ap (λ (s : List Shown). found_at level base half s (beside_at (suc level) base leaves places ++ more)) left_shown
    ∙ ap (λ (d : List (List ℕ)). found_at level base half (shown_of all (take n places)) (d ++ more)) (beside_split level base leaves place behind some)
    ∙ ap (λ (d : List (List ℕ)). found_at level base half (shown_of all (take n places)) d) (append_assoc one two more)
    ∙ ap (λ (c : ℕ). found_at level base c (shown_of all (take n places)) (one ++ (two ++ more))) (sym long_left)
    ∙ left in
    let second_is : behind_two (two ++ more) ≡ Some (record { root = right_root; left = more })
    = ap (λ (s : List Shown). found_at level (base + half) (length leaves - half) s (two ++ more)) right_shown
    ∙ ap (λ (c : ℕ). found_at level (base + half) c (shown_of all (drop n places)) (two ++ more)) (sym long_right)
    ∙ right in
    found_split level base (length leaves) (shown_at all place) (shown_of all behind) (beside_at (suc level) base leaves places ++ more) some
    ∙ ap (λ (o : Option Found). both o behind_two) first_is
    ∙ ap (λ (o : Option Found). option_map (joined (record { root = left_root; left = two ++ more })) o) second_is
    ∙ ap (λ (d : List ℕ). Some (record { root = d; left = more })) (sym (tree_split level leaves some))

complete_suc : (level : ℕ) → CompleteAt level → CompleteAt (suc level)
unfolding CompleteAt
complete_suc level lower base all leaves more [] stand few ascending lie = complete_nothing (suc level) base leaves more
complete_suc level lower base all leaves more (place ∷ behind) stand few ascending lie =
    elim (cases_lt (2 ^ level) (length leaves)) [
      | inl some ↦ complete_split level lower base all leaves more place behind stand few some ascending lie
      | inr fits ↦
          found_skip level base (length leaves) (shown_at all place) (shown_of all behind) (beside_at (suc level) base leaves (place ∷ behind) ++ more) fits
          ∙ ap (λ (d : List (List ℕ)). found_at level base (length leaves) (shown_of all (place ∷ behind)) (d ++ more)) (beside_skip level base leaves place behind fits)
          ∙ lower base all leaves more (place ∷ behind) stand fits ascending lie
          ∙ ap (λ (d : List ℕ). Some (record { root = d; left = more })) (sym (tree_skip level leaves fits))
    ]

complete_levels : (level : ℕ) → CompleteAt level
complete_levels zero = complete_zero
complete_levels (suc level) = complete_suc level (complete_levels level)

pub complete_at : (level : ℕ) (leaves : List (List ℕ)) (places : List ℕ) → length leaves ≤ 2 ^ level → IsAscending places → LieWithin 0 (length leaves) places
    → found_at level 0 (length leaves) (shown_of leaves places) (beside_at level 0 leaves places ++ []) ≡ Some (record { root = tree_at level leaves; left = [] })
unfolding CompleteAt
complete_at level leaves places few ascending lie =
    complete_levels level 0 leaves leaves [] places (λ i at. let e : i ≡ 0 + i = omega arith in ap (λ (k : ℕ). slice_get leaves k) e) few ascending
    (let e : length leaves ≡ 0 + length leaves = omega arith in subst (λ (n : ℕ). LieWithin 0 n places) e lie)
