-- The equations of the definitions, a level at a time, and the functions' steps over plain variables. Levels are
-- variables here: at the numeral 64 the definitions would unfold without end.
use Rattle.std.proofs.Common.{◌≡◌, ℕ, zero, suc, ◌<◌, ◌≤◌, ◌+◌, ◌-◌, ◌^◌, List, [], ◌∷◌, ◌++◌, length, take, drop, refl, sym, ◌∙◌, ap, subst, arith, le-leb, append_assoc, append-nil}
use Rattle.std.proofs.lemmas.Bool.{cond-true, cond-false, lt-leb}
use Rattle.std.specs.Option.{option_map, option_map_or}
use Rattle.std.specs.Prelude.{slice_get, OnOk, Result, Ok, Err}
use Rattle.std.specs.declared.option.Option.{Option}
use Rattle.std.specs.declared.option.Option.TheVariants.{None, Some}
use Rattle.sha2.specs.Sha256.{sha256}
use Rattle.merkle_tree.specs.Tree.{node_digest, tree_at}
use Rattle.merkle_tree.specs.declared.shown.Part.{Part}
use Rattle.merkle_tree.specs.Shown.{Found, found_in, count_before, places_of, beside_at, first_of, leaf_at, joined, both, found_at}
use Rattle.merkle_tree.specs.Collision.{nodes_at, node_over, checked_at}
use Rattle.merkle_tree.specs.declared.shown.Shown.{Shown}

pub next : (level : ℕ) → (level ≡ 0 → ⊥) → suc (level - 1) ≡ level
next level ne = omega arith

-- the tree
pub tree_skip : (level : ℕ) (leaves : List (List ℕ)) → length leaves ≤ 2 ^ level → tree_at (suc level) leaves ≡ tree_at level leaves
unfolding tree_at
tree_skip level leaves fits = cond-true _ _ _ (le-leb (length leaves) (2 ^ level) fits)

pub tree_split : (level : ℕ) (leaves : List (List ℕ)) → 2 ^ level < length leaves
    → tree_at (suc level) leaves ≡ node_digest (tree_at level (take (2 ^ level) leaves)) (tree_at level (drop (2 ^ level) leaves))
unfolding tree_at
tree_split level leaves more = cond-false _ _ _ (lt-leb (length leaves) (2 ^ level) more)

pub nodes_skip : (level : ℕ) (leaves : List (List ℕ)) → length leaves ≤ 2 ^ level → nodes_at (suc level) leaves ≡ nodes_at level leaves
unfolding nodes_at
nodes_skip level leaves fits = cond-true _ _ _ (le-leb (length leaves) (2 ^ level) fits)

pub nodes_split : (level : ℕ) (leaves : List (List ℕ)) → 2 ^ level < length leaves
    → nodes_at (suc level) leaves ≡ (1 ∷ (tree_at level (take (2 ^ level) leaves) ++ tree_at level (drop (2 ^ level) leaves)))
    ∷ (nodes_at level (take (2 ^ level) leaves) ++ nodes_at level (drop (2 ^ level) leaves))
unfolding nodes_at
nodes_split level leaves more = cond-false _ _ _ (lt-leb (length leaves) (2 ^ level) more)

pub tree_leaf : (leaves : List (List ℕ)) (level : ℕ) (leaf d : List ℕ) → level ≡ 0 → Some leaf ≡ slice_get leaves 0 → d ≡ leaf → d ≡ tree_at level leaves
unfolding tree_at
tree_leaf [] level leaf d none at is = absurd (cc)
tree_leaf (first ∷ rest) level leaf d none at is =
    let same : leaf ≡ first = cc in
    subst (λ (l : ℕ). d ≡ tree_at l (first ∷ rest)) (sym none) (is ∙ same)

pub tree_none : (leaves : List (List ℕ)) (level : ℕ) (d : List ℕ) → level ≡ 0 → None ≡ slice_get leaves 0 → d ≡ sha256 [] → d ≡ tree_at level leaves
unfolding tree_at
tree_none [] level d none at is = subst (λ (l : ℕ). d ≡ tree_at l []) (sym none) is
tree_none (first ∷ rest) level d none at is = absurd (cc)

pub tree_within : (leaves : List (List ℕ)) (level half : ℕ) (d : List ℕ) → (level ≡ 0 → ⊥) → half ≡ 2 ^ (level - 1) → length leaves ≤ half
    → d ≡ tree_at (level - 1) leaves → d ≡ tree_at level leaves
tree_within leaves level half d some is_half fits is =
    let fits_power : length leaves ≤ 2 ^ (level - 1) = omega (arith, fits, is_half) in
    subst (λ (l : ℕ). d ≡ tree_at l leaves) (next level some) (is ∙ sym (tree_skip (level - 1) leaves fits_power))

pub tree_halves : (leaves left right : List (List ℕ)) (level half : ℕ) (d dl dr : List ℕ) → (level ≡ 0 → ⊥) → half ≡ 2 ^ (level - 1) → half < length leaves
    → left ≡ take half leaves → right ≡ drop half leaves → dl ≡ tree_at (level - 1) left → dr ≡ tree_at (level - 1) right
    → d ≡ node_digest dl dr → d ≡ tree_at level leaves
tree_halves leaves left right level half d dl dr some is_half more is_left is_right is_dl is_dr is =
    let more_power : 2 ^ (level - 1) < length leaves = omega (arith, more, is_half) in
    let first : dl ≡ tree_at (level - 1) (take (2 ^ (level - 1)) leaves) = is_dl ∙ ap (λ (l : List (List ℕ)). tree_at (level - 1) l) (is_left ∙ ap (λ (n : ℕ). take n leaves) is_half) in
    let second : dr ≡ tree_at (level - 1) (drop (2 ^ (level - 1)) leaves) = is_dr ∙ ap (λ (l : List (List ℕ)). tree_at (level - 1) l) (is_right ∙ ap (λ (n : ℕ). drop n leaves) is_half) in
    subst (λ (l : ℕ). d ≡ tree_at l leaves) (next level some)
    (is ∙ ap (λ (l : List ℕ). node_digest l dr) first ∙ ap (λ (r : List ℕ). node_digest (tree_at (level - 1) (take (2 ^ (level - 1)) leaves)) r) second
    ∙ sym (tree_split (level - 1) leaves more_power))

-- the digests beside

pub beside_skip : (level base : ℕ) (leaves : List (List ℕ)) (first : ℕ) (rest : List ℕ) → length leaves ≤ 2 ^ level
    → beside_at (suc level) base leaves (first ∷ rest) ≡ beside_at level base leaves (first ∷ rest)
unfolding beside_at
beside_skip level base leaves first rest fits = cond-true _ _ _ (le-leb (length leaves) (2 ^ level) fits)

pub beside_split : (level base : ℕ) (leaves : List (List ℕ)) (first : ℕ) (rest : List ℕ) → 2 ^ level < length leaves
    → beside_at (suc level) base leaves (first ∷ rest)
    ≡ beside_at level base (take (2 ^ level) leaves) (take (count_before (base + 2 ^ level) (first ∷ rest)) (first ∷ rest))
    ++ beside_at level (base + 2 ^ level) (drop (2 ^ level) leaves) (drop (count_before (base + 2 ^ level) (first ∷ rest)) (first ∷ rest))
unfolding beside_at
beside_split level base leaves first rest more = cond-false _ _ _ (lt-leb (length leaves) (2 ^ level) more)

pub beside_nothing : (level base : ℕ) (leaves : List (List ℕ)) → beside_at level base leaves [] ≡ tree_at level leaves ∷ []
unfolding beside_at
beside_nothing zero base leaves = refl
beside_nothing (suc level) base leaves = refl

pub beside_unshown : (old new : List (List ℕ)) (level base : ℕ) (leaves : List (List ℕ)) (d : List ℕ) (places : List ℕ) → length places ≡ 0
    → d ≡ tree_at level leaves → new ≡ old ++ (d ∷ []) → new ≡ old ++ beside_at level base leaves places
beside_unshown old new level base leaves d [] none is added =
    added ∙ ap (λ (l : List (List ℕ)). old ++ l) (ap (λ (x : List ℕ). x ∷ []) is ∙ sym (beside_nothing level base leaves))
beside_unshown old new level base leaves d (first ∷ rest) none is added = absurd (omega arith)

pub beside_zero : (base : ℕ) (leaves : List (List ℕ)) (places : List ℕ) → (length places ≡ 0 → ⊥) → beside_at zero base leaves places ≡ []
unfolding beside_at
beside_zero base leaves [] some = absurd (some refl)
beside_zero base leaves (first ∷ rest) some = refl

pub beside_leaf : (old : List (List ℕ)) (level base : ℕ) (leaves : List (List ℕ)) (places : List ℕ) → level ≡ 0 → (length places ≡ 0 → ⊥)
    → old ≡ old ++ beside_at level base leaves places
beside_leaf old level base leaves places none some =
    subst (λ (l : ℕ). old ≡ old ++ beside_at l base leaves places) (sym none)
    (sym (ap (λ (l : List (List ℕ)). old ++ l) (beside_zero base leaves places some) ∙ append-nil old))

pub beside_within : (level half base : ℕ) (leaves : List (List ℕ)) (places : List ℕ) → (level ≡ 0 → ⊥) → half ≡ 2 ^ (level - 1)
    → (length places ≡ 0 → ⊥) → length leaves ≤ half → beside_at (level - 1) base leaves places ≡ beside_at level base leaves places
beside_within level half base leaves [] some is_half shown fits = absurd (shown refl)
beside_within level half base leaves (first ∷ rest) some is_half shown fits =
    let fits_power : length leaves ≤ 2 ^ (level - 1) = omega (arith, fits, is_half) in
    subst (λ (l : ℕ). beside_at (level - 1) base leaves (first ∷ rest) ≡ beside_at l base leaves (first ∷ rest)) (next level some)
    (sym (beside_skip (level - 1) base leaves first rest fits_power))

pub beside_halves : (old mid new left right : List (List ℕ)) (level half n base : ℕ) (leaves : List (List ℕ)) (places before behind : List ℕ)
    → (level ≡ 0 → ⊥) → half ≡ 2 ^ (level - 1) → (length places ≡ 0 → ⊥) → half < length leaves
    → left ≡ take half leaves → right ≡ drop half leaves → n ≡ count_before (base + half) places → before ≡ take n places → behind ≡ drop n places
    → mid ≡ old ++ beside_at (level - 1) base left before → new ≡ mid ++ beside_at (level - 1) (base + half) right behind
    → new ≡ old ++ beside_at level base leaves places
beside_halves old mid new left right level half n base leaves [] before behind some is_half shown more is_left is_right is_n is_before is_behind is_mid is_new = absurd (shown refl)
beside_halves old mid new left right level half n base leaves (first ∷ rest) before behind some is_half shown more is_left is_right is_n is_before is_behind is_mid is_new =
    let more_power : 2 ^ (level - 1) < length leaves = omega (arith, more, is_half) in
    let places = first ∷ rest in
    let count : n ≡ count_before (base + 2 ^ (level - 1)) places = is_n ∙ ap (λ (h : ℕ). count_before (base + h) places) is_half in
    let ones : beside_at (level - 1) base left before ≡ beside_at (level - 1) base (take (2 ^ (level - 1)) leaves) (take (count_before (base + 2 ^ (level - 1)) places) places)
    = ap (λ (l : List (List ℕ)). beside_at (level - 1) base l before) (is_left ∙ ap (λ (h : ℕ). take h leaves) is_half)
    ∙ ap (λ (p : List ℕ). beside_at (level - 1) base (take (2 ^ (level - 1)) leaves) p) (is_before ∙ ap (λ (m : ℕ). take m places) count) in
    let others : beside_at (level - 1) (base + half) right behind ≡ beside_at (level - 1) (base + 2 ^ (level - 1)) (drop (2 ^ (level - 1)) leaves) (drop (count_before (base + 2 ^ (level - 1)) places) places)
    = ap (λ (h : ℕ). beside_at (level - 1) (base + h) right behind) is_half
    ∙ ap (λ (l : List (List ℕ)). beside_at (level - 1) (base + 2 ^ (level - 1)) l behind) (is_right ∙ ap (λ (h : ℕ). drop h leaves) is_half)
    ∙ ap (λ (p : List ℕ). beside_at (level - 1) (base + 2 ^ (level - 1)) (drop (2 ^ (level - 1)) leaves) p) (is_behind ∙ ap (λ (m : ℕ). drop m places) count) in
    subst (λ (l : ℕ). new ≡ old ++ beside_at l base leaves places) (next level some)
    (is_new ∙ ap (λ (l : List (List ℕ)). mid ++ l) others
    ∙ ap (λ (l : List (List ℕ)). l ++ beside_at (level - 1) (base + 2 ^ (level - 1)) (drop (2 ^ (level - 1)) leaves) (drop (count_before (base + 2 ^ (level - 1)) places) places))
    (is_mid ∙ ap (λ (l : List (List ℕ)). old ++ l) ones)
    ∙ append_assoc old _ _
    ∙ ap (λ (l : List (List ℕ)). old ++ l) (sym (beside_split (level - 1) base leaves first rest more_power)))

-- the root that is found
pub found_none : (level base count : ℕ) (digests : List (List ℕ)) → found_at level base count [] digests ≡ first_of digests
unfolding found_at
found_none zero base count digests = refl
found_none (suc level) base count digests = refl

pub found_leaf : (base count : ℕ) (first : Shown) (rest : List Shown) (digests : List (List ℕ)) → found_at zero base count (first ∷ rest) digests ≡ leaf_at base first rest digests
unfolding found_at
found_leaf base count first rest digests = refl

pub found_skip : (level base count : ℕ) (first : Shown) (rest : List Shown) (digests : List (List ℕ)) → count ≤ 2 ^ level
    → found_at (suc level) base count (first ∷ rest) digests ≡ found_at level base count (first ∷ rest) digests
unfolding found_at
found_skip level base count first rest digests fits = cond-true _ _ _ (le-leb count (2 ^ level) fits)

pub found_split : (level base count : ℕ) (first : Shown) (rest : List Shown) (digests : List (List ℕ)) → 2 ^ level < count
    → found_at (suc level) base count (first ∷ rest) digests
    ≡ both (found_at level base (2 ^ level) (take (count_before (base + 2 ^ level) (places_of (first ∷ rest))) (first ∷ rest)) digests)
    (λ left. found_at level (base + 2 ^ level) (count - 2 ^ level) (drop (count_before (base + 2 ^ level) (places_of (first ∷ rest))) (first ∷ rest)) left)
unfolding found_at
found_split level base count first rest digests more = cond-false _ _ _ (lt-leb count (2 ^ level) more)

pub found_unshown : (r : Option Found) (level base count : ℕ) (shown : List Shown) (digests : List (List ℕ)) → length shown ≡ 0
    → r ≡ first_of digests → r ≡ found_at level base count shown digests
found_unshown r level base count [] digests none is = is ∙ sym (found_none level base count digests)
found_unshown r level base count (first ∷ rest) digests none is = absurd (omega arith)

pub found_zero : (r : Option Found) (level base count : ℕ) (shown : List Shown) (first : Shown) (rest : List Shown) (digests : List (List ℕ)) → level ≡ 0 → shown ≡ first ∷ rest
    → r ≡ leaf_at base first rest digests → r ≡ found_at level base count shown digests
found_zero r level base count shown first rest digests none some is =
    is ∙ sym (ap (λ (l : ℕ). found_at l base count shown digests) none ∙ ap (λ (s : List Shown). found_at zero base count s digests) some ∙ found_leaf base count first rest digests)

pub found_within : (r : Option Found) (level half base count : ℕ) (shown : List Shown) (first : Shown) (rest : List Shown) (digests : List (List ℕ)) → (level ≡ 0 → ⊥) → half ≡ 2 ^ (level - 1)
    → shown ≡ first ∷ rest → count ≤ half → r ≡ found_at (level - 1) base count shown digests → r ≡ found_at level base count shown digests
found_within r level half base count shown first rest digests some is_half are fits is =
    let fits_power : count ≤ 2 ^ (level - 1) = omega (arith, fits, is_half) in
    subst (λ (l : ℕ). r ≡ found_at l base count shown digests) (next level some)
    (is ∙ ap (λ (s : List Shown). found_at (level - 1) base count s digests) are
    ∙ sym (found_skip (level - 1) base count first rest digests fits_power)
    ∙ ap (λ (s : List Shown). found_at (suc (level - 1)) base count s digests) (sym are))

-- what is found in both halves, by what was found in the first
pub found_halves : (r one : Option Found) (level half n base count : ℕ) (shown : List Shown) (first : Shown) (rest before behind : List Shown) (digests : List (List ℕ))
    → (level ≡ 0 → ⊥) → half ≡ 2 ^ (level - 1) → shown ≡ first ∷ rest → half < count
    → n ≡ count_before (base + half) (places_of shown) → before ≡ take n shown → behind ≡ drop n shown
    → one ≡ found_at (level - 1) base half before digests
    → r ≡ both one (λ left. found_at (level - 1) (base + half) (count - half) behind left)
    → r ≡ found_at level base count shown digests
found_halves r one level half n base count shown first rest before behind digests some is_half are more is_n is_before is_behind is_one is =
    let more_power : 2 ^ (level - 1) < count = omega (arith, more, is_half) in
    let shown_now = first ∷ rest in
    let number : n ≡ count_before (base + 2 ^ (level - 1)) (places_of shown_now)
    = is_n ∙ ap (λ (h : ℕ). count_before (base + h) (places_of shown)) is_half ∙ ap (λ (s : List Shown). count_before (base + 2 ^ (level - 1)) (places_of s)) are in
    let before_is : before ≡ take (count_before (base + 2 ^ (level - 1)) (places_of shown_now)) shown_now
    = is_before ∙ ap (λ (m : ℕ). take m shown) number ∙ ap (λ (s : List Shown). take (count_before (base + 2 ^ (level - 1)) (places_of shown_now)) s) are in
    let behind_is : behind ≡ drop (count_before (base + 2 ^ (level - 1)) (places_of shown_now)) shown_now
    = is_behind ∙ ap (λ (m : ℕ). drop m shown) number ∙ ap (λ (s : List Shown). drop (count_before (base + 2 ^ (level - 1)) (places_of shown_now)) s) are in
    let one_is : one ≡ found_at (level - 1) base (2 ^ (level - 1)) (take (count_before (base + 2 ^ (level - 1)) (places_of shown_now)) shown_now) digests
    = is_one ∙ ap (λ (h : ℕ). found_at (level - 1) base h before digests) is_half ∙ ap (λ (s : List Shown). found_at (level - 1) base (2 ^ (level - 1)) s digests) before_is in
    subst (λ (l : ℕ). r ≡ found_at l base count shown digests) (next level some)
    (is ∙ ap (λ (o : Option Found). both o (λ left. found_at (level - 1) (base + half) (count - half) behind left)) one_is
    ∙ ap (λ (h : ℕ). both (found_at (level - 1) base (2 ^ (level - 1)) (take (count_before (base + 2 ^ (level - 1)) (places_of shown_now)) shown_now) digests) (λ left. found_at (level - 1) (base + h) (count - h) behind left)) is_half
    ∙ ap (λ (s : List Shown). both (found_at (level - 1) base (2 ^ (level - 1)) (take (count_before (base + 2 ^ (level - 1)) (places_of shown_now)) shown_now) digests) (λ left. found_at (level - 1) (base + 2 ^ (level - 1)) (count - 2 ^ (level - 1)) s left)) behind_is
    ∙ sym (found_split (level - 1) base count first rest digests more_power)
    ∙ ap (λ (s : List Shown). found_at (suc (level - 1)) base count s digests) (sym are))

-- what both parts give, by what was found in each
pub nothing_first : (r one : Option Part) (two : List (List ℕ) → Option Found) → r ≡ None → one ≡ None
    → option_map found_in r ≡ both (option_map found_in one) two
nothing_first None None two none first = refl
nothing_first (Some x) one two none first = absurd (cc)
nothing_first None (Some y) two none first = absurd (cc)

pub nothing_second : (r one second : Option Part) (first : Part) (two : List (List ℕ) → Option Found) → r ≡ None → one ≡ Some first → second ≡ None
    → option_map found_in second ≡ two first.left.now → option_map found_in r ≡ both (option_map found_in one) two
nothing_second r one second first two none is no_second e =
    ap (λ (o : Option Part). option_map found_in o) none
    ∙ ap (λ (o : Option Found). option_map (joined (found_in first)) o) (sym (ap (λ (o : Option Part). option_map found_in o) no_second) ∙ e)
    ∙ sym (ap (λ (o : Option Part). both (option_map found_in o) two) is)

pub both_found : (one second : Option Part) (first other : Part) (d : List ℕ) (two : List (List ℕ) → Option Found) → one ≡ Some first → second ≡ Some other
    → option_map found_in second ≡ two first.left.now → d ≡ node_digest first.root other.root
    → Some (record { root = d; left = other.left.now }) ≡ both (option_map found_in one) two
both_found one second first other d two is is_second e digest =
    ap (λ (x : List ℕ). Some (record { root = x; left = other.left.now })) digest
    ∙ ap (λ (o : Option Found). option_map (joined (found_in first)) o) (sym (ap (λ (o : Option Part). option_map found_in o) is_second) ∙ e)
    ∙ sym (ap (λ (o : Option Part). both (option_map found_in o) two) is)

pub on_ok_with : {A B : Type 0} (r : Result A B) (P Q : Type 0) → (P → Q) → OnOk r P → OnOk r Q
on_ok_with (Ok x) P Q f p = f p
on_ok_with (Err x) P Q f p = tt

-- the messages of a check, in the same way
pub checked_skip : (level base count : ℕ) (first : Shown) (rest : List Shown) (digests : List (List ℕ)) → count ≤ 2 ^ level
    → checked_at (suc level) base count (first ∷ rest) digests ≡ checked_at level base count (first ∷ rest) digests
unfolding checked_at
checked_skip level base count first rest digests fits = cond-true _ _ _ (le-leb count (2 ^ level) fits)

pub checked_split : (level base count : ℕ) (first : Shown) (rest : List Shown) (digests : List (List ℕ)) (one two : Found) → 2 ^ level < count
    → found_at level base (2 ^ level) (take (count_before (base + 2 ^ level) (places_of (first ∷ rest))) (first ∷ rest)) digests ≡ Some one
    → found_at level (base + 2 ^ level) (count - 2 ^ level) (drop (count_before (base + 2 ^ level) (places_of (first ∷ rest))) (first ∷ rest)) one.left ≡ Some two
    → checked_at (suc level) base count (first ∷ rest) digests
    ≡ checked_at level base (2 ^ level) (take (count_before (base + 2 ^ level) (places_of (first ∷ rest))) (first ∷ rest)) digests
    ++ ((1 ∷ (one.root ++ two.root))
    ∷ checked_at level (base + 2 ^ level) (count - 2 ^ level) (drop (count_before (base + 2 ^ level) (places_of (first ∷ rest))) (first ∷ rest)) one.left)
unfolding checked_at
checked_split level base count first rest digests one two more is_one is_two =
    let n = count_before (base + 2 ^ level) (places_of (first ∷ rest)) in
    let before = take n (first ∷ rest) in
    let behind = drop n (first ∷ rest) in
    cond-false _ _ _ (lt-leb count (2 ^ level) more)
    ∙ ap (λ (o : Option Found). checked_at level base (2 ^ level) before digests
    ++ option_map_or (λ (one : Found). node_over one (found_at level (base + 2 ^ level) (count - 2 ^ level) behind one.left) ++ checked_at level (base + 2 ^ level) (count - 2 ^ level) behind one.left) o []) is_one
    ∙ ap (λ (o : Option Found). checked_at level base (2 ^ level) before digests ++ (node_over one o ++ checked_at level (base + 2 ^ level) (count - 2 ^ level) behind one.left)) is_two
