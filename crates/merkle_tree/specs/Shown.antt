-- Some leaves of a tree that are shown, the digests that stand for all the others, and the root that these give.
use Rattle.std.specs.Prelude.{◌≡◌, ℕ, zero, suc, ◌+◌, ◌-◌, ◌^◌, ◌≤◌, List, [], ◌∷◌, ◌++◌, length, map, take, drop, nat_le, nat_lt, nat_eq, if◌then◌else◌, slice_get, Option, None, Some, unwrap_or, ⊤, ◌<◌}
use Rattle.std.specs.List.{All, prefix_len}
use Rattle.std.specs.Option.{option_map, option_and_then}
use Rattle.merkle_tree.specs.Tree.{IsDigest, node_digest, tree_at}
use Rattle.merkle_tree.specs.declared.shown.Shown.{Shown}
use Rattle.merkle_tree.specs.declared.shown.Part.{Part}

-- how many of some ascending places are before a place
abbrev pub count_before : ℕ → List ℕ → ℕ
count_before end places = prefix_len (λ place. nat_lt place end) places

abbrev pub places_of : List Shown → List ℕ
places_of shown = map (λ s. s.place) shown

-- The digests of the largest subtrees that have none of some ascending places, in the tree's order. The leaves stand
-- from the place base on.
unfoldable pub beside_at : ℕ → ℕ → List (List ℕ) → List ℕ → List (List ℕ)
beside_at zero base leaves [] = tree_at zero leaves ∷ []
beside_at zero base leaves (_ ∷ _) = []
beside_at (suc level) base leaves [] = tree_at (suc level) leaves ∷ []
beside_at (suc level) base leaves (first ∷ rest) =
    if nat_le (length leaves) (2 ^ level) then beside_at level base leaves (first ∷ rest)
    else (beside_at level base (take (2 ^ level) leaves)
    (take (count_before (base + 2 ^ level) (first ∷ rest)) (first ∷ rest))
    ++ beside_at level (base + 2 ^ level) (drop (2 ^ level) leaves)
    (drop (count_before (base + 2 ^ level) (first ∷ rest)) (first ∷ rest)))

unfoldable pub beside : List (List ℕ) → List ℕ → List (List ℕ)
beside leaves places = beside_at 64 0 leaves places

-- the root of a part of the tree, and the digests that are left for the parts behind it
pub record Found : Type 0 where
  pub root : List ℕ
  pub left : List (List ℕ)

abbrev pub found_in : Part → Found
found_in part = record { root = part.root; left = part.left.now }

-- the first digest, as the root of a part of which no leaf is shown
abbrev pub first_of : List (List ℕ) → Option Found
first_of [] = None
first_of (digest ∷ left) = Some (record { root = digest; left = left })

-- a leaf that is shown, and no other, at the place base
abbrev pub leaf_at : ℕ → Shown → List Shown → List (List ℕ) → Option Found
leaf_at base first [] digests = if nat_eq first.place base then Some (record { root = first.digest; left = digests }) else None
leaf_at base first (_ ∷ _) digests = None

abbrev pub joined : Found → Found → Found
joined one two = record { root = node_digest one.root two.root; left = two.left }

-- of two parts side by side
abbrev pub both : Option Found → (List (List ℕ) → Option Found) → Option Found
both one two = option_and_then (λ found. option_map (joined found) (two found.left)) one

-- The root of a part of count leaves from the place base on. Each part of which no leaf is shown takes the next digest.
unfoldable pub found_at : ℕ → ℕ → ℕ → List Shown → List (List ℕ) → Option Found
found_at zero base count [] digests = first_of digests
found_at zero base count (first ∷ rest) digests = leaf_at base first rest digests
found_at (suc level) base count [] digests = first_of digests
found_at (suc level) base count (first ∷ rest) digests =
    if nat_le count (2 ^ level) then found_at level base count (first ∷ rest) digests
    else both
    (found_at level base (2 ^ level) (take (count_before (base + 2 ^ level) (places_of (first ∷ rest))) (first ∷ rest)) digests)
    (λ left. found_at level (base + 2 ^ level) (count - 2 ^ level)
    (drop (count_before (base + 2 ^ level) (places_of (first ∷ rest))) (first ∷ rest)) left)

-- of the whole tree
unfoldable pub found : ℕ → List Shown → List (List ℕ) → Option Found
found count shown digests = found_at 64 0 count shown digests

-- the leaf stands at its place among these, which stand from base on
pub record StandsIn (base : ℕ) (leaves : List (List ℕ)) (s : Shown) : Type 0 where
  pub behind : base ≤ s.place
  pub there : slice_get leaves (s.place - base) ≡ Some s.digest

-- each of some places is before all behind it
unfoldable pub IsAscending : List ℕ → Type 0
IsAscending [] = ⊤
IsAscending (place ∷ behind) = All (λ later. place < later) behind × IsAscending behind

-- they lie from one place on and before another
abbrev pub LieWithin : ℕ → ℕ → List ℕ → Type 0
LieWithin low high places = All (λ place. (low ≤ place) × (place < high)) places

-- the leaves at some places
abbrev pub shown_at : List (List ℕ) → ℕ → Shown
shown_at leaves place = record { place = place; digest = unwrap_or (slice_get leaves place) [] }

abbrev pub shown_of : List (List ℕ) → List ℕ → List Shown
shown_of leaves places = map (shown_at leaves) places

abbrev pub AreDigests : List Shown → Type 0
AreDigests shown = All (λ s. IsDigest s.digest) shown
