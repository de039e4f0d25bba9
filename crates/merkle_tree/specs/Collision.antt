-- Two messages with one digest, and which messages are meant.
use Rattle.std.specs.Prelude.{◌≡◌, ◌≢◌, ◌⊎◌, ℕ, zero, suc, ◌+◌, ◌-◌, ◌^◌, List, [], ◌∷◌, ◌++◌, length, take, drop, nat_le, if◌then◌else◌, Option}
use Rattle.std.specs.List.{All, Contains}
use Rattle.std.specs.Option.{option_map_or, option_map, option_to_list}
use Rattle.sha2.specs.Sha256.{sha256}
use Rattle.merkle_tree.specs.Tree.{IsBytes, IsDigest, tree_at, tree_root}
use Rattle.merkle_tree.specs.Shown.{Found, StandsIn, count_before, found_at, places_of}
use Rattle.merkle_tree.specs.declared.shown.Shown.{Shown}

-- Two messages of bytes that differ and have one digest, the first among these and the second among those. It must say
-- among which: that there is a collision somewhere is a theorem, since there are more messages than digests, so that
-- "or a collision" alone would say nothing. And bytes, since `sha256` reads 256 as it reads the bytes 1, 0.
pub record Collision (these those : List (List ℕ)) : Type 0 where
  pub first : List ℕ
  pub second : List ℕ
  pub first_in : Contains these first
  pub second_in : Contains those second
  pub first_bytes : IsBytes first
  pub second_bytes : IsBytes second
  pub different : first ≢ second
  pub same_digest : sha256 first ≡ sha256 second

-- the messages of which a tree's nodes are the digests
unfoldable pub nodes_at : ℕ → List (List ℕ) → List (List ℕ)
nodes_at zero leaves = []
nodes_at (suc level) leaves =
    if nat_le (length leaves) (2 ^ level) then nodes_at level leaves
    else ((1 ∷ (tree_at level (take (2 ^ level) leaves) ++ tree_at level (drop (2 ^ level) leaves)))
    ∷ (nodes_at level (take (2 ^ level) leaves) ++ nodes_at level (drop (2 ^ level) leaves)))

-- a node's message, of the roots of two parts
abbrev pub node_over : Found → Option Found → List (List ℕ)
node_over one two = option_to_list (option_map (λ (found : Found). 1 ∷ (one.root ++ found.root)) two)

-- the messages of which `found` takes digests
unfoldable pub checked_at : ℕ → ℕ → ℕ → List Shown → List (List ℕ) → List (List ℕ)
checked_at zero base count shown digests = []
checked_at (suc level) base count [] digests = []
checked_at (suc level) base count (first ∷ rest) digests =
    if nat_le count (2 ^ level) then checked_at level base count (first ∷ rest) digests
    else (checked_at level base (2 ^ level) (take (count_before (base + 2 ^ level) (places_of (first ∷ rest))) (first ∷ rest)) digests
    ++ option_map_or (λ (one : Found).
    node_over one (found_at level (base + 2 ^ level) (count - 2 ^ level)
    (drop (count_before (base + 2 ^ level) (places_of (first ∷ rest))) (first ∷ rest)) one.left)
    ++ checked_at level (base + 2 ^ level) (count - 2 ^ level)
    (drop (count_before (base + 2 ^ level) (places_of (first ∷ rest))) (first ∷ rest)) one.left)
    (found_at level base (2 ^ level) (take (count_before (base + 2 ^ level) (places_of (first ∷ rest))) (first ∷ rest)) digests) [])

-- the same of whole trees
unfoldable pub nodes_of : List (List ℕ) → List (List ℕ)
nodes_of leaves = nodes_at 64 leaves

unfoldable pub checked_of : ℕ → List Shown → List (List ℕ) → List (List ℕ)
checked_of count shown digests = checked_at 64 0 count shown digests

-- What a root is good for that was found: in each tree of so many leaves with this root the leaves that are shown stand
-- at their places, or a message of the check and one of the tree collide.
unfoldable pub ShowsLeaves : ℕ → List Shown → List (List ℕ) → List ℕ → Type 0
ShowsLeaves count shown digests root =
    (leaves : List (List ℕ)) → All IsDigest leaves → length leaves ≡ count → tree_root leaves ≡ root
    → All (StandsIn 0 leaves) shown ⊎ Collision (checked_of count shown digests) (nodes_of leaves)
