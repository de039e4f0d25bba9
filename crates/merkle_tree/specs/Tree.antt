-- The Merkle tree over the digests of some rows (RFC 6962, 2.1). A row is a list of bytes, a digest one of 32 bytes.
use Rattle.std.specs.Prelude.{◌≡◌, ℕ, zero, suc, ◌<◌, ◌^◌, List, [], ◌∷◌, ◌++◌, length, map, take, drop, nat_le, if◌then◌else◌}
use Rattle.std.specs.List.{All}
use Rattle.sha2.specs.Sha256.{sha256}

-- each number is a byte
abbrev pub IsBytes : List ℕ → Type 0
IsBytes bytes = All (λ b. b < 256) bytes

-- 32 bytes
abbrev pub IsDigest : List ℕ → Type 0
IsDigest digest = IsBytes digest × (length digest ≡ 32)

-- the digest of a row, and of a node above two digests
abbrev pub row_digest : List ℕ → List ℕ
row_digest row = sha256 (0 ∷ row)

abbrev pub node_digest : List ℕ → List ℕ → List ℕ
node_digest left right = sha256 (1 ∷ (left ++ right))

-- the digests of some rows
abbrev pub digests_of : List (List ℕ) → List (List ℕ)
digests_of rows = map row_digest rows

-- The root of a tree of at most 2 ^ level leaves. Where the leaves are more than half as many, half of 2 ^ level is the
-- largest power of two below their number, and the tree splits there.
unfoldable pub tree_at : ℕ → List (List ℕ) → List ℕ
tree_at zero [] = sha256 []
tree_at zero (leaf ∷ _) = leaf
tree_at (suc level) leaves =
    if nat_le (length leaves) (2 ^ level) then tree_at level leaves
    else node_digest (tree_at level (take (2 ^ level) leaves)) (tree_at level (drop (2 ^ level) leaves))

-- the root of a tree of fewer than 2 ^ 64 leaves
unfoldable pub tree_root : List (List ℕ) → List ℕ
tree_root leaves = tree_at 64 leaves
