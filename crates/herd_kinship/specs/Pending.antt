-- A set of distances, as bits.
use Rattle.std.specs.Prelude.{◌≡◌, ℕ, ◌/◌, ◌%◌, ◌<◌, List, length, slice_index}
use Rattle.std.specs.Int.{bit_at}

-- 1 where the distance is in the set, and 0 where it isn't
abbrev pub mark : List ℕ → ℕ → ℕ
mark chunks distance = bit_at (slice_index chunks (distance / 64)) (distance % 64)

-- the set with the mark of one distance written
pub record Marks (old new : List ℕ) (distance written : ℕ) : Type 0 where
  pub room : length new ≡ length old
  pub here : mark new distance ≡ written
  pub others : (other : ℕ) → (other ≡ distance → ⊥) → mark new other ≡ mark old other

-- k is the place of the lowest bit of a chunk, and new is the chunk without it
pub record IsCleared (chunk new k : ℕ) : Type 0 where
  pub small : k < 64
  pub was : bit_at chunk k ≡ 1
  pub lower : (i : ℕ) → i < k → bit_at chunk i ≡ 0
  pub here : bit_at new k ≡ 0
  pub others : (i : ℕ) → i < 64 → (i ≡ k → ⊥) → bit_at new i ≡ bit_at chunk i
