-- An index of numbers by buckets, which are followed from the last rank to the first.
use Rattle.std.specs.Prelude.{◌≡◌, ℕ, ◌+◌, ◌<◌, ◌≤◌, ◌*◌, ◌/◌, ◌%◌, ◌^◌, List, length, slice_get, slice_index, Some}
use Rattle.herd_animal.specs.Pieces.{piece}
use Rattle.herd_frozen.specs.declared.freezing.frozen.Row.{Row}
use Rattle.herd_frozen.specs.declared.freezing.number_index.NumberIndex.{NumberIndex}
use Rattle.herd_frozen.specs.declared.freezing.number_index.TheConstants.{MULTIPLIER}
use Rattle.herd_frozen.specs.freezing.Frozen.{numbers_of}

-- a hash with one more piece
abbrev pub mixed : ℕ → ℕ → ℕ
mixed hash piece = (hash + piece) % 2 ^ 64 * MULTIPLIER % 2 ^ 64

-- the hash of a number: of its first eight characters, the next eight and the last eight
unfoldable pub hash_of : List ℕ → ℕ
hash_of number = mixed (mixed (mixed 0 (piece 0 number)) (piece 8 number)) (piece 11 number)

-- its bucket, of so many: as far among them as the hash is among all 2^64
unfoldable pub bucket_of : ℕ → List ℕ → ℕ
bucket_of count number = hash_of number * count / 2 ^ 64

-- one more than the last rank of a bucket before the bound, and 0 where it has none
pub record IsAfterLast (numbers : List (List ℕ)) (count bound bucket after : ℕ) : Type 0 where
  pub within : after ≤ bound
  pub here : (rank : ℕ) (number : List ℕ) → after ≡ rank + 1 → slice_get numbers rank ≡ Some number
      → bucket_of count number ≡ bucket
  pub last : (rank : ℕ) (number : List ℕ) → rank < bound → slice_get numbers rank ≡ Some number
      → bucket_of count number ≡ bucket → rank < after

-- the first n numbers stand in the buckets
pub record AreBucketed (numbers : List (List ℕ)) (n : ℕ) (lasts earlier : List ℕ) : Type 0 where
  pub wide : length lasts ≡ length numbers + 1
  pub long : length earlier ≡ n
  pub lasts_are : (bucket : ℕ) → bucket < length numbers + 1
      → IsAfterLast numbers (length numbers + 1) n bucket (slice_index lasts bucket)
  pub earlier_are : (rank : ℕ) (number : List ℕ) → rank < n → slice_get numbers rank ≡ Some number
      → IsAfterLast numbers (length numbers + 1) rank (bucket_of (length numbers + 1) number) (slice_index earlier rank)

-- all numbers of the rows stand in the buckets of the index
abbrev pub IsIndexOf : {A : Type 0} → List Row → NumberIndex A → Type 0
IsIndexOf rows index = AreBucketed (numbers_of rows) (length rows) index.lasts.items index.earlier.items
