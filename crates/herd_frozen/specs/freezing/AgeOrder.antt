-- Animals by their birth days, and the keys of a day.
use Rattle.std.specs.Prelude.{◌≡◌, ◌≢◌, ℕ, ◌+◌, ◌<◌, ◌≤◌, List, [], length, map, slice_index_or, IsPermutation}
use Rattle.std.specs.List.{enumerate_from}
use Rattle.std.specs.List.Sorted.{IsSortedBy}
use Rattle.std.specs.Map.{keys_of}
use Rattle.std.specs.Ordering.{int_cmp, is_lt}
use Rattle.herd_frozen.specs.declared.freezing.age_order.AgeKey.{AgeKey}
use Rattle.herd_frozen.specs.declared.freezing.age_order.Born.{Born}
use Rattle.herd_frozen.specs.rules.Book.{Book}
use Rattle.herd_frozen.specs.freezing.Freeze.{age_key}

-- the key of an animal of these numbers
abbrev pub key_of : List (List ℕ) → Born → AgeKey
key_of numbers born = record { birth = born.birth; number = slice_index_or numbers born.place []; place = born.place }

-- the animals are those of the book, sorted by their birth days
pub record AreByDay (book : Book) (births : List Born) : Type 0 where
  pub same : IsPermutation (map age_key (enumerate_from 0 book)) (map (key_of (keys_of book)) births)
  pub sorted : IsSortedBy (λ (x y : Born). is_lt (int_cmp x.birth y.birth)) births

-- the birth day of the key at a place ends there
pub record IsDayEnd (keys : List AgeKey) (from end : ℕ) : Type 0 where
  pub later : from < end
  pub within : end ≤ length keys
  pub same : (i : ℕ) (d e : AgeKey) → from ≤ i → i < end → (slice_index_or keys i d).birth ≡ (slice_index_or keys from e).birth
  pub apart : (i : ℕ) (d : AgeKey) → i + 1 ≡ end → end < length keys
      → (slice_index_or keys (i + 1) d).birth ≢ (slice_index_or keys i d).birth
