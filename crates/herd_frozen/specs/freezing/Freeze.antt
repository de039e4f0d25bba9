-- What stands between a book and its frozen rows.
use Rattle.std.specs.Prelude.{◌≡◌, ℕ, ◌+◌, List, map, length, slice_get, Option, Some, None, IsSorted, IsPermutation}
use Rattle.std.specs.declared.cmp.Ordering.{Ordering}
use Rattle.std.specs.Cmp.Lexicographic.{slice_cmp}
use Rattle.std.specs.List.{enumerate_from}
use Rattle.std.specs.Option.{option_and_then}
use Rattle.std.specs.Ordering.{int_cmp, nat_cmp, ordering_then}
use Rattle.herd_frozen.specs.declared.rules.animal.Animal.{Animal}
use Rattle.herd_frozen.specs.declared.freezing.age_order.AgeKey.{AgeKey}
use Rattle.herd_frozen.specs.declared.freezing.frozen.Row.{Row}
use Rattle.herd_frozen.specs.declared.places.links.Link.{Link}
use Rattle.herd_frozen.specs.rules.Book.{Book, IsDepthOf}
use Rattle.herd_frozen.specs.rules.Lawful.{IsLawful}
use Rattle.herd_frozen.specs.rules.Paths.{Parentage, IsDepth}
use Rattle.herd_frozen.specs.places.Places.{IsIndexIn}

-- a record with its place of registration, by what its age is compared by
abbrev pub age_key : ℕ × (List ℕ × Animal) → AgeKey
age_key entry = record { birth = entry.1.1.birth; number = entry.1.0; place = entry.0 }

-- by birth days, and on the same day by numbers; two records never differ by their places alone
abbrev pub key_cmp : AgeKey → AgeKey → Ordering
key_cmp x y =
    ordering_then (int_cmp x.birth y.birth)
    (ordering_then (slice_cmp nat_cmp x.number y.number) (nat_cmp x.place y.place))

-- the keys are those of the book's records, in age order
pub record IsAgeOrder (book : Book) (keys : List AgeKey) : Type 0 where
  pub same : IsPermutation (map age_key (enumerate_from 0 book)) keys
  pub sorted : IsSorted key_cmp keys

-- the places of registration, in age order
abbrev pub places_of : List AgeKey → List ℕ
places_of keys = map (λ key. key.place) keys

-- the rank of each place of registration is where it stands in age order
pub record AreRanks (keys : List AgeKey) (ranks : List ℕ) : Type 0 where
  pub long : length ranks ≡ length keys
  pub each : (place rank : ℕ) → slice_get ranks place ≡ Some rank → slice_get (places_of keys) rank ≡ Some place

-- a lawful book with its keys in age order and their ranks
pub record IsRanked (l most : ℕ) (book : Book) (keys : List AgeKey) (ranks : List ℕ) : Type 0 where
  pub lawful : IsLawful l most book
  pub ordered : IsAgeOrder book keys
  pub ranked : AreRanks keys ranks

-- one more than the depth of a known parent, and 0 for an unknown one
abbrev pub IsAbove : {A : Type 0} → Parentage A → Option A → ℕ → Type 0
IsAbove parentage None above = above ≡ 0
IsAbove parentage (Some p) above = (depth : ℕ) × IsDepth parentage p depth × (above ≡ depth + 1)

-- the row of a key
pub record IsRowOf (book : Book) (keys : List AgeKey) (key : AgeKey) (row : Row) : Type 0 where
  pub number : row.number ≡ key.number
  pub entry : slice_get book key.place ≡ Some (row.number, row.animal)
  pub sire : IsIndexIn (map (λ k. k.number) keys) row.sire row.animal.sire
  pub dam : IsIndexIn (map (λ k. k.number) keys) row.dam row.animal.dam
  pub depth : IsDepthOf book row.number row.depth

-- each row is that of its key
abbrev pub AreRows : Book → List AgeKey → List Row → Type 0
AreRows book keys rows =
    (rank : ℕ) (key : AgeKey) (row : Row) → slice_get keys rank ≡ Some key → slice_get rows rank ≡ Some row →
    IsRowOf book keys key row

-- what is found under each number is its place
abbrev pub FindsPlaces : List (List ℕ) → (List ℕ → Option ℕ) → Type 0
FindsPlaces numbers find =
    (place : ℕ) (number : List ℕ) → slice_get numbers place ≡ Some number → find number ≡ Some place

-- the places that are found for the known parents
abbrev pub link_by : (List ℕ → Option ℕ) → Animal → Link
link_by find animal = record { sire = option_and_then find animal.sire; dam = option_and_then find animal.dam }
