-- The numerator relationship matrix of a lineage's last animals so far, in unit 2^-2l, by ranks.
use Rattle.std.specs.Prelude.{◌≡◌, ℕ, ◌+◌, ◌*◌, ◌%◌, ◌^◌, ◌<◌, ◌≤◌, All, List, length, slice_index, Option, Some}
use Rattle.std.specs.Option.{option_map_or}
use Rattle.herd_lineage.specs.declared.lineage.Parents.{Parents}
use Rattle.herd_kinship.specs.Ancestry.{IsParentIn}
use Rattle.herd_kinship.specs.Coefficients.{coefficient_at}
use Rattle.herd_kinship.specs.Ranks.{ranked}
use Rattle.herd_kinship.specs.Table.{entry}

-- what contracts see of a window
pub record Window : Type 0 where
  pub lineage : List Parents
  pub places : ℕ
  pub entries : List ℕ
  pub coefficients : List ℕ

-- each animal and its known parents stand within so many successive ones
abbrev pub HasParentsWithin : List Parents → ℕ → Type 0
HasParentsWithin lineage span =
    (rank parent : ℕ) → rank < length lineage → IsParentIn (ranked lineage) parent rank → rank < parent + span

-- one of the last so many of these animals
pub record IsLast (places animals x : ℕ) : Type 0 where
  pub before : x < animals
  pub near : animals ≤ x + places

-- the entry at two places, in the row of the first
abbrev pub at : ℕ → List ℕ → ℕ → ℕ → ℕ
at places entries x y = slice_index entries (x * places + y)

-- the entry of a parent at a place, 0 where it is unknown
abbrev pub with_parent : ℕ → List ℕ → Option ℕ → ℕ → ℕ
with_parent places entries parent y = option_map_or (λ p. at places entries p y) parent 0

-- each animal so far has its coefficient, and each two of the last ones their entry, at the remainders of their ranks
pub record IsWindow (l : ℕ) (window : Window) : Type 0 where
  pub few : length window.coefficients ≤ length window.lineage
  pub some : 0 < window.places
  pub long : length window.entries ≡ window.places * window.places
  pub small : All (λ e. e < 2 ^ (2 * l + 1)) window.entries
  pub coefficients_are : (rank : ℕ) → rank < length window.coefficients
      → slice_index window.coefficients rank ≡ coefficient_at l window.lineage rank
  pub entries_are : (x y : ℕ) → IsLast window.places (length window.coefficients) x
      → IsLast window.places (length window.coefficients) y
      → at window.places window.entries (x % window.places) (y % window.places)
      ≡ entry (ranked window.lineage) (2 * l) (Some x) (Some y)

-- a window of these parts
abbrev pub window_of : List Parents → ℕ → List ℕ → List ℕ → Window
window_of lineage places entries coefficients =
    record { lineage = lineage; places = places; entries = entries; coefficients = coefficients }
