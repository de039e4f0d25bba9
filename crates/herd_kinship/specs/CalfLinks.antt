-- The calves of each sire of which the dam is known too, linked from the youngest to the oldest. Animals are named
-- by their ranks.
use Rattle.std.specs.Prelude.{◌≡◌, ℕ, zero, suc, ◌<◌, ◌≤◌, Bool, false, ◌&&◌, cond, is_some, List, [], ◌∷◌, length, nat_eq, slice_index_or, Option, None, Some}
use Rattle.std.specs.Option.{option_map_or}
use Rattle.herd_lineage.specs.declared.lineage.Parents.{Parents}
use Rattle.herd_lineage.specs.declared.TheConstants.{DEPTH_LIMIT, MOST_ANIMALS}
use Rattle.herd_lineage.specs.Lineage.{IsLineage, dam_rank, sire_rank}
use Rattle.herd_kinship.specs.declared.calves.Calves.{Calves}

-- x is a calf of s and of a known dam
abbrev pub IsCalf : List Parents → ℕ → ℕ → Type 0
IsCalf rows s x = (sire_rank rows x ≡ Some s) × (d : ℕ) × (dam_rank rows x ≡ Some d)

-- whether x is a calf of s and of a known dam
abbrev pub is_calf : List Parents → ℕ → ℕ → Bool
is_calf rows s x = is_some (dam_rank rows x) && option_map_or (nat_eq s) (sire_rank rows x) false

-- the calves of s and of known dams below a border, from the youngest to the oldest
unfoldable pub calves_below : List Parents → ℕ → ℕ → List ℕ
calves_below rows s zero = []
calves_below rows s (suc x) = cond (is_calf rows s x) (x ∷ calves_below rows s x) (calves_below rows s x)

-- all calves of s and of known dams, from the youngest to the oldest
abbrev pub calves_of_sire : List Parents → ℕ → List ℕ
calves_of_sire rows s = calves_below rows s (length rows)

-- how many calves s has of known dams
abbrev pub calf_count : List Parents → ℕ → ℕ
calf_count rows s = length (calves_of_sire rows s)

-- the link leads to the youngest calf of s below a border, if there is one
pub record IsLink (rows : List Parents) (s border : ℕ) (link : Option ℕ) : Type 0 where
  pub calf : (y : ℕ) → link ≡ Some y → (y < border) × IsCalf rows s y
  pub youngest : (x : ℕ) → x < border → IsCalf rows s x → (y : ℕ) × (link ≡ Some y) × (x ≤ y)

-- each link leads to an older animal
abbrev pub LeadToOlder : List (Option ℕ) → Type 0
LeadToOlder earlier = (x y : ℕ) → slice_index_or earlier x None ≡ Some y → y < x

-- the calves from one on, as the links lead, at most so many
abbrev pub chain : List (Option ℕ) → ℕ → Option ℕ → List ℕ
chain earlier zero calf = []
chain earlier (suc n) None = []
chain earlier (suc n) (Some calf) = calf ∷ chain earlier n (slice_index_or earlier calf None)

-- the links among the calves of a lineage below a border
pub record AreLinked (rows : List Parents) (border : ℕ) (latest earlier : List (Option ℕ)) : Type 0 where
  pub lineage : IsLineage DEPTH_LIMIT MOST_ANIMALS rows
  pub each_sire : length latest ≡ length rows
  pub each_calf : length earlier ≡ length rows
  pub latest_is : (s : ℕ) → s < length rows → IsLink rows s border (slice_index_or latest s None)
  pub earlier_is : (s x : ℕ) → x < border → IsCalf rows s x → IsLink rows s x (slice_index_or earlier x None)
  pub older : LeadToOlder earlier

-- these are the links among all calves of a lineage
abbrev pub AreCalvesOf : {A : Type 0} → List Parents → Calves A → Type 0
AreCalvesOf rows calves = AreLinked rows (length rows) calves.latest.items calves.earlier.items
