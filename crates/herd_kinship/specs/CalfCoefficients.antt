-- The calves of some sires and of known dams, each by its rank with a numerator.
use Rattle.std.specs.Prelude.{◌≡◌, ◌≢◌, ℕ, ◌/◌, ◌⊎◌, ◌++◌, All, AllPairs, Any, List, slice_index}
use Rattle.herd_lineage.specs.declared.lineage.Parents.{Parents}
use Rattle.herd_lineage.specs.Lineage.{dam_rank}
use Rattle.herd_kinship.specs.CalfLinks.{IsCalf}
use Rattle.herd_kinship.specs.Columns.{at_parent}
use Rattle.herd_kinship.specs.declared.calves.CalfCoefficient.{CalfCoefficient}

-- a calf with half the number that its dam has in the column, and 0 where the dam is unknown
abbrev pub with_half : List Parents → List ℕ → ℕ → CalfCoefficient
with_half rows column calf = record { rank = calf; numerator = at_parent column (dam_rank rows calf) / 2 }

-- a calf of one of these sires, with f of its rank
pub record IsCalfWith (rows : List Parents) (sires : ℕ → Type 0) (f : ℕ → ℕ) (calf : CalfCoefficient) : Type 0 where
  pub sire : ℕ
  pub of_these : sires sire
  pub is_calf : IsCalf rows sire calf.rank
  pub value : calf.numerator ≡ f calf.rank

-- all calves of these sires, each once and with f of its rank
pub record AreCalvesWith
    (rows : List Parents) (sires : ℕ → Type 0) (f : ℕ → ℕ) (calves : List CalfCoefficient) : Type 0 where
  pub each : All (IsCalfWith rows sires f) calves
  pub once : AllPairs (λ calf later. calf.rank ≢ later.rank) calves
  pub all : (s x : ℕ) → sires s → IsCalf rows s x → Any (λ calf. calf.rank ≡ x) calves

-- the list goes on with all calves of these sires, each once and with f of its rank
pub record GoesOnWith (rows : List Parents) (sires : ℕ → Type 0) (f : ℕ → ℕ) (old new : List CalfCoefficient) : Type 0 where
  pub more : List CalfCoefficient
  pub appended : new ≡ old ++ more
  pub calves : AreCalvesWith rows sires f more

-- each calf comes with f of its rank
abbrev pub HaveValues : (ℕ → ℕ) → List CalfCoefficient → Type 0
HaveValues f calves = All (λ calf. calf.numerator ≡ f calf.rank) calves

-- each rank has the number that it had, or f of the rank
abbrev pub Keeps : (ℕ → ℕ) → List ℕ → List ℕ → Type 0
Keeps f old new = (rank : ℕ) → (slice_index new rank ≡ slice_index old rank) ⊎ (slice_index new rank ≡ f rank)

-- at each calf's rank stands f of it
abbrev pub AreWritten : (ℕ → ℕ) → List ℕ → List CalfCoefficient → Type 0
AreWritten f known calves = All (λ calf. slice_index known calf.rank ≡ f calf.rank) calves

-- at these calves' ranks stands f, and nothing but f was written
pub record HasWritten (f : ℕ → ℕ) (calves : List CalfCoefficient) (old new : List ℕ) : Type 0 where
  pub kept : Keeps f old new
  pub written : AreWritten f new calves
