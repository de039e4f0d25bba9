-- What is known and computed where a level's sires are gone through. l is the limit of depths.
use Rattle.std.specs.Prelude.{◌≡◌, ℕ, ◌+◌, ◌/◌, ◌<◌, List, count_by, length, min, nat_lt, slice_index, sum_by}
use Rattle.std.specs.Int.{div_ceil}
use Rattle.std.specs.List.{range_with_len}
use Rattle.herd_lineage.specs.declared.lineage.Parents.{Parents}
use Rattle.herd_lineage.specs.Lineage.{level_of}
use Rattle.herd_kinship.specs.CalfCoefficients.{AreCalvesWith}
use Rattle.herd_kinship.specs.CalfLinks.{AreCalvesOf, calf_count}
use Rattle.herd_kinship.specs.Coefficients.{IsLessDeep, KnowsReached, coefficient_at}
use Rattle.herd_kinship.specs.declared.calves.CalfCoefficient.{CalfCoefficient}
use Rattle.herd_kinship.specs.declared.calves.Calves.{Calves}
use Rattle.herd_pool.specs.Levels.{block_of}
use Rattle.herd_pool.specs.declared.limits.TheConstants.{CALVES_FOR_A_WORKER}

-- The numerators of a lineage on the way: there is one for each animal, and the calves of all sires of less depth
-- have their coefficient
pub record KnowsCalvesBelow {C : Type 0}
    (l : ℕ) (rows : List Parents) (calves : Calves C) (known : List ℕ) (depth : ℕ) : Type 0 where
  pub linked : AreCalvesOf rows calves
  pub reached : KnowsReached l rows (IsLessDeep rows depth) known

-- the rank is one of the first n of these
abbrev pub IsAmong : List ℕ → ℕ → ℕ → Type 0
IsAmong ranks n rank = (k : ℕ) × (k < n) × (slice_index ranks k ≡ rank)

-- these are all calves of the first n of these sires, each with its coefficient
abbrev pub AreCalvesAmong : ℕ → List Parents → List ℕ → ℕ → List CalfCoefficient → Type 0
AreCalvesAmong l rows ranks n calves = AreCalvesWith rows (IsAmong ranks n) (coefficient_at l rows) calves

-- these are all calves of the sires of a block, each with its coefficient
abbrev pub HasCalvesOf : ℕ → List Parents → ℕ → ℕ → ℕ → List CalfCoefficient → Type 0
HasCalvesOf l rows depth len number calves =
    let ranks = block_of len number (level_of depth rows) in AreCalvesAmong l rows ranks (length ranks) calves

-- how many calves the sires of a block have
abbrev pub calves_of : List Parents → ℕ → ℕ → ℕ → ℕ
calves_of rows depth len number = sum_by (calf_count rows) (block_of len number (level_of depth rows))

-- of the first n blocks of a level: how many have a sire with calves, and how many calves their sires have
abbrev pub busy_among : List Parents → ℕ → ℕ → ℕ → ℕ
busy_among rows depth len n = count_by (λ number. nat_lt 0 (calves_of rows depth len number)) (range_with_len 0 n)

abbrev pub calves_among : List Parents → ℕ → ℕ → ℕ → ℕ
calves_among rows depth len n = sum_by (calves_of rows depth len) (range_with_len 0 n)

-- How many of these workers the first blocks of a level are worth: at most one for each block in which a sire has
-- calves, and at most one more than their calves divided by CALVES_FOR_A_WORKER
abbrev pub worth_of : List Parents → ℕ → ℕ → ℕ → ℕ → ℕ
worth_of rows depth len blocks workers =
    min (min workers (busy_among rows depth len blocks)) (1 + calves_among rows depth len blocks / CALVES_FOR_A_WORKER)

-- some level is worth more than one of these workers
abbrev pub HasLevelToShare : List Parents → ℕ → ℕ → Type 0
HasLevelToShare rows len workers =
    (depth : ℕ) × (1 < worth_of rows depth len (div_ceil (length (level_of depth rows)) len) workers)
