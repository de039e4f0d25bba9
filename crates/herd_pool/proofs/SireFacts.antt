-- The calves of a level's sires: how they are collected, block by block, and what is known once they are written.
use Rattle.std.proofs.Common.{◌≡◌, ◌==◌, ℕ, ◌+◌, ◌<◌, ◌≤◌, List, [], length, get_or, slice_index, Vec, sym, ap, inl, inr, ◌∙◌, ⊎_elim, arith}
use Rattle.std.specs.Int.{div_ceil}
use Rattle.std.specs.List.{All, AllPairs, count_by}
use Rattle.std.proofs.lemmas.Bool.{cases_lt}
use Rattle.std.proofs.lemmas.List.Elements.{All-weaker}
use Rattle.herd_lineage.specs.declared.TheConstants.{DEPTH_LIMIT, MOST_ANIMALS}
use Rattle.herd_lineage.specs.declared.lineage.Parents.{Parents}
use Rattle.herd_lineage.specs.Lineage.{depth_at, level_of}
use Rattle.herd_kinship.specs.CalfCoefficients.{AreWritten, GoesOnWith, HaveValues, Keeps}
use Rattle.herd_kinship.specs.CalfLinks.{IsCalf}
use Rattle.herd_kinship.specs.Coefficients.{IsLessDeep, coefficient_at}
use Rattle.herd_kinship.specs.declared.calves.CalfCoefficient.{CalfCoefficient}
use Rattle.herd_kinship.specs.declared.calves.Calves.{Calves}
use Rattle.herd_kinship.proofs.lemmas.sires.BySires.{less_deep-next, reached-more}
use Rattle.herd_kinship.proofs.lemmas.sires.CalfFacts.{calf-within}
use Rattle.herd_kinship.proofs.lemmas.sires.CalfListFacts.{calves-more, calves-none, calves-values, calves-within, calves-written}
use Rattle.herd_kinship.proofs.lemmas.lineages.LineageFacts.{lineage-ranked}
use Rattle.herd_pool.specs.Blocks.{once_below}
use Rattle.herd_pool.specs.Levels.{block_of}
use Rattle.herd_pool.specs.Sires.{AreCalvesAmong, HasCalvesOf, IsAmong, KnowsCalvesBelow}
use Rattle.herd_pool.specs.Workers.{numbers}
use Rattle.herd_pool.specs.declared.work.ComputedBlock.{ComputedBlock}
use Rattle.herd_pool.proofs.Writes.{in_level}

-- before the first sire there are no calves
pub calves_at_first : (l : ℕ) (rows : List Parents) (ranks : List ℕ) → AreCalvesAmong l rows ranks 0 []
calves_at_first l rows ranks = calves-none rows (IsAmong ranks 0) (coefficient_at l rows) (λ s x is calf. absurd (omega (arith, is.1)))

-- the calves of one sire more
pub calves_further : (l : ℕ) (rows : List Parents) (ranks : List ℕ) (i : ℕ) (old new : List CalfCoefficient) → AllPairs (λ rank later. rank < later) ranks → i < length ranks → AreCalvesAmong l rows ranks i old → GoesOnWith rows (λ s. s ≡ slice_index ranks i) (coefficient_at l rows) old new → AreCalvesAmong l rows ranks (i + 1) new
calves_further l rows ranks i old new ascending within was on =
    calves-more rows (IsAmong ranks i) (λ s. s ≡ slice_index ranks i) (IsAmong ranks (i + 1)) (coefficient_at l rows) old new
    (λ s is. (is.0, omega (arith, is.1), is.2))
    (λ s e. (i, omega arith, sym e))
    (λ s is. ⊎_elim (λ (low : is.0 < i). inl (is.0, low, is.2)) (λ (at : i ≤ is.0). let below = is.1 in let here : is.0 ≡ i = omega arith in inr (sym is.2 ∙ ap (slice_index ranks) here)) (cases_lt is.0 i))
    (λ s before at. let lower : slice_index ranks before.0 < slice_index ranks i = ascending before.0 i 0 before.1 within in let is = before.2 in absurd (omega (arith, lower, is, at)))
    was on

-- the blocks of a level have ranks of the lineage
pub blocks_within : {A : Type 0} (l : ℕ) (rows : List Parents) (depth len : ℕ) (blocks : List (ComputedBlock (Vec CalfCoefficient A)))
    → All (λ block. HasCalvesOf l rows depth len block.number block.output.items) blocks
    → All (λ block. All (λ calf. calf.rank < length rows) block.output.items) blocks
blocks_within {A = A} l rows depth len blocks all =
    let Has : ComputedBlock (Vec CalfCoefficient A) → Type 0 = λ b. HasCalvesOf l rows depth len b.number b.output.items in
    let Within : ComputedBlock (Vec CalfCoefficient A) → Type 0 = λ b. All (λ calf. calf.rank < length rows) b.output.items in
    All-weaker Has Within
    (λ b has. let ranks = block_of len b.number (level_of depth rows) in calves-within rows (IsAmong ranks (length ranks)) (coefficient_at l rows) b.output.items has) blocks all

-- and their coefficients
pub blocks_values : {A : Type 0} (l : ℕ) (rows : List Parents) (depth len : ℕ) (blocks : List (ComputedBlock (Vec CalfCoefficient A)))
    → All (λ block. HasCalvesOf l rows depth len block.number block.output.items) blocks
    → All (λ block. HaveValues (coefficient_at l rows) block.output.items) blocks
blocks_values {A = A} l rows depth len blocks all =
    let Has : ComputedBlock (Vec CalfCoefficient A) → Type 0 = λ b. HasCalvesOf l rows depth len b.number b.output.items in
    let Values : ComputedBlock (Vec CalfCoefficient A) → Type 0 = λ b. HaveValues (coefficient_at l rows) b.output.items in
    All-weaker Has Values
    (λ b has. let ranks = block_of len b.number (level_of depth rows) in calves-values rows (IsAmong ranks (length ranks)) (coefficient_at l rows) b.output.items has) blocks all

-- where each block of a level is written, the calves of its sires are known too
pub calves_known : {A C : Type 0} (l : ℕ) (rows : List Parents) (calves : Calves C) (known new : List ℕ) (depth len : ℕ) (blocks : List (ComputedBlock (Vec CalfCoefficient A))) → 0 < len → length new ≡ length known → KnowsCalvesBelow l rows calves known depth
    → ((number : ℕ) → count_by (λ n. n == number) (numbers blocks) ≡ once_below number (div_ceil (length (level_of depth rows)) len))
    → All (λ block. HasCalvesOf l rows depth len block.number block.output.items) blocks
    → Keeps (coefficient_at l rows) known new → All (λ block. AreWritten (coefficient_at l rows) new block.output.items) blocks
    → KnowsCalvesBelow l rows calves new (depth + 1)
calves_known {A = A} l rows calves known new depth len blocks some same knows each_once computed kept written =
    let f = coefficient_at l rows in
    let level = level_of depth rows in
    let Right : ComputedBlock (Vec CalfCoefficient A) → Type 0 = λ b. (s : ℕ) → IsAmong (block_of len b.number level) (length (block_of len b.number level)) s → (x : ℕ) → IsCalf rows s x → slice_index new x ≡ f x in
    let all : All Right blocks = λ k d low s among x is.
    let b = get_or blocks k d in
    let ranks = block_of len b.number level in
    calves-written rows (IsAmong ranks (length ranks)) f b.output.items known new (computed k d low) (record { kept = kept; written = written k d low }) s x among is in
    let here = in_level (λ s. (x : ℕ) → IsCalf rows s x → slice_index new x ≡ f x) rows depth len blocks some each_once all in
    let mine : (s x : ℕ) → depth_at rows s ≡ depth → IsCalf rows s x → slice_index new x ≡ f x = λ s x deep is.
    let within : x < length rows = calf-within rows s x is in
    let lower : s < x = (lineage-ranked DEPTH_LIMIT MOST_ANIMALS rows knows.linked.lineage).below x s within (inl is.0) in
    here s (omega arith) deep x is in
    record {
      linked = knows.linked;
      reached = reached-more l rows (IsLessDeep rows depth) (λ s. depth_at rows s ≡ depth) (IsLessDeep rows (depth + 1)) (less_deep-next rows depth) known new same kept mine knows.reached;
    }
