-- What the list of numerators has once ranks, blocks and levels are written.
use Rattle.std.proofs.Common.{◌≡◌, ◌==◌, ℕ, suc, ◌+◌, ◌*◌, ◌/◌, ◌%◌, ◌^◌, ◌<◌, ◌≤◌, List, [], ◌∷◌, ◌++◌, length, drop, get_or, map, set, slice_index, take, Vec, sym, ap, subst, ◌∙◌, ⊎_elim, arith}
use Rattle.std.specs.Int.{div_ceil}
use Rattle.std.specs.List.{All, Contains, count_by}
use Rattle.std.proofs.lemmas.Bool.{cases_eq, cases_lt}
use Rattle.std.proofs.lemmas.Bool.Decides.{nat_tests}
use Rattle.std.proofs.lemmas.Grind.{div_ceil_times}
use Rattle.std.proofs.lemmas.List.{get_or-drop, get_or-map, get_or-set_same, get_or-take, get_or_default, length-drop, length-take}
use Rattle.std.proofs.lemmas.List.Elements.{All-from_get_or, All-more, All-weaker}
use Rattle.std.proofs.lemmas.Nat.{div-add-mod', div_below}
use Rattle.herd_lineage.specs.declared.lineage.Parents.{Parents}
use Rattle.herd_lineage.specs.Lineage.{IsLineage, depth_at, level_of}
use Rattle.herd_kinship.specs.CalfCoefficients.{Keeps}
use Rattle.herd_kinship.specs.Coefficients.{AreCoefficients, coefficient_at}
use Rattle.herd_kinship.proofs.lemmas.lineages.LineageFacts.{depth-at_most}
use Rattle.herd_kinship.proofs.lemmas.Lists.{take-written}
use Rattle.herd_kinship.proofs.lemmas.sires.CalfListFacts.{kept-stays, kept-then, set-kept}
use Rattle.herd_kinship.proofs.lemmas.tracing.KnownFacts.{lineage-coefficient_bound}
use Rattle.herd_pool.specs.Blocks.{once_below}
use Rattle.herd_pool.specs.Levels.{HasAt, KnowsBelow, block_of}
use Rattle.herd_pool.specs.Sires.{IsAmong}
use Rattle.herd_pool.specs.Workers.{numbers}
use Rattle.herd_pool.specs.declared.work.ComputedBlock.{ComputedBlock}
use Rattle.herd_pool.proofs.LevelFacts.{level_of-has}

-- the first n ranks have f of themselves
abbrev pub HasBefore : (ℕ → ℕ) → List ℕ → List ℕ → ℕ → Type 0
HasBefore f known ranks n = (i : ℕ) → i < n → slice_index known (slice_index ranks i) ≡ f (slice_index ranks i)

-- one more rank is written
pub rank_written : (f : ℕ → ℕ) (old known ranks numerators : List ℕ) (n m rank value : ℕ) → numerators ≡ map f ranks → m ≡ n + 1 → n < length ranks → rank ≡ get_or ranks n 0 → value ≡ get_or numerators n 0 → rank < length known
    → Keeps f old known × HasBefore f known ranks n
    → Keeps f old (set known rank value) × HasBefore f (set known rank value) ranks m
rank_written f old known ranks numerators n m rank value is more within at_rank at_value below was =
    let there : value ≡ f rank = at_value ∙ ap (λ l. get_or l n 0) is ∙ get_or-map f ranks n 0 0 within ∙ ap f (sym at_rank) in
    let keeps = set-kept f known rank value there below in (
      kept-then f old known (set known rank value) was.0 keeps,
      (λ i low. ⊎_elim (λ (before : i < n). kept-stays f known (set known rank value) keeps (get_or ranks i 0) (was.1 i before))
          (λ (last : n ≤ i).
          let e : get_or ranks i 0 ≡ rank = ap (λ k. get_or ranks k 0) (let k : i ≡ n = omega arith in k) ∙ sym at_rank in
          ap (slice_index (set known rank value)) e ∙ get_or-set_same known rank value 0 below ∙ there ∙ ap f (sym e)) (cases_lt i n)),
    )

-- this block of a level has f of its ranks
abbrev pub HasBlock : {O : Type 0} → (ℕ → ℕ) → ℕ → List ℕ → List ℕ → ComputedBlock O → Type 0
HasBlock f len level known block = HasAt f known (block_of len block.number level)

-- the blocks that are written on the way: only f was written, and the first n blocks have what they are to have
pub record AreBlocksWritten {O : Type 0} (f : ℕ → ℕ) (Has : List ℕ → ComputedBlock O → Type 0) (old known : List ℕ) (blocks : List (ComputedBlock O)) (n : ℕ) : Type 0 where
  pub kept : Keeps f old known
  pub written : All (Has known) (take n blocks)

-- one more block is written, and what the blocks before it have stays
pub block_written : {O : Type 0} (f : ℕ → ℕ) (Has : List ℕ → ComputedBlock O → Type 0) (blocks : List (ComputedBlock O)) (n : ℕ) (block : ComputedBlock O) (old known new : List ℕ) → n < length blocks → block ≡ get_or blocks n block
    → ((b : ComputedBlock O) → Has known b → Has new b) → Keeps f known new → Has new block → AreBlocksWritten f Has old known blocks n
    → AreBlocksWritten f Has old new blocks (n + 1)
block_written f Has blocks n block old known new below at stay keeps here was = record {
  kept = kept-then f old known new was.kept keeps;
  written = All-more (Has new) blocks n block below (All-weaker (Has known) (Has new) stay (take n blocks) was.written) (subst (Has new) at here);
}

counted_tail : {O : Type 0} (x : ℕ) (b : ComputedBlock O) (bs : List (ComputedBlock O)) → (b.number ≡ x → ⊥) → 0 < count_by (λ n. n == x) (numbers (b ∷ bs)) → 0 < count_by (λ n. n == x) (numbers bs)
counted_tail x b bs ne some = grind (arith, nat_tests)

-- the number of a block that stands in the list stands at some place
counted_has : {O : Type 0} (x : ℕ) (blocks : List (ComputedBlock O)) → 0 < count_by (λ n. n == x) (numbers blocks) → (k : ℕ) × (k < length blocks) × ((d : ComputedBlock O) → (get_or blocks k d).number ≡ x)
counted_has x [] some = absurd (omega arith)
counted_has x (b ∷ bs) some =
    ⊎_elim (λ (e : b.number ≡ x). (0, omega arith, λ d. e))
    (λ (ne : b.number ≡ x → ⊥).
    let rest = counted_has x bs (counted_tail x b bs ne some) in
    (suc rest.0, omega (arith, rest.1), rest.2)) (cases_eq b.number x)

-- what holds of each block holds of the one with this number
pub with_number : {O : Type 0} (P : ℕ → Type 0) (x : ℕ) (blocks : List (ComputedBlock O)) → 0 < count_by (λ n. n == x) (numbers blocks) → All (λ b. P b.number) blocks → P x
with_number P x [] some all = absurd (omega arith)
with_number P x (b ∷ bs) some all =
    let found = counted_has x (b ∷ bs) some in
    subst P (found.2 b) (all found.0 b found.1)

-- a rank of a level stands in its block
in_block : (level : List ℕ) (len i p : ℕ) → 0 < len → i < length level → get_or level i p ≡ p → let ranks = block_of len (i / len) level in IsAmong ranks (length ranks) p
in_block level len i p some below at =
    let j = i % len in
    let start = i / len * len in
    let whole : start + j ≡ i = div-add-mod' i len in
    let short : j < len = omega arith in
    let rest = drop start level in
    let within : j < length (block_of len (i / len) level) = omega (arith, length-take len rest, length-drop start level) in
    (j, within, get_or-take len rest j 0 short ∙ get_or-drop start level j 0 ∙ ap (λ k. get_or level k 0) whole ∙ get_or_default level i 0 p below ∙ at)

once_within : (x n : ℕ) → x < n → once_below x n ≡ 1
once_within x n below = grind (arith, nat_tests)

-- what holds of the ranks of each block, where each comes once, holds of all animals of the level
pub in_level : {O : Type 0} (P : ℕ → Type 0) (rows : List Parents) (depth len : ℕ) (blocks : List (ComputedBlock O)) → 0 < len
    → ((number : ℕ) → count_by (λ n. n == number) (numbers blocks) ≡ once_below number (div_ceil (length (level_of depth rows)) len))
    → All (λ block. let ranks = block_of len block.number (level_of depth rows) in (p : ℕ) → IsAmong ranks (length ranks) p → P p) blocks
    → (p : ℕ) → p < length rows → depth_at rows p ≡ depth → P p
in_level P rows depth len blocks some each_once all p low is =
    let level = level_of depth rows in
    let count = div_ceil (length level) len in
    let found : Contains level p = subst (λ d. Contains (level_of d rows) p) is (level_of-has rows p low) in
    let i = found.0 in
    let cover = div_ceil_times (length level) len some in
    let inside : i / len < count = div_below i len count some (omega (arith, found.1, cover)) in
    let once : count_by (λ n. n == i / len) (numbers blocks) ≡ 1 = each_once (i / len) ∙ once_within (i / len) count inside in
    with_number (λ n. (q : ℕ) → IsAmong (block_of len n level) (length (block_of len n level)) q → P q) (i / len) blocks (omega arith) all p (in_block level len i p some found.1 found.2)

-- where each block of a level is written, the level is known
pub level_known : {O : Type 0} (l most : ℕ) (rows : List Parents) (known new : List ℕ) (depth len : ℕ) (blocks : List (ComputedBlock O)) → 0 < len → length new ≡ length known → KnowsBelow l most rows known depth
    → ((number : ℕ) → count_by (λ n. n == number) (numbers blocks) ≡ once_below number (div_ceil (length (level_of depth rows)) len))
    → Keeps (coefficient_at l rows) known new → All (HasBlock (coefficient_at l rows) len (level_of depth rows) new) blocks
    → KnowsBelow l most rows new (depth + 1)
level_known {O = O} l most rows known new depth len blocks some same knows each_once kept written =
    let f = coefficient_at l rows in
    let level = level_of depth rows in
    let Right : ComputedBlock O → Type 0 = λ block. (p : ℕ) → IsAmong (block_of len block.number level) (length (block_of len block.number level)) p → slice_index new p ≡ f p in
    let all : All Right blocks = All-weaker (HasBlock f len level new) Right (λ block has p at. ap (slice_index new) (sym at.2) ∙ has at.0 at.1 ∙ ap f at.2) blocks written in
    let here = in_level (λ p. slice_index new p ≡ f p) rows depth len blocks some each_once all in
    record {
      lineage = knows.lineage;
      each = same ∙ knows.each;
      right = λ p low shallow.
          ⊎_elim (λ (less : depth_at rows p < depth). kept-stays f known new kept p (knows.right p low less))
          (λ (more : depth ≤ depth_at rows p). here p low (omega arith)) (cases_lt (depth_at rows p) depth);
    }

-- what is known of the list that a level was written into is known of the vector that lent it
pub level_written : {A : Type 0} (Knows : List ℕ → Type 0) (f : ℕ → ℕ) (known : Vec ℕ A) (lent new : List ℕ)
    → lent ≡ known.items → length new ≡ length lent → Keeps f lent new
    → (length new ≡ length known.items → Keeps f known.items new → Knows new)
    → Knows (take known.len (new ++ drop (length new) known.items))
level_written Knows f known lent new is same kept knows =
    let ok = known.ok in
    let long = ap length is in
    subst Knows (sym (take-written known.len new known.items (omega arith)))
    (knows (omega arith) (subst (λ (xs : List ℕ). Keeps f xs new) is kept))

-- where all levels are known, all coefficients are
pub all_known : (l most : ℕ) (rows : List Parents) (known : List ℕ) (depth : ℕ) → l < depth → KnowsBelow l most rows known depth → AreCoefficients l rows known
all_known l most rows known depth beyond knows = record {
  each = knows.each;
  right = λ rank low. let limit = depth-at_most l most rows knows.lineage rank low in knows.right rank low (omega arith);
}

-- and they are below 1
pub known_below_one : (l most : ℕ) (rows : List Parents) (known : List ℕ) → IsLineage l most rows → AreCoefficients l rows known → All (λ n. n < 2 ^ (2 * l)) known
known_below_one l most rows known lineage are =
    All-from_get_or (λ n. n < 2 ^ (2 * l)) known 0 (λ rank low.
    let each = are.each in
    let within : rank < length rows = omega arith in
    let bound = lineage-coefficient_bound l most rows lineage rank within in
    omega (arith, are.right rank within, bound))
