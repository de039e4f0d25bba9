-- How many calves the sires of a block have, and those of the first blocks of a level.
use Rattle.std.proofs.Common.{◌≡◌, ℕ, zero, suc, ◌+◌, ◌*◌, ◌<◌, ◌≤◌, Bool, cond, List, length, nat_lt, take, arith, ap, refl, ◌∙◌}
use Rattle.std.specs.List.{range_with_len, sum_by}
use Rattle.std.proofs.Math.Nat.{suc-mul}
use Rattle.std.proofs.lemmas.Bool.{le-ltb, lt-ltb}
use Rattle.std.proofs.lemmas.List.{drop-take, take-take}
use Rattle.std.proofs.lemmas.List.FromFn.{length-range_with_len}
use Rattle.std.proofs.lemmas.List.Sums.{count_by-le-length, sum_by-take-drop, sum_by_push}
use Rattle.herd_lineage.specs.declared.lineage.Parents.{Parents}
use Rattle.herd_lineage.specs.Lineage.{level_of}
use Rattle.herd_lineage.proofs.lemmas.ListFacts.{range-more}
use Rattle.herd_kinship.specs.CalfLinks.{calf_count}
use Rattle.herd_kinship.proofs.lemmas.numbers.Sums.{count-more}
use Rattle.herd_pool.specs.Levels.{block_of}
use Rattle.herd_pool.specs.Sires.{busy_among, calves_among, calves_of}
use Rattle.herd_pool.proofs.CalfSums.{calf_counts-few}
use Rattle.herd_pool.proofs.LevelFacts.{block_of-ascending, level-ascending}

-- the sires of a block have no more calves than there are animals
pub calves-few : (rows : List Parents) (depth len number : ℕ) → calves_of rows depth len number ≤ length rows
calves-few rows depth len number =
    calf_counts-few rows (block_of len number (level_of depth rows)) (block_of-ascending rows depth len number (block_of len number (level_of depth rows)) refl)

-- one block more
pub calves_among-more : (rows : List Parents) (depth len n : ℕ) → calves_among rows depth len (n + 1) ≡ calves_among rows depth len n + calves_of rows depth len n
calves_among-more rows depth len n =
    ap (sum_by (calves_of rows depth len)) (range-more n) ∙ sum_by_push (calves_of rows depth len) (range_with_len 0 n) n

-- the first blocks of a level have the calves of its first ranks
calves_among-first : (rows : List Parents) (depth len n : ℕ) → calves_among rows depth len n ≡ sum_by (calf_count rows) (take (n * len) (level_of depth rows))
calves_among-first rows depth len zero =
    let none : 0 ≡ 0 * len = grind arith in
    ap (λ (k : ℕ). sum_by (calf_count rows) (take k (level_of depth rows))) none
calves_among-first rows depth len (suc n) =
    let level = level_of depth rows in
    let one : suc n ≡ n + 1 = omega arith in
    let more = ap (λ (k : ℕ). calves_among rows depth len k) one ∙ calves_among-more rows depth len n in
    let before = calves_among-first rows depth len n in
    let parts = sum_by-take-drop (calf_count rows) (take (n * len + len) level) (n * len) in
    let fore = ap (sum_by (calf_count rows)) (take-take (n * len) (n * len + len) level (omega arith)) in
    let back = ap (sum_by (calf_count rows)) (drop-take (n * len) len level) in
    let times : suc n * len ≡ n * len + len = suc-mul n len in
    let end : sum_by (calf_count rows) (take (suc n * len) level) ≡ sum_by (calf_count rows) (take (n * len + len) level) =
    ap (λ (k : ℕ). sum_by (calf_count rows) (take k level)) times in
    omega arith

-- and no more calves than there are animals
pub calves_among-few : (rows : List Parents) (depth len n : ℕ) → calves_among rows depth len n ≤ length rows
calves_among-few rows depth len n =
    let first = calves_among-first rows depth len n in
    let few = calf_counts-few rows (take (n * len) (level_of depth rows)) (level-ascending rows depth (n * len)) in
    omega arith

pub busy_among-yes : (rows : List Parents) (depth len n : ℕ) → 0 < calves_of rows depth len n → busy_among rows depth len (n + 1) ≡ busy_among rows depth len n + 1
busy_among-yes rows depth len n some =
    let more = count-more (λ number. nat_lt 0 (calves_of rows depth len number)) n in
    let one : cond {A = ℕ} (nat_lt 0 (calves_of rows depth len n)) 1 0 ≡ 1 = ap (λ (b : Bool). cond {A = ℕ} b 1 0) (lt-ltb 0 (calves_of rows depth len n) some) in
    omega arith

pub busy_among-no : (rows : List Parents) (depth len n : ℕ) → calves_of rows depth len n ≤ 0 → busy_among rows depth len (n + 1) ≡ busy_among rows depth len n
busy_among-no rows depth len n none =
    let more = count-more (λ number. nat_lt 0 (calves_of rows depth len number)) n in
    let nothing : cond {A = ℕ} (nat_lt 0 (calves_of rows depth len n)) 1 0 ≡ 0 = ap (λ (b : Bool). cond {A = ℕ} b 1 0) (le-ltb 0 (calves_of rows depth len n) none) in
    omega arith

pub busy_among-few : (rows : List Parents) (depth len n : ℕ) → busy_among rows depth len n ≤ n
busy_among-few rows depth len n =
    let few = count_by-le-length (λ number. nat_lt 0 (calves_of rows depth len number)) (range_with_len 0 n) in
    let long = length-range_with_len 0 n in
    omega arith
