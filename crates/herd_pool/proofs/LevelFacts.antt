-- Which ranks a level has, how many, and what is known of them once all animals of less depth have their coefficients.
use Rattle.std.proofs.Common.{◌≡◌, ℕ, ◌+◌, ◌-◌, ◌*◌, ◌^◌, ◌<◌, ◌≤◌, ◌==◌, List, [], ◌∷◌, ◌++◌, drop, get_or, length, map, min, slice_index, take, arith, ap, ◌∙◌, subst, refl, sym}
use Rattle.std.specs.Int.{div_ceil}
use Rattle.std.specs.List.{All, AllPairs, Contains, range_with_len}
use Rattle.std.proofs.Math.Nat.{mul-le-mul_right}
use Rattle.std.proofs.lemmas.Bool.{eq-eqb, eqb-true}
use Rattle.std.proofs.lemmas.Grind.{div_ceil_times}
use Rattle.std.proofs.lemmas.List.Elements.{All-drop, All-filter, All-from_get_or, All-same, All-take, Contains-get_or, filter_passes}
use Rattle.std.proofs.lemmas.List.{get_or-drop, get_or-take, length-drop, length-take, map_more}
use Rattle.std.proofs.lemmas.List.FromFn.{get_or-range_with_len, length-range_with_len}
use Rattle.std.proofs.lemmas.List.Kept.{AllPairs-filter}
use Rattle.std.proofs.lemmas.List.Sums.{count_by-le-length, length-filter}
use Rattle.herd_lineage.specs.declared.lineage.Parents.{Parents}
use Rattle.herd_lineage.specs.Lineage.{IsLineage, depth_at, level_of}
use Rattle.herd_kinship.specs.Coefficients.{KnowsAncestors, coefficient_at, own_relationship}
use Rattle.herd_kinship.proofs.lemmas.tracing.KnownFacts.{lineage-inbred_value, known-from_levels}
use Rattle.herd_pool.specs.Levels.{KnowsBelow, block_of}
use Rattle.herd_lineage.proofs.lemmas.Contained.{filter-keeps}

-- a rank of the lineage, of this depth
pub record IsRankOf (rows : List Parents) (depth rank : ℕ) : Type 0 where
  pub within : rank < length rows
  pub deep : depth_at rows rank ≡ depth

-- a level has ranks of its depth
level_of-ranks : (depth : ℕ) (rows : List Parents) → All (IsRankOf rows depth) (level_of depth rows)
unfolding level_of
level_of-ranks depth rows =
    let test = λ (rank : ℕ). depth_at rows rank == depth in
    let within : All (λ rank. rank < length rows) (range_with_len 0 (length rows)) =
    All-from_get_or (λ rank. rank < length rows) (range_with_len 0 (length rows)) 0 (λ i below. let n = length-range_with_len 0 (length rows) in let e = get_or-range_with_len 0 (length rows) i 0 (omega arith) in omega arith) in
    λ k d below. record {
      within = All-filter test (λ rank. rank < length rows) (range_with_len 0 (length rows)) within k d below;
      deep = eqb-true _ _ (filter_passes test (range_with_len 0 (length rows)) k d below);
    }

-- and all of them
pub level_of-has : (rows : List Parents) (rank : ℕ) → rank < length rows → Contains (level_of (depth_at rows rank) rows) rank
unfolding level_of
level_of-has rows rank below =
    let all = range_with_len 0 (length rows) in
    let long = length-range_with_len 0 (length rows) in
    let at : get_or all rank 0 ≡ rank = omega (arith, get_or-range_with_len 0 (length rows) rank 0 below) in
    let there : Contains all rank = subst (Contains all) at (Contains-get_or all rank 0 (omega arith)) in
    filter-keeps (λ p. depth_at rows p == depth_at rows rank) all rank there (eq-eqb _ _ refl)

pub length-level_of : (depth : ℕ) (rows : List Parents) → length (level_of depth rows) ≤ length rows
unfolding level_of
length-level_of depth rows =
    let test = λ (p : ℕ). depth_at rows p == depth in
    let all = range_with_len 0 (length rows) in
    omega (arith, length-filter test all, count_by-le-length test all, length-range_with_len 0 (length rows))

-- a block of a level has ranks of its depth
pub block_of-ranks : (rows : List Parents) (depth len number : ℕ) (ranks : List ℕ) → ranks ≡ block_of len number (level_of depth rows) → All (IsRankOf rows depth) ranks
block_of-ranks rows depth len number ranks is =
    All-same (IsRankOf rows depth) _ _ is (All-take (IsRankOf rows depth) len _ (All-drop (IsRankOf rows depth) (number * len) _ (level_of-ranks depth rows)))

-- a part of a list keeps what holds of each two of its elements
pairs-part : {X : Type 0} (R : X → X → Type 0) (n m : ℕ) (xs : List X) → AllPairs R xs → AllPairs R (take n (drop m xs))
pairs-part R n m xs pairs i j d before within =
    let long = length-take n (drop m xs) in
    let rest = length-drop m xs in
    let at : (k : ℕ) → k < n → get_or (take n (drop m xs)) k d ≡ get_or xs (m + k) d = λ k low. get_or-take n (drop m xs) k d low ∙ get_or-drop m xs k d in
    rw (at i (omega arith), at j (omega arith)) (pairs (m + i) (m + j) d (omega (arith, before)) (omega arith))

-- a level's first ranks go up
pub level-ascending : (rows : List Parents) (depth n : ℕ) → AllPairs (λ rank later. rank < later) (take n (level_of depth rows))
unfolding level_of
level-ascending rows depth n =
    let all = range_with_len 0 (length rows) in
    let up : AllPairs (λ rank later. rank < later) all = λ i j d before within.
    let long = length-range_with_len 0 (length rows) in
    let first = get_or-range_with_len 0 (length rows) i d (omega arith) in
    let second = get_or-range_with_len 0 (length rows) j d (omega arith) in
    omega arith in
    pairs-part (λ rank later. rank < later) n 0 (level_of depth rows) (AllPairs-filter (λ rank later. rank < later) (λ rank. depth_at rows rank == depth) all up)

-- and they go up
pub block_of-ascending : (rows : List Parents) (depth len number : ℕ) (ranks : List ℕ) → ranks ≡ block_of len number (level_of depth rows) → AllPairs (λ rank later. rank < later) ranks
unfolding level_of
block_of-ascending rows depth len number ranks is =
    let all = range_with_len 0 (length rows) in
    let up : AllPairs (λ rank later. rank < later) all = λ i j d before within.
    let long = length-range_with_len 0 (length rows) in
    let first = get_or-range_with_len 0 (length rows) i d (omega arith) in
    let second = get_or-range_with_len 0 (length rows) j d (omega arith) in
    omega arith in
    subst (AllPairs (λ rank later. rank < later)) (sym is)
    (pairs-part (λ rank later. rank < later) len (number * len) (level_of depth rows) (AllPairs-filter (λ rank later. rank < later) (λ rank. depth_at rows rank == depth) all up))

-- one more rank has its numerator
pub numerators_more : (f : ℕ → ℕ) (ranks numerators pushed : List ℕ) (i value : ℕ) → i < length ranks → numerators ≡ map f (take i ranks) → value ≡ f (slice_index ranks i) → pushed ≡ numerators ++ value ∷ [] → pushed ≡ map f (take (i + 1) ranks)
numerators_more f ranks numerators pushed i value below was is more =
    more ∙ ap (λ (xs : List ℕ). xs ++ value ∷ []) was ∙ ap (λ (x : ℕ). map f (take i ranks) ++ x ∷ []) is ∙ sym (map_more f ranks i 0 below)

-- what is cut into more than one block is longer than a block
pub longer_than_block : (n len : ℕ) → 0 < len → 1 < div_ceil n len → len < n
longer_than_block n len some more =
    let times = div_ceil_times n len some in
    let two = mul-le-mul_right len more in
    omega (arith, times.1)

-- the ancestors of an animal of the level are known
pub ancestors_known : (l most : ℕ) (rows : List Parents) (known : List ℕ) (depth rank : ℕ) → KnowsBelow l most rows known depth → IsRankOf rows depth rank → KnowsAncestors l rows known rank
ancestors_known l most rows known depth rank knows at =
    known-from_levels l most rows knows.lineage known rank at.within knows.each
    (λ p low less. let deep = at.deep in knows.right p low (omega arith))

-- the relationship of an animal with itself, less the whole and below 1, is its coefficient
pub inbred-entry : (l most : ℕ) (rows : List Parents) (rank value : ℕ) → IsLineage l most rows → rank < length rows
    → value ≡ own_relationship l rows rank
    → min (value - 2 ^ (2 * l)) (2 ^ (2 * l) - 1) ≡ coefficient_at l rows rank
inbred-entry l most rows rank value lineage within is = rw is (lineage-inbred_value l most rows lineage rank within)
