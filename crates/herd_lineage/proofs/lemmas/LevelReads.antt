-- What a lineage tells of a depth.
use Rattle.std.proofs.Common.{ℕ, ◌+◌, ◌<◌, ◌≤◌, ◌≡◌, ⊎_elim, arith, sym, ap, ◌∙◌, List, [], Some, length, slice_get, map, ◌==◌}
use Rattle.std.specs.List.{range_with_len}
use Rattle.std.proofs.lemmas.Option.{slice_get_within, get_or_from_slice_get}
use Rattle.std.proofs.lemmas.Bool.{cases_lt, ne_eqb}
use Rattle.std.proofs.lemmas.List.{length-map, get_or_past}
use Rattle.std.proofs.lemmas.List.FromFn.{length-map-range_with_len, get_or-map-range_with_len}
use Rattle.herd_lineage.specs.declared.lineage.Parents.{Parents}
use Rattle.herd_lineage.specs.Lineage.{IsLineage, depth_at, level_of, levels_of}
use Rattle.herd_lineage.proofs.lemmas.Contained.{filter_none}

module _ (l most : ℕ) (rows : List Parents) (frozen : IsLineage l most rows) where
  depth_at-le : (rank : ℕ) → depth_at rows rank ≤ l
  depth_at-le rank =
      ⊎_elim
      (λ (within : rank < length rows). frozen.shallow rank within)
      (λ (past : length rows ≤ rank).
      let none : depth_at rows rank ≡ 0 = get_or_past (map (λ r. r.depth) rows) rank 0 (rw length-map past) in
      omega arith)
      (cases_lt rank (length rows))

  -- no animal has a depth beyond the limit
  level_of-none : (depth : ℕ) → l < depth → level_of depth rows ≡ []
  unfolding level_of
  level_of-none depth beyond =
      filter_none (λ rank. depth_at rows rank == depth) (range_with_len 0 (length rows))
      (λ rank. ne_eqb (depth_at rows rank) depth (λ e. let le = depth_at-le rank in omega arith))

-- a list of levels has that of each depth at its rank
pub level-at : (l : ℕ) (rows : List Parents) (levels : List (List ℕ)) → levels ≡ levels_of l rows → (depth : ℕ) (level : List ℕ) → slice_get levels depth ≡ Some level → level ≡ level_of depth rows
unfolding levels_of
level-at l rows levels e depth level at =
    let f : ℕ → List ℕ = λ d. level_of d rows in
    let long : length (levels_of l rows) ≡ l + 1 = length-map-range_with_len f 0 (l + 1) in
    let here : slice_get (levels_of l rows) depth ≡ Some level = sym (ap (λ ls. slice_get ls depth) e) ∙ at in
    let within : depth < length (levels_of l rows) = slice_get_within (levels_of l rows) depth level here in
    sym (get_or_from_slice_get (levels_of l rows) depth level [] here)
    ∙ get_or-map-range_with_len f 0 (l + 1) depth depth [] (omega arith) (omega arith)

-- and none beyond the limit
pub level-beyond : (l most : ℕ) (rows : List Parents) (levels : List (List ℕ)) → IsLineage l most rows → levels ≡ levels_of l rows → (depth : ℕ) → length levels ≤ depth → level_of depth rows ≡ []
unfolding levels_of
level-beyond l most rows levels frozen e depth beyond =
    let f : ℕ → List ℕ = λ d. level_of d rows in
    let long : length levels ≡ l + 1 = ap length e ∙ length-map-range_with_len f 0 (l + 1) in
    level_of-none l most rows frozen depth (omega arith)
