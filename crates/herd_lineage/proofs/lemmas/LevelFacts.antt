-- Levels are filled rank by rank.
use Rattle.std.proofs.Common.{ℕ, ◌+◌, ◌<◌, ◌≤◌, ◌≡◌, ◌≢◌, ⊎_elim, ◌==◌, arith, refl, sym, ap, ◌∙◌, subst, Bool, true, false, cond, List, [], ◌∷◌, ◌++◌, length, get_or, set, map, replicate, All}
use Rattle.std.specs.List.{filter, range_with_len}
use Rattle.std.proofs.lemmas.Bool.{cases_eq, eq-eqb, ne_eqb}
use Rattle.std.proofs.lemmas.List.{append-nil, length-map, length-set, get_or-set_same, get_or-set_other, get_or_append_left, get_or_push, length_push, map-append, map-set, same_lists, get_or-map}
use Rattle.std.proofs.lemmas.List.Elements.{filter-append}
use Rattle.std.proofs.lemmas.List.FromFn.{get_or-range_with_len, length-range_with_len, length-map-range_with_len, get_or-map-range_with_len}
use Rattle.herd_lineage.specs.declared.lineage.Parents.{Parents}
use Rattle.herd_lineage.specs.Lineage.{depth_at, level_of, levels_of}
use Rattle.herd_lineage.proofs.lemmas.Contained.{filter_same}
use Rattle.herd_lineage.proofs.lemmas.ListFacts.{nils, range-more}

pub levels_of-none : (l n : ℕ) → n ≡ l + 1 → replicate n [] ≡ levels_of l []
unfolding levels_of level_of
levels_of-none l n e = ap (λ m. replicate m []) e ∙ sym (nils (λ d. level_of d []) (λ d. refl) 0 (l + 1))

-- the ranks at which a depth stands
abbrev ranks_with : ℕ → List ℕ → List ℕ
ranks_with depth depths = filter (λ rank. get_or depths rank 0 == depth) (range_with_len 0 (length depths))

ranks_with-push : (depth : ℕ) (depths : List ℕ) (x : ℕ) → ranks_with depth (depths ++ x ∷ []) ≡ ranks_with depth depths ++ cond (x == depth) (length depths ∷ []) []
ranks_with-push depth depths x =
    let n = length depths in
    let q : ℕ → Bool = λ rank. get_or (depths ++ x ∷ []) rank 0 == depth in
    let p : ℕ → Bool = λ rank. get_or depths rank 0 == depth in
    let all : All (λ rank. q rank ≡ p rank) (range_with_len 0 n) =
    (λ k d h.
    let within : k < n = subst (λ m. k < m) (length-range_with_len 0 n) h in
    let zero_more : 0 + k ≡ k = omega arith in
    let at : get_or (range_with_len 0 n) k d ≡ k = get_or-range_with_len 0 n k d within ∙ zero_more in
    rw at (ap (λ y. y == depth) (get_or_append_left depths (x ∷ []) 0 k within))) in
    let last : q n ≡ (x == depth) = ap (λ y. y == depth) (get_or_push depths x 0 n refl) in
    ap (λ m. filter q (range_with_len 0 m)) (length_push depths x)
    ∙ ap (λ ks. filter q ks) (range-more n)
    ∙ filter-append q (range_with_len 0 n) (n ∷ [])
    ∙ ap (λ ks. ks ++ filter q (n ∷ [])) (filter_same q p (range_with_len 0 n) all)
    ∙ ap (λ b. ranks_with depth depths ++ cond b (n ∷ []) []) last

level_of-is : (depth : ℕ) (rows : List Parents) → level_of depth rows ≡ ranks_with depth (map (λ row. row.depth) rows)
unfolding level_of
level_of-is depth rows = ap (λ n. filter (λ rank. depth_at rows rank == depth) (range_with_len 0 n)) (sym (length-map rows (λ row. row.depth)))

-- one more row adds its rank to the level of its depth
level_of-push : (depth : ℕ) (rows : List Parents) (row : Parents) → level_of depth (rows ++ row ∷ []) ≡ level_of depth rows ++ cond (row.depth == depth) (length rows ∷ []) []
level_of-push depth rows row =
    let depths : List ℕ = map (λ (r : Parents). r.depth) rows in
    level_of-is depth (rows ++ row ∷ [])
    ∙ ap (λ ds. ranks_with depth ds) (map-append (λ (r : Parents). r.depth) rows (row ∷ []))
    ∙ ranks_with-push depth depths row.depth
    ∙ ap (λ n. ranks_with depth depths ++ cond (row.depth == depth) (n ∷ []) []) (length-map rows (λ (r : Parents). r.depth))
    ∙ ap (λ level. level ++ cond (row.depth == depth) (length rows ∷ []) []) (sym (level_of-is depth rows))

pub length-levels_of : (l : ℕ) (rows : List Parents) → length (levels_of l rows) ≡ l + 1
unfolding levels_of
length-levels_of l rows = length-map-range_with_len (λ depth. level_of depth rows) 0 (l + 1)

get_or-levels_of : (l : ℕ) (rows : List Parents) (depth : ℕ) (other : List ℕ) → depth < l + 1 → get_or (levels_of l rows) depth other ≡ level_of depth rows
unfolding levels_of
get_or-levels_of l rows depth other within = get_or-map-range_with_len (λ d. level_of d rows) 0 (l + 1) depth depth other within (omega arith)

levels_of-push : (l : ℕ) (rows : List Parents) (row : Parents) → row.depth ≤ l →
    set (levels_of l rows) row.depth (level_of row.depth rows ++ length rows ∷ []) ≡ levels_of l (rows ++ row ∷ [])
levels_of-push l rows row shallow =
    let old : List (List ℕ) = levels_of l rows in
    let level : List ℕ = level_of row.depth rows ++ length rows ∷ [] in
    let new : List (List ℕ) = levels_of l (rows ++ row ∷ []) in
    let long : length old ≡ l + 1 = length-levels_of l rows in
    let long_set : length (set old row.depth level) ≡ l + 1 = length-set old row.depth level ∙ long in
    let within : row.depth < length old = omega arith in
    same_lists (set old row.depth level) new (long_set ∙ sym (length-levels_of l (rows ++ row ∷ [])))
    (λ depth other h.
    let below : depth < l + 1 = subst (λ n. depth < n) long_set h in
    let is : get_or new depth other ≡ level_of depth rows ++ cond (row.depth == depth) (length rows ∷ []) [] = get_or-levels_of l (rows ++ row ∷ []) depth other below ∙ level_of-push depth rows row in
    ⊎_elim
    (λ (e : depth ≡ row.depth).
    let t : (row.depth == depth) ≡ true = eq-eqb row.depth depth (sym e) in
    let written : get_or (set old row.depth level) depth other ≡ level = ap (λ d. get_or (set old row.depth level) d other) e ∙ get_or-set_same old row.depth level other within in
    let there : level ≡ level_of depth rows ++ length rows ∷ [] = ap (λ d. level_of d rows ++ length rows ∷ []) (sym e) in
    written ∙ there ∙ sym (is ∙ ap (λ b. level_of depth rows ++ cond b (length rows ∷ []) []) t))
    (λ (other_depth : depth ≢ row.depth).
    let t : (row.depth == depth) ≡ false = ne_eqb row.depth depth (λ e. other_depth (sym e)) in
    let kept : get_or (set old row.depth level) depth other ≡ level_of depth rows = get_or-set_other old row.depth depth level other other_depth ∙ get_or-levels_of l rows depth other below in
    kept ∙ sym (is ∙ ap (λ b. level_of depth rows ++ cond b (length rows ∷ []) []) t ∙ append-nil (level_of depth rows)))
    (cases_eq depth row.depth))

module _ {V : Type 0} (items : V → List ℕ) (l : ℕ) (rows : List Parents) (vectors : List V) (levels : map items vectors ≡ levels_of l rows)
    (row : Parents) (shallow : row.depth ≤ l) where
  pub level-within : row.depth < length vectors
  level-within =
      let long : length vectors ≡ l + 1 = sym (length-map vectors items) ∙ ap length levels ∙ length-levels_of l rows in
      omega arith

  -- the rank of one more animal is written
  pub levels-more : (v w : V) → v ≡ get_or vectors row.depth v → items w ≡ items v ++ length rows ∷ [] → map items (set vectors row.depth w) ≡ levels_of l (rows ++ row ∷ [])
  levels-more v w here pushed =
      let before : items v ≡ level_of row.depth rows =
      sym (get_or-map items vectors row.depth v [] level-within ∙ ap items (sym here))
      ∙ ap (λ ls. get_or ls row.depth []) levels
      ∙ get_or-levels_of l rows row.depth [] (omega arith) in
      let after : items w ≡ level_of row.depth rows ++ length rows ∷ [] = pushed ∙ ap (λ level. level ++ length rows ∷ []) before in
      map-set items vectors row.depth w
      ∙ (λ j. set (levels j) row.depth (after j))
      ∙ levels_of-push l rows row shallow
