-- The certificate of an animal of a lawful book has no fault under the book's seal.
use Rattle.std.proofs.Common.{◌≡◌, ◌∙◌, inl, inr, ℕ, zero, suc, ◌+◌, ◌<◌, ◌≤◌, List}
use Rattle.std.proofs.Common.{length, map, slice_get, get_or, Bool, true, false, not, nat_lt, ◌==◌}
use Rattle.std.proofs.Common.{if◌then◌else◌, max, Option, Some, None, All, Contains, refl, sym, ap, subst}
use Rattle.std.proofs.Common.{arith}
use Rattle.std.specs.Option.{option_and_then, option_map}
use Rattle.std.proofs.lemmas.Bool.{le-ltb, lt-ltb}
use Rattle.std.proofs.lemmas.List.{length-map}
use Rattle.std.proofs.lemmas.Option.{get_or_from_slice_get, same_Some, slice_get-get_or}
use Rattle.std.proofs.lemmas.Option.{slice_get_within}
use Rattle.merkle_tree.specs.Shown.{IsAscending}
use Rattle.herd_frozen.specs.declared.TheConstants.{DEPTH_LIMIT, MOST_ANIMALS}
use Rattle.herd_frozen.specs.declared.freezing.frozen.Row.{Row}
use Rattle.herd_frozen.specs.freezing.Frozen.{IsFrozen, IsFrozenRow, IsRankOf, parents_of}
use Rattle.herd_lineage.specs.Builder.{first_fault, is_earlier}
use Rattle.herd_lineage.specs.Lineage.{IsLineage, dam_rank, depth_above, depth_at, depth_from, sire_rank}
use Rattle.herd_lineage.specs.declared.lineage.Parents.{Parents}
use Rattle.herd_lineage.specs.declared.lineage_fault.LineageFault.{LineageFault}
use Rattle.herd_lineage.specs.declared.lineage_fault.LineageFault.TheVariants.{Dam, Full, Sire}
use Rattle.herd_lineage.specs.declared.lineage_fault.LineageFault.TheVariants.{TooDeep as TooFarAbove}
use Rattle.herd_lineage.proofs.lemmas.ListFacts.{there}
use Rattle.herd_kinship.specs.Ancestry.{IsParentIn, PathTo}
use Rattle.herd_kinship.specs.Ranks.{ranked}
use Rattle.herd_kinship.proofs.lemmas.lineages.LineageFacts.{depth_at-row, path_to-joined}
use Rattle.herd_pruned.specs.Pruned.{IsPrunedOf}
use Rattle.herd_seal.specs.Certificate.{AreLinked, IsLink}
use Rattle.herd_seal.specs.CheckFaults.{IsLacking, IsMisnamed, IsNotNext}
use Rattle.herd_seal.specs.declared.certificate.CertifiedRow.{CertifiedRow}
use Rattle.herd_certificate.specs.Sealed.{places_shown, rows_at}
use Rattle.herd_certificate.proofs.AncestorFacts.{with_ancestors-ascend, with_ancestors-few, with_ancestors-path}
use Rattle.herd_certificate.proofs.AncestorFacts.{with_ancestors-reached, with_ancestors-within}
use Rattle.herd_certificate.proofs.ShownFacts.{IsShownAt, at_of_all, ascending_at, dam-there, link-place, link_within}
use Rattle.herd_certificate.proofs.ShownFacts.{not_lacking, not_misnamed, rank_below, same_rank, shown-long}
use Rattle.herd_certificate.proofs.ShownFacts.{shown_back, sire-there}

-- what an option is that is named
over_map : (f : ℕ → ℕ) (o : Option ℕ) (q : ℕ) → Some q ≡ option_map f o → (k : ℕ) × (o ≡ Some k) × (f k ≡ q)
over_map f None q e = absurd (cc)
over_map f (Some k) q e = (k, refl, sym (same_Some q (f k) e))

above_same : (f g : ℕ → ℕ) (name : ℕ → ℕ) (o : Option ℕ) → ((j : ℕ) → o ≡ Some j → f j ≡ g (name j))
    → depth_above f o ≡ depth_above g (option_map name o)
above_same f g name None each = refl
above_same f g name (Some j) each = ap (λ (n : ℕ). n + 1) (each j refl)

earlier_is : (animals : ℕ) (o : Option ℕ) → ((j : ℕ) → o ≡ Some j → j < animals) → is_earlier animals o ≡ true
earlier_is animals None each = refl
earlier_is animals (Some j) each = lt-ltb j animals (each j refl)

-- no fault is first but that there are too many
only_full : (a b c d : Bool) (fault : LineageFault) → b ≡ false → c ≡ false → d ≡ false
    → ◌≡◌ {A = Option LineageFault}
    (if a then Some Full else if b then Some Sire else if c then Some Dam else if d then Some TooFarAbove else None)
    (Some fault)
    → fault ≡ Full
only_full true b c d fault is_b is_c is_d e = sym (same_Some Full fault e)
only_full false true c d fault is_b is_c is_d e = absurd (cc)
only_full false false true d fault is_b is_c is_d e = absurd (cc)
only_full false false false true fault is_b is_c is_d e = absurd (cc)
only_full false false false false fault is_b is_c is_d e = absurd (cc)

first_full : (l most : ℕ) (lineage : List Parents) (sire dam : Option ℕ) (fault : LineageFault)
    → is_earlier (length lineage) sire ≡ true → is_earlier (length lineage) dam ≡ true
    → depth_from (depth_at lineage) sire dam ≤ l → first_fault l most lineage sire dam ≡ Some fault → fault ≡ Full
unfolding first_fault
first_full l most lineage sire dam fault early_sire early_dam shallow e =
    only_full (length lineage == most) (not (is_earlier (length lineage) sire)) (not (is_earlier (length lineage) dam))
    (nat_lt l (depth_from (depth_at lineage) sire dam)) fault (ap not early_sire) (ap not early_dam)
    (le-ltb l (depth_from (depth_at lineage) sire dam) shallow) e

abbrev made : Option ℕ → Option ℕ → ℕ → Parents
made sire dam depth = record { sire = sire; dam = dam; depth = depth }

module _ (rows : List Row) (lawful : IsFrozen DEPTH_LIMIT MOST_ANIMALS rows)
    (tree : IsLineage DEPTH_LIMIT MOST_ANIMALS (map parents_of rows)) (place : ℕ) (inside : place < length rows) where
  abbrev whole : List Parents
  whole = map parents_of rows

  abbrev places : List ℕ
  places = places_shown rows place

  abbrev shown : List CertifiedRow
  shown = rows_at rows places

  abbrev place_at : ℕ → ℕ
  place_at k = get_or places k 0

  whole-long : length whole ≡ length rows
  whole-long = length-map rows parents_of

  pub within : All (λ p. p < length rows) places
  within = subst (λ (n : ℕ). All (λ p. p < n) places) whole-long (with_ancestors-within whole place)

  pub ascend : IsAscending places
  ascend = with_ancestors-ascend whole place

  pub long : length shown ≡ length places
  long = shown-long rows places within

  pub few : length shown ≤ MOST_ANIMALS
  few =
      let kept = with_ancestors-few whole place in
      let most = tree.few in
      let each = long in
      omega (arith, kept, most, each)

  pub at-within : (k : ℕ) → k < length shown → slice_get places k ≡ Some (place_at k)
  at-within k low = let each = long in slice_get-get_or places k 0 (omega (arith, low, each))

  at_below : (k : ℕ) → k < length shown → place_at k < length whole
  at_below k low =
      let bound = at_of_all (λ p. p < length rows) places k (place_at k) within (at-within k low) in
      let same = whole-long in
      omega (arith, bound, same)

  pub shown-ascend : (i j : ℕ) (one two : CertifiedRow) → i < j → slice_get shown i ≡ Some one
      → slice_get shown j ≡ Some two
      → one.place < two.place
  shown-ascend i j one two low at_one at_two =
      let a = shown_back rows places within i one at_one in
      let b = shown_back rows places within j two at_two in
      ascending_at places ascend i j one.place two.place low a.place b.place

  -- whoever a path leads to from the animal is shown
  reached : (n z : ℕ) → PathTo (ranked whole) n place z → Contains places z
  reached n z path =
      let same = whole-long in
      with_ancestors-reached DEPTH_LIMIT MOST_ANIMALS whole place tree (omega (arith, inside, same)) n z path

  pub animal-shown : Contains places place
  unfolding PathTo
  animal-shown = reached 0 place refl

  path-at : (k p : ℕ) → slice_get places k ≡ Some p → (n : ℕ) × PathTo (ranked whole) n place p
  path-at k p at = with_ancestors-path whole place p (
    k,
    slice_get_within places k p at,
    get_or_from_slice_get
        places k p p at,
  )

  -- so are the parents of each that is shown
  parent-shown : (k p q : ℕ) → slice_get places k ≡ Some p → IsParentIn (ranked whole) q p → Contains places q
  unfolding PathTo
  parent-shown k p q at is =
      let path = path-at k p at in
      reached (path.0 + 1) q (path_to-joined (ranked whole) path.0 1 place p q path.1 (q, is, refl))

  -- the parents of a row that is shown
  module _ (k : ℕ) (c : CertifiedRow) (at : slice_get shown k ≡ Some c) where
    its : IsShownAt rows places k c
    its = shown_back rows places within k c at

    pub sire-is : sire_rank whole c.place ≡ c.sire
    sire-is = sire-there rows c.place its.row its.its ∙ ap (λ (x : CertifiedRow). x.sire) (sym its.is)

    pub dam-is : dam_rank whole c.place ≡ c.dam
    dam-is = dam-there rows c.place its.row its.its ∙ ap (λ (x : CertifiedRow). x.dam) (sym its.is)

    known : IsFrozenRow rows its.row
    known = lawful.each c.place its.row its.its

    sire-rank : IsRankOf rows c.sire c.record.animal.sire
    sire-rank = subst (λ (x : CertifiedRow). IsRankOf rows x.sire x.record.animal.sire) (sym its.is) known.sire

    dam-rank : IsRankOf rows c.dam c.record.animal.dam
    dam-rank = subst (λ (x : CertifiedRow). IsRankOf rows x.dam x.record.animal.dam) (sym its.is) known.dam

    pub sire_lacks : ¬ (IsLacking shown c.sire c.record.animal.sire)
    sire_lacks =
        not_lacking rows places within c.sire c.record.animal.sire sire-rank
        (λ p e. parent-shown k c.place p its.place (inl (sire-is ∙ e)))

    pub dam_lacks : ¬ (IsLacking shown c.dam c.record.animal.dam)
    dam_lacks =
        not_lacking rows places within c.dam c.record.animal.dam dam-rank
        (λ p e. parent-shown k c.place p its.place (inr (dam-is ∙ e)))

    pub sire_misnamed : ¬ (IsMisnamed shown c.sire c.record.animal.sire)
    sire_misnamed = not_misnamed rows places within c.sire c.record.animal.sire sire-rank

    pub dam_misnamed : ¬ (IsMisnamed shown c.dam c.record.animal.dam)
    dam_misnamed = not_misnamed rows places within c.dam c.record.animal.dam dam-rank

  -- a lineage of the first of these rows
  module _ (lineage : List Parents) (is_lineage : IsLineage DEPTH_LIMIT MOST_ANIMALS lineage) (linked : AreLinked
      shown lineage)
      (first : length lineage ≤ length shown) where
    row-at : (k : ℕ) → k < length lineage → (c : CertifiedRow) × (slice_get shown k ≡ Some c)
    row-at k low = there shown k (omega (arith, low, first))

    place-is : (k : ℕ) (c : CertifiedRow) → slice_get shown k ≡ Some c → place_at k ≡ c.place
    place-is k c at = get_or_from_slice_get places k c.place 0 (shown_back rows places within k c at).place

    sire-same : (k : ℕ) → k < length lineage → sire_rank whole (place_at k) ≡ option_map place_at (sire_rank lineage k)
    sire-same k low =
        let c = row-at k low in
        let parents = there lineage k low in
        ap (λ (p : ℕ). sire_rank whole p) (place-is k c.0 c.1)
        ∙ sire-is k c.0 c.1
        ∙ link-place rows places within c.0.sire c.0.record.animal.sire parents.0.sire (linked k c.0 parents.0 c.1
        parents.1).0
        ∙ sym (ap (λ (o : Option Parents). option_map place_at (option_and_then (λ (p : Parents). p.sire) o)) parents.1)

    dam-same : (k : ℕ) → k < length lineage → dam_rank whole (place_at k) ≡ option_map place_at (dam_rank lineage k)
    dam-same k low =
        let c = row-at k low in
        let parents = there lineage k low in
        ap (λ (p : ℕ). dam_rank whole p) (place-is k c.0 c.1)
        ∙ dam-is k c.0 c.1
        ∙ link-place rows places within c.0.dam c.0.record.animal.dam parents.0.dam (linked k c.0 parents.0 c.1
        parents.1).1
        ∙ sym (ap (λ (o : Option Parents). option_map place_at (option_and_then (λ (p : Parents). p.dam) o)) parents.1)

    -- depths are those of the whole
    depth-same : (n k : ℕ) → k < n → k < length lineage → depth_at lineage k ≡ depth_at whole (place_at k)
    depth-same zero k low short = absurd (omega (arith, low))
    depth-same (suc n) k low short =
        let sires : depth_above (depth_at lineage) (sire_rank lineage k) ≡ depth_above (depth_at whole) (sire_rank
        whole (place_at k)) =
        above_same (depth_at lineage) (depth_at whole) place_at (sire_rank lineage k)
        (λ j e. let less = is_lineage.sire k j e in depth-same n j (omega (arith, less, low)) (omega (
          arith,
          less,
          short,
        )))
        ∙ ap (λ (o : Option ℕ). depth_above (depth_at whole) o) (sym (sire-same k short)) in
        let dams : depth_above (depth_at lineage) (dam_rank lineage k) ≡ depth_above (depth_at whole) (dam_rank
        whole (place_at k)) =
        above_same (depth_at lineage) (depth_at whole) place_at (dam_rank lineage k)
        (λ j e. let less = is_lineage.dam k j e in depth-same n j (omega (arith, less, low)) (omega (
          arith,
          less,
          short,
        )))
        ∙ ap (λ (o : Option ℕ). depth_above (depth_at whole) o) (sym (dam-same k short)) in
        is_lineage.depth k short
        ∙ ap (λ (m : ℕ). max m (depth_above (depth_at lineage) (dam_rank lineage k))) sires
        ∙ ap (λ (m : ℕ). max (depth_above (depth_at whole) (sire_rank whole (place_at k))) m) dams
        ∙ sym (tree.depth (place_at k) (at_below k (omega (arith, short, first))))

    -- the parents of the next row come before it, and aren't too far above
    link-depth : (c : CertifiedRow) → (parent : Option ℕ) (number : Option (List ℕ)) (rank : Option ℕ)
        → IsLink shown parent number rank
        → ((j : ℕ) → rank ≡ Some j → j < length lineage)
        → depth_above (depth_at lineage) rank ≡ depth_above (depth_at whole) parent
    link-depth c parent number rank link early =
        above_same (depth_at lineage) (depth_at whole) place_at rank (λ j e. depth-same (suc j) j (omega arith)
        (early j e))
        ∙ ap (λ (o : Option ℕ). depth_above (depth_at whole) o) (sym (link-place rows places within parent number
        rank link))

    pub only-full : (c : CertifiedRow) (fault : LineageFault) → slice_get shown (length lineage) ≡ Some c
        → IsNotNext shown lineage c fault
        → fault ≡ Full
    only-full c fault at next =
        let its_place = (shown_back rows places within (length lineage) c at).place in
        let sire_early : (j : ℕ) → next.sire ≡ Some j → j < length lineage = λ j e.
        (let above : sire_rank whole c.place ≡ Some (place_at j) =
        sire-is (length lineage) c at ∙ link-place rows places within c.sire c.record.animal.sire next.sire
        next.sire_shown
        ∙ ap (λ (o : Option ℕ). option_map place_at o) e in
        rank_below places ascend j (length lineage) (place_at j) c.place
        (link_within rows places within c.sire c.record.animal.sire next.sire next.sire_shown j e) its_place
        (tree.sire c.place (place_at j) above)) in
        let dam_early : (j : ℕ) → next.dam ≡ Some j → j < length lineage = λ j e.
        (let above : dam_rank whole c.place ≡ Some (place_at j) =
        dam-is (length lineage) c at ∙ link-place rows places within c.dam c.record.animal.dam next.dam next.dam_shown
        ∙ ap (λ (o : Option ℕ). option_map place_at o) e in
        rank_below places ascend j (length lineage) (place_at j) c.place
        (link_within rows places within c.dam c.record.animal.dam next.dam next.dam_shown j e) its_place (tree.dam
        c.place (place_at j) above)) in
        let inside_whole : c.place < length whole =
        (let bound = at_of_all (λ p. p < length rows) places (length lineage) c.place within its_place in
        let same = whole-long in omega (arith, bound, same)) in
        let depth : depth_from (depth_at lineage) next.sire next.dam ≡ depth_at whole c.place =
        ap (λ (m : ℕ). max m (depth_above (depth_at lineage) next.dam))
        (link-depth c c.sire c.record.animal.sire next.sire next.sire_shown sire_early)
        ∙ ap (λ (m : ℕ). max (depth_above (depth_at whole) c.sire) m) (link-depth c c.dam c.record.animal.dam
        next.dam next.dam_shown dam_early)
        ∙ ap (λ (o : Option ℕ). depth_from (depth_at whole) o c.dam) (sym (sire-is (length lineage) c at))
        ∙ ap (λ (o : Option ℕ). depth_from (depth_at whole) (sire_rank whole c.place) o) (sym (dam-is (length
        lineage) c at))
        ∙ sym (tree.depth c.place inside_whole) in
        let shallow = tree.shallow c.place inside_whole in
        first_full DEPTH_LIMIT MOST_ANIMALS lineage next.sire next.dam fault (earlier_is (length lineage) next.sire
        sire_early)
        (earlier_is (length lineage) next.dam dam_early) (omega (arith, depth, shallow)) next.fault_is

    -- a path of the whole between rows that are shown is one of theirs
    pub path_down : (n x y i j : ℕ) → PathTo (ranked whole) n x y → slice_get places i ≡ Some x
        → slice_get places j ≡ Some y
        → i < length lineage → PathTo (ranked lineage) n i j
    unfolding PathTo
    path_down zero x y i j path at_i at_j low =
        same_rank places ascend i j x at_i (at_j ∙ ap (λ (z : ℕ). Some z) (sym path))
    path_down (suc n) x y i j path at_i at_j low =
        let q = path.0 in
        let is_x : place_at i ≡ x = get_or_from_slice_get places i x 0 at_i in
        elim path.1 [
          | inl s ↦
              (let up = over_map place_at (sire_rank lineage i) q (sym s
              ∙ ap (λ (p : ℕ). sire_rank whole p) (sym is_x) ∙ sire-same i low) in
              let less = is_lineage.sire i up.0 up.1 in
              let at_q = at-within up.0 (omega (arith, less, low, first)) ∙ ap (λ (z : ℕ). Some z) up.2 in
              (up.0, inl up.1, path_down n q y up.0 j path.2 at_q at_j (omega (arith, less, low))))
          | inr d ↦
              (let up = over_map place_at (dam_rank lineage i) q (sym d
              ∙ ap (λ (p : ℕ). dam_rank whole p) (sym is_x) ∙ dam-same i low) in
              let less = is_lineage.dam i up.0 up.1 in
              let at_q = at-within up.0 (omega (arith, less, low, first)) ∙ ap (λ (z : ℕ). Some z) up.2 in
              (up.0, inr up.1, path_down n q y up.0 j path.2 at_q at_j (omega (arith, less, low))))
        ]

    -- the lineage of all of them is the whole, pruned
    pub pruned : length lineage ≡ length shown → IsPrunedOf whole (record { lineage = lineage; ranks = places })
    pruned all = record {
      each = all ∙ long;
      order = λ i j low short.
          let each = long in
          ascending_at places ascend i j (place_at i) (place_at j) low (at-within i (omega (arith, low, short, each)))
          (at-within j (omega (arith, short, each)));
      parents = λ i kept at.
          let short = slice_get_within lineage i kept at in
          let w = there whole (place_at i) (at_below i (omega (arith, short, first))) in
          let sire : w.0.sire ≡ option_map place_at kept.sire =
          ap (λ (o : Option Parents). option_and_then (λ (p : Parents). p.sire) o) (sym w.1) ∙ sire-same i short
          ∙ ap (λ (o : Option Parents). option_map place_at (option_and_then (λ (p : Parents). p.sire) o)) at in
          let dam : w.0.dam ≡ option_map place_at kept.dam =
          ap (λ (o : Option Parents). option_and_then (λ (p : Parents). p.dam) o) (sym w.1) ∙ dam-same i short
          ∙ ap (λ (o : Option Parents). option_map place_at (option_and_then (λ (p : Parents). p.dam) o)) at in
          let depth : w.0.depth ≡ kept.depth =
          sym (depth_at-row whole (place_at i) w.0 w.1) ∙ sym (depth-same (suc i) i (omega arith) short)
          ∙ depth_at-row lineage i kept at in
          w.1
          ∙ ap (λ (o : Option ℕ). Some (made o w.0.dam w.0.depth)) sire
          ∙ ap (λ (o : Option ℕ). Some (made (option_map place_at kept.sire) o w.0.depth)) dam
          ∙ ap (λ (n : ℕ). Some (made (option_map place_at kept.sire) (option_map place_at kept.dam) n)) depth;
    }
