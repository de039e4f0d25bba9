-- No fault is found in the certificate of an animal of a lawful book, cause by cause.
use Rattle.std.proofs.Common.{◌≡◌, ◌≢◌, ◌∙◌, inl, inr, ℕ, ◌-◌, ◌<◌, List, [], ◌∷◌}
use Rattle.std.proofs.Common.{length, map, codes, slice_get, get_or, Option, Some, unwrap_or, All}
use Rattle.std.proofs.Common.{refl, sym, ap, arith}
use Rattle.std.specs.Option.{option_map}
use Rattle.std.proofs.lemmas.List.{length-map}
use Rattle.std.proofs.lemmas.List.Elements.{All-head, All-tail}
use Rattle.std.proofs.lemmas.Option.{get_or_from_slice_get, same_Some, slice_get-get_or, slice_get-map}
use Rattle.std.proofs.lemmas.Option.{slice_get_within}
use Rattle.merkle_tree.specs.Shown.{Found, LieWithin, beside, found, shown_at, shown_of}
use Rattle.merkle_tree.specs.Tree.{digests_of, row_digest, tree_root}
use Rattle.merkle_tree.specs.declared.shown.Shown.{Shown}
use Rattle.merkle_tree.proofs.lemmas.Whole.{found_complete}
use Rattle.herd_frozen.specs.declared.TheConstants.{DEPTH_LIMIT, MOST_ANIMALS}
use Rattle.herd_frozen.specs.declared.freezing.frozen.Row.{Row}
use Rattle.herd_frozen.specs.freezing.Frozen.{IsFrozen, numbers_of, parents_of}
use Rattle.herd_kinship.specs.Coefficients.{coefficient_at}
use Rattle.herd_lineage.specs.Lineage.{IsLineage}
use Rattle.herd_lineage.specs.declared.lineage.Parents.{Parents}
use Rattle.herd_lineage.specs.declared.lineage_fault.LineageFault.{LineageFault}
use Rattle.herd_lineage.specs.declared.lineage_fault.LineageFault.TheVariants.{Dam, Full, Sire}
use Rattle.herd_lineage.specs.declared.lineage_fault.LineageFault.TheVariants.{TooDeep as TooFarAbove}
use Rattle.herd_lineage.proofs.lemmas.Contained.{contains_here}
use Rattle.herd_lineage.proofs.lemmas.ListFacts.{there}
use Rattle.herd_pruned.proofs.lemmas.EntryFacts.{coefficient-kept}
use Rattle.herd_text.specs.CoefficientText.{coefficient_text}
use Rattle.herd_seal.specs.Certificate.{IsAnimalAt, IsClosed, leaf_of, leaves_of}
use Rattle.herd_seal.specs.CheckFaults.{HasParentFault, HasWrongCoefficient, HasWrongDigests, HasWrongSeal, IsLacking}
use Rattle.herd_seal.specs.CheckFaults.{IsMisnamed, IsNotNext, IsNotShown, IsOfOthers, IsOutOfOrder, IsPartsFault}
use Rattle.herd_seal.specs.CheckFaults.{OfAParent}
use Rattle.herd_seal.specs.Seal.{row_text, rows_of, seal_of, seal_over}
use Rattle.herd_seal.specs.declared.certificate.CertifiedRow.{CertifiedRow}
use Rattle.herd_seal.specs.declared.check_fault.CheckCause.{CheckCause}
use Rattle.herd_seal.specs.declared.check_fault.CheckCause.TheVariants.{Coefficient, Digests, Header, Memory, Number}
use Rattle.herd_seal.specs.declared.check_fault.CheckCause.TheVariants.{Order, ParentLacks, ParentNumber, Read}
use Rattle.herd_seal.specs.declared.check_fault.CheckCause.TheVariants.{Row as RowCause, Seal, TooDeep, TooMany}
use Rattle.herd_certificate.specs.Sealed.{certified, claim_at, parts_at, places_shown, rows_at}
use Rattle.herd_certificate.proofs.AncestorFacts.{with_ancestors-path}
use Rattle.herd_certificate.proofs.FaultlessFacts.{animal-shown, ascend, dam_lacks, dam_misnamed, few}
use Rattle.herd_certificate.proofs.FaultlessFacts.{only-full, path_down, pruned, shown-ascend, sire_lacks}
use Rattle.herd_certificate.proofs.FaultlessFacts.{sire_misnamed, within}
use Rattle.herd_certificate.proofs.ShownFacts.{at_of_all, one_at, shown_at_rank, shown_back}

-- the rows of a book have the digests of their bytes
leaf-is : (rows : List Row) (place : ℕ) (row : Row) → slice_get rows place ≡ Some row
    → leaf_of (certified place row) ≡ shown_at (digests_of (rows_of rows)) place
leaf-is rows place row at =
    let text = λ (r : Row). row_text r.sire r.dam r.number r.animal in
    let digest : slice_get (digests_of (rows_of rows)) place ≡ Some (row_digest (text row)) =
    slice_get-map row_digest (rows_of rows) place
    ∙ ap (λ (o : Option (List ℕ)). option_map row_digest o) (slice_get-map text rows place
    ∙ ap (λ (o : Option Row). option_map text o) at) in
    let leaf : List ℕ → Shown = λ d. record { place = place; digest = d } in
    sym (ap (λ (o : Option (List ℕ)). leaf (unwrap_or o [])) digest)

leaves-are : (rows : List Row) (places : List ℕ) → All (λ place. place < length rows) places
    → leaves_of (rows_at rows places) ≡ shown_of (digests_of (rows_of rows)) places
leaves-are rows [] within = refl
leaves-are rows (place ∷ places) within =
    let row = there rows place (All-head (λ p. p < length rows) place places within) in
    ap (λ (l : List CertifiedRow). leaves_of l) (one_at rows place places row.0 row.1)
    ∙ ap (λ (s : Shown). s ∷ leaves_of (rows_at rows places)) (leaf-is rows place row.0 row.1)
    ∙ ap (λ (l : List Shown). shown_at (digests_of (rows_of rows)) place ∷ l)
    (leaves-are rows places (All-tail (λ p. p < length rows) place places within))

module _ (rows : List Row) (lawful : IsFrozen DEPTH_LIMIT MOST_ANIMALS rows)
    (tree : IsLineage DEPTH_LIMIT MOST_ANIMALS (map parents_of rows)) (place : ℕ) (inside : place < length rows) where
  abbrev whole : List Parents
  whole = map parents_of rows

  abbrev places : List ℕ
  places = places_shown rows place

  abbrev shown : List CertifiedRow
  shown = rows_at rows places

  places-within : All (λ p. p < length rows) places
  places-within = within rows lawful tree place inside

  in_order : (at : ℕ) → ¬ (IsOutOfOrder shown at)
  in_order at = λ wrong.
      let later = wrong.later in
      wrong.wrong (λ one two at_one at_two. shown-ascend rows lawful tree place inside (at - 1) at one two (omega
      (arith, later)) at_one at_two)

  -- the parents of each row
  not_of_a_parent : (at : ℕ) (c : CertifiedRow) → slice_get shown at ≡ Some c
      → ¬ (OfAParent IsLacking shown c) × ¬ (OfAParent IsMisnamed shown c)
  not_of_a_parent at c is = (
    λ wrong. elim wrong [
      | inl s ↦ sire_lacks rows lawful tree place inside at c is s
      | inr d ↦ dam_lacks rows lawful tree place inside at c is d.2
    ],
    λ wrong. elim wrong [
      | inl s ↦ sire_misnamed rows lawful tree place inside at c is s
      | inr d ↦ dam_misnamed rows lawful tree place inside at c is d.2
    ],
  )

  next_full : (cause : CheckCause) (at : ℕ) (wrong : HasParentFault shown cause at) (fault : LineageFault)
      → IsNotNext shown wrong.lineage wrong.row fault → fault ≡ Full
  next_full cause at wrong fault next =
      let low = slice_get_within shown at wrong.row wrong.there in
      let each = wrong.before.each in
      only-full rows lawful tree place inside wrong.lineage wrong.before.is_lineage wrong.before.linked (omega
      (arith, low, each)) wrong.row fault
      (ap (λ (k : ℕ). slice_get shown k) each ∙ wrong.there) next

  parents_shown : (at : ℕ) → ¬ (HasParentFault shown ParentLacks at)
  parents_shown at = λ wrong.
      elim wrong.wrong [
        | inl lacks ↦ (not_of_a_parent at wrong.row wrong.there).0 lacks
        | inr next ↦ elim next [
          | inl s ↦ (let e = next_full ParentLacks at wrong Sire s in cc)
          | inr d ↦ (let e = next_full ParentLacks at wrong Dam d in cc)
        ]
      ]

  parents_named : (at : ℕ) → ¬ (HasParentFault shown ParentNumber at)
  parents_named at = λ wrong. (not_of_a_parent at wrong.row wrong.there).1 wrong.wrong

  not_too_deep : (at : ℕ) → ¬ (HasParentFault shown TooDeep at)
  not_too_deep at = λ wrong. let e = next_full TooDeep at wrong TooFarAbove wrong.wrong in absurd (cc)

  -- the animal is shown, by its number
  animal-is : (steps : ℕ) → ¬ (IsNotShown shown (claim_at rows steps place))
  animal-is steps = λ wrong.
      let c = animal-shown rows lawful tree place inside in
      let at : slice_get places c.0 ≡ Some place = slice_get-get_or places c.0 place c.1 ∙ ap (λ (x : ℕ). Some x) c.2 in
      let row = there rows place inside in
      let number : row.0.number ≡ get_or (numbers_of rows) place [] =
      sym (get_or_from_slice_get (numbers_of rows) place row.0.number []
      (slice_get-map (λ (r : Row). r.number) rows place
      ∙ ap (λ (o : Option Row). option_map (λ (r : Row). r.number) o) row.1)) in
      at_of_all (λ (r : CertifiedRow). r.place ≡ place
      → r.record.number ≢ get_or (numbers_of rows) place []) shown c.0 (certified place row.0)
      wrong.wrong (shown_at_rank rows places places-within c.0 place row.0 at row.1) refl number

  -- what is known of the rank of the animal's row
  rank-place : (rank steps : ℕ) → IsAnimalAt shown rank (claim_at rows steps place) → slice_get places rank ≡ Some place
  rank-place rank steps animal =
      (shown_back rows places places-within rank animal.0 animal.1).place ∙ ap (λ (p : ℕ). Some p) animal.2

  no_stranger : (steps at : ℕ) → ¬ (IsOfOthers shown (claim_at rows steps place) at)
  no_stranger steps at = λ wrong.
      let low = wrong.stranger.within in
      let each = wrong.linked.each in
      let c = there shown at (omega (arith, low, each)) in
      let its = shown_back rows places places-within at c.0 c.1 in
      let path = with_ancestors-path whole place c.0.place (
        at,
        slice_get_within places at c.0.place its.place,
        get_or_from_slice_get places at c.0.place c.0.place its.place,
      ) in
      let here = rank-place wrong.rank steps wrong.animal in
      let inside_rows = slice_get_within shown wrong.rank wrong.animal.0 wrong.animal.1 in
      wrong.stranger.wrong (
        wrong.rank,
        contains_here wrong.rank [],
        path.0,
        path_down rows lawful tree place inside wrong.lineage wrong.linked.is_lineage wrong.linked.linked (omega
            (arith, each)) path.0 place c.0.place wrong.rank at
            path.1 here its.place (omega (arith, inside_rows, each)),
      )

  -- the root that the rows and the digests beside them give
  found-is : found (length rows) (leaves_of shown) (beside (digests_of (rows_of rows)) places)
      ≡ Some (record { root = tree_root (digests_of (rows_of rows)); left = [] })
  found-is =
      let most = tree.few in
      let same = length-map rows parents_of in
      let lie : LieWithin 0 (length rows) places = λ k d low. (omega arith, places-within k d low) in
      found_complete (length rows) (leaves_of shown) (beside (digests_of (rows_of rows)) places) (omega (
        arith,
        most,
        same,
      ))
      (digests_of (rows_of rows)) places
      (length-map (rows_of rows) row_digest ∙ length-map rows (λ (r : Row). row_text r.sire r.dam r.number r.animal))
      (ascend rows lawful tree place inside) lie (leaves-are rows places places-within) refl

  all_digests : (steps : ℕ) → ¬ (HasWrongDigests (parts_at rows steps place))
  all_digests steps = λ wrong. wrong.wrong (ap (λ (o : Option Found). option_map (λ (f : Found). f.left) o) found-is)

  root-is : (f : Found) → found (length rows) (leaves_of shown) (beside (digests_of (rows_of rows)) places) ≡ Some f
      → tree_root (digests_of (rows_of rows)) ≡ f.root
  root-is f e =
      let top : Found = record { root = tree_root (digests_of (rows_of rows)); left = [] } in
      ap (λ (x : Found). x.root) (same_Some top f (sym found-is ∙ e))

  seal-is : (steps : ℕ) (root : List ℕ) → tree_root (digests_of (rows_of rows)) ≡ root
      → seal_over (length rows) steps root ≡ seal_of steps (rows_of rows)
  unfolding seal_of
  seal-is steps root e =
      ap (λ (r : List ℕ). seal_over (length rows) steps r) (sym e)
      ∙ ap (λ (n : ℕ). seal_over n steps (tree_root (digests_of (rows_of rows)))) (sym (length-map rows (λ (r :
      Row). row_text r.sire r.dam r.number r.animal)))

  right_seal : (steps : ℕ) → ¬ (HasWrongSeal (seal_of steps (rows_of rows)) (parts_at rows steps place))
  right_seal steps = λ wrong.
      elim wrong.wrong [
        | inl none ↦ omega (arith, none, inside)
        | inr other ↦ elim other [
          | inl over ↦ over (seal-is steps wrong.f.root (root-is wrong.f wrong.found_is))
          | inr told ↦ told refl
        ]
      ]

  coefficient-is : (steps : ℕ) (closed : IsClosed shown (claim_at rows steps place))
      → coefficient_at DEPTH_LIMIT closed.lineage closed.rank ≡ coefficient_at DEPTH_LIMIT whole place
  coefficient-is steps closed =
      let here = rank-place closed.rank steps closed.animal in
      let low = slice_get_within shown closed.rank closed.animal.0 closed.animal.1 in
      let each = closed.each in
      coefficient-kept DEPTH_LIMIT MOST_ANIMALS whole (record { lineage = closed.lineage; ranks = places })
      closed.is_lineage
      (pruned rows lawful tree place inside closed.lineage closed.is_lineage closed.linked (omega (arith, each))
      each) closed.rank place here
      (omega (arith, low, each)) (get_or_from_slice_get places closed.rank place 0 here)

  right_coefficient : (steps : ℕ) → ¬ (HasWrongCoefficient (seal_of steps (rows_of rows)) (parts_at rows steps place))
  right_coefficient steps = λ wrong.
      wrong.wrong (ap (λ (n : ℕ). coefficient_text (codes ",") n) (sym (coefficient-is steps wrong.closed)))

  -- but for memory nothing is wrong
  pub faultless : (steps : ℕ) (cause : CheckCause) (line : ℕ)
      → IsPartsFault (seal_of steps (rows_of rows)) (parts_at rows steps place) cause line
      → (cause ≡ Memory) × (line ≡ 0)
  faultless steps Memory line wrong = (refl, wrong)
  faultless steps TooMany line wrong = absurd (let many = wrong.1 in let most = few rows lawful tree place inside in
      omega (arith, many, most))
  faultless steps Order line wrong = absurd (in_order wrong.0 wrong.2)
  faultless steps ParentLacks line wrong = absurd (parents_shown wrong.0 wrong.2)
  faultless steps ParentNumber line wrong = absurd (parents_named wrong.0 wrong.2)
  faultless steps TooDeep line wrong = absurd (not_too_deep wrong.0 wrong.2)
  faultless steps Number line wrong = absurd (animal-is steps wrong.1)
  faultless steps RowCause line wrong = absurd (no_stranger steps wrong.0 wrong.2)
  faultless steps Digests line wrong = absurd (all_digests steps wrong.1)
  faultless steps Seal line wrong = absurd (right_seal steps wrong.1)
  faultless steps Coefficient line wrong = absurd (right_coefficient steps wrong.1)
  faultless steps Header line wrong = absurd wrong
  faultless steps Read line wrong = absurd wrong
