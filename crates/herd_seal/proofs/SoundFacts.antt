-- What was checked holds of all rows with the seal, or a collision is at hand.
use Rattle.std.proofs.Common.{◌≡◌, ◌⊎◌, ◌∙◌, ℕ, zero, suc, ◌-◌, ◌<◌, ◌^◌, List, [], ◌∷◌, ◌++◌, length, map, codes, slice_get, get_or, Option, Some, None, refl, sym, ap, subst, inl, inr, arith, lit<, unwrap_or, Contains, ⊎_elim, w64}
use Rattle.std.specs.List.{All}
use Rattle.std.specs.Option.{ForSome, option_map, option_and_then, option_to_list}
use Rattle.std.specs.Int.{from_be_bytes, to_be_bytes}
use Rattle.std.proofs.lemmas.Bool.{cases_order, eq-eqb, ne_eqb, lt-ltb, le-ltb}
use Rattle.std.proofs.lemmas.List.{length-map}
use Rattle.std.proofs.lemmas.List.Elements.{All-nil, All-cons, All-append, All-map, Contains-append_left, Contains-append_right}
use Rattle.std.proofs.lemmas.Nat.{from_be_bytes-to_be_bytes_8}
use Rattle.std.proofs.lemmas.Option.{get_or_from_slice_get, slice_get_within, slice_get-map}
use Rattle.sha2.specs.Sha256.{sha256}
use Rattle.merkle_tree.specs.Tree.{IsBytes, IsDigest, digests_of, row_digest, tree_root}
use Rattle.merkle_tree.specs.Shown.{AreDigests, Found, StandsIn, found, found_in}
use Rattle.merkle_tree.specs.Collision.{Collision, ShowsLeaves, checked_of, nodes_of}
use Rattle.std.specs.Prelude.{OnOk, Result, Ok, Err}
use Rattle.merkle_tree.specs.declared.shown.Part.{Part}
use Rattle.merkle_tree.specs.declared.shown.Shown.{Shown}
use Rattle.merkle_tree.proofs.lemmas.Digests.{bytes_high_first-bytes, contains_here, contains_later, contains_same, digest-is, front_same, back_same, kind_bytes, more_messages, same_or_collision, tail_same}
use Rattle.merkle_tree.proofs.lemmas.Sound.{tree_is_digest}
use Rattle.herd_lineage.specs.declared.lineage.Parents.{Parents}
use Rattle.herd_lineage.specs.declared.TheConstants.{DEPTH_LIMIT, MOST_ANIMALS}
use Rattle.herd_lineage.specs.Lineage.{IsLineage}
use Rattle.herd_lineage.proofs.lemmas.ListFacts.{there}
use Rattle.herd_kinship.specs.Coefficients.{coefficient_at}
use Rattle.herd_kinship.specs.Ranks.{ranked}
use Rattle.herd_kinship.specs.Table.{coefficient}
use Rattle.herd_kinship.proofs.lemmas.ancestry.LawfulAncestry.{IsIncluded}
use Rattle.herd_kinship.proofs.lemmas.ancestry.Renamed.{coefficient-included}
use Rattle.herd_kinship.proofs.lemmas.lineages.LineageFacts.{ranked-lawful}
use Rattle.herd_kinship.proofs.lemmas.lineages.Ranks.{rank-below, rank-in}
use Rattle.herd_text.specs.CoefficientText.{coefficient_text}
use Rattle.herd_seal.specs.Seal.{seal_message, seal_of, seal_over, sealed_messages}
use Rattle.herd_seal.specs.Certificate.{AreAncestors, AreLinked, DoAscend, IsAnimalAt, IsClosed, IsLink, IsSealed, IsTrueOf, checked_messages, dam_told, leaf_of, leaves_of, row_bytes, sire_told, told_by}
use Rattle.herd_seal.specs.declared.certificate.CertifiedRow.{CertifiedRow}
use Rattle.herd_seal.specs.declared.certificate.Claim.{Claim}
use Rattle.herd_seal.proofs.FieldFacts.{dam_again, sire_again}

all_at : {X : Type 0} (P : X → Type 0) (xs : List X) (i : ℕ) (x : X) → All P xs → slice_get xs i ≡ Some x → P x
all_at {X} P xs i x all e = subst (λ (y : X). P y) (get_or_from_slice_get xs i x x e) (all i x (slice_get_within xs i x e))

-- each of these, or one thing else
all_or : {X : Type 0} (P : X → Type 0) (C : Type 0) (xs : List X) → ((i : ℕ) (x : X) → slice_get xs i ≡ Some x → P x ⊎ C) → All P xs ⊎ C
all_or P C [] each = inl (All-nil P)
all_or P C (x ∷ xs) each =
    elim (each 0 x refl) [
      | inr c ↦ inr c
      | inl first ↦ elim (all_or P C xs (λ i y e. each (suc i) y e)) [
        | inl rest ↦ inl (All-cons P x xs first rest)
        | inr c ↦ inr c
      ]
    ]

contains_at : {X Y : Type 0} (f : X → Y) (xs : List X) (i : ℕ) (x : X) → slice_get xs i ≡ Some x → Contains (map f xs) (f x)
contains_at f [] i x e = absurd (cc)
contains_at {X} {Y} f (y ∷ ys) zero x e = let same : y ≡ x = cc in (zero, omega arith, ap (λ (z : X). f z) same)
contains_at f (y ∷ ys) (suc i) x e = let later = contains_at f ys i x e in let within = later.1 in (suc later.0, omega arith, later.2)

-- the rows have the coefficient that the shown ones have of their own
module _ (shown : List CertifiedRow) (lineage : List Parents) (rows : List (List ℕ)) (each : length lineage ≡ length shown)
    (is_lineage : IsLineage DEPTH_LIMIT MOST_ANIMALS lineage) (linked : AreLinked shown lineage) (ascend : DoAscend shown) (few : length rows < 2 ^ 64)
    (are : All (λ (row : CertifiedRow). slice_get rows row.place ≡ Some (row_bytes row)) shown) where
  place_of : ℕ → ℕ
  place_of rank = unwrap_or (option_map (λ (row : CertifiedRow). row.place) (slice_get shown rank)) 0

  place-at : (rank : ℕ) (row : CertifiedRow) → slice_get shown rank ≡ Some row → place_of rank ≡ row.place
  unfolding place_of
  place-at rank row e = ap (λ (o : Option CertifiedRow). unwrap_or (option_map (λ (r : CertifiedRow). r.place) o) 0) e

  row-at : (rank : ℕ) → rank < length lineage → (row : CertifiedRow) × (slice_get shown rank ≡ Some row)
  row-at rank low = there shown rank (omega (arith, low, each))

  in_order : (x y : ℕ) → x < y → y < length lineage → place_of x < place_of y
  in_order x y low within =
      let one = row-at x (omega arith) in
      let two = row-at y within in
      let step = ascend x y one.0 two.0 low one.1 two.1 in
      let first = place-at x one.0 one.1 in
      let second = place-at y two.0 two.1 in
      omega (arith, step, first, second)

  place-small : (rank : ℕ) (row : CertifiedRow) → slice_get shown rank ≡ Some row → row.place < 2 ^ 64
  place-small rank row e =
      let within = slice_get_within rows row.place (row_bytes row) (all_at (λ (r : CertifiedRow). slice_get rows r.place ≡ Some (row_bytes r)) shown rank row are e) in
      omega arith

  link-small : (place : Option ℕ) (number : Option (List ℕ)) (rank : Option ℕ) → IsLink shown place number rank → ForSome place (λ p. p < 2 ^ 64)
  link-small None number rank link = λ x e. absurd (cc)
  link-small (Some place) number rank link = λ x e.
      let same : place ≡ x = cc in
      subst (λ (p : ℕ). p < 2 ^ 64) same (subst (λ (p : ℕ). p < 2 ^ 64) link.4 (place-small link.0 link.1 link.3))

  link-place : (place : Option ℕ) (number : Option (List ℕ)) (rank : Option ℕ) → IsLink shown place number rank → place ≡ option_map place_of rank
  link-place None number rank link = sym (ap (λ (o : Option ℕ). option_map place_of o) link.1)
  link-place (Some place) number rank link =
      ap (λ (p : ℕ). Some p) (sym (place-at link.0 link.1 link.3 ∙ link.4)) ∙ sym (ap (λ (o : Option ℕ). option_map place_of o) link.2)

  told-row : (rank : ℕ) (row : CertifiedRow) → slice_get shown rank ≡ Some row → slice_get rows (place_of rank) ≡ Some (row_bytes row)
  told-row rank row e =
      ap (λ (p : ℕ). slice_get rows p) (place-at rank row e) ∙ all_at (λ (r : CertifiedRow). slice_get rows r.place ≡ Some (row_bytes r)) shown rank row are e

  sire-same : (rank : ℕ) → rank < length lineage → (told_by rows).sire (place_of rank) ≡ option_map place_of ((ranked lineage).sire rank)
  sire-same rank low =
      let row = row-at rank low in
      let parents = there lineage rank low in
      let link = (linked rank row.0 parents.0 row.1 parents.1).0 in
      ap (λ (o : Option (List ℕ)). option_and_then sire_told o) (told-row rank row.0 row.1)
      ∙ sire_again row.0.sire row.0.dam row.0.record.number row.0.record.animal (link-small row.0.sire row.0.record.animal.sire parents.0.sire link)
      ∙ link-place row.0.sire row.0.record.animal.sire parents.0.sire link
      ∙ sym (ap (λ (o : Option Parents). option_map place_of (option_and_then (λ (p : Parents). p.sire) o)) parents.1)

  dam-same : (rank : ℕ) → rank < length lineage → (told_by rows).dam (place_of rank) ≡ option_map place_of ((ranked lineage).dam rank)
  dam-same rank low =
      let row = row-at rank low in
      let parents = there lineage rank low in
      let links = linked rank row.0 parents.0 row.1 parents.1 in
      ap (λ (o : Option (List ℕ)). option_and_then dam_told o) (told-row rank row.0 row.1)
      ∙ dam_again row.0.sire row.0.dam row.0.record.number row.0.record.animal (link-small row.0.sire row.0.record.animal.sire parents.0.sire links.0)
      (link-small row.0.dam row.0.record.animal.dam parents.0.dam links.1)
      ∙ link-place row.0.dam row.0.record.animal.dam parents.0.dam links.1
      ∙ sym (ap (λ (o : Option Parents). option_map place_of (option_and_then (λ (p : Parents). p.dam) o)) parents.1)

  shown-included : IsIncluded (ranked lineage) (told_by rows) place_of
  shown-included =
      let n = length lineage in
      record {
        same = λ x y cx cy.
            let lx = rank-below n x cx in
            let ly = rank-below n y cy in
            ⊎_elim
            (λ (e : x ≡ y). rw (e, eq-eqb y y refl) (eq-eqb (place_of y) (place_of y) refl))
            (λ apart. ⊎_elim
            (λ (low : x < y). let o = in_order x y low ly in rw (ne_eqb x y (λ e. omega (arith, low, e))) (ne_eqb (place_of x) (place_of y) (λ e. omega (arith, o, e))))
            (λ (low : y < x). let o = in_order y x low lx in rw (ne_eqb x y (λ e. omega (arith, low, e))) (ne_eqb (place_of x) (place_of y) (λ e. omega (arith, o, e))))
            apart)
            (cases_order x y);
        before = λ x y cx cy.
            let lx = rank-below n x cx in
            let ly = rank-below n y cy in
            ⊎_elim
            (λ (e : x ≡ y). rw (e, le-ltb y y (omega arith)) (le-ltb (place_of y) (place_of y) (omega arith)))
            (λ apart. ⊎_elim
            (λ (low : x < y). let o = in_order x y low ly in rw (lt-ltb x y low) (lt-ltb (place_of x) (place_of y) o))
            (λ (low : y < x). let o = in_order y x low lx in rw (le-ltb x y (omega arith)) (le-ltb (place_of x) (place_of y) (omega (arith, o))))
            apart)
            (cases_order x y);
        sire = λ x cx. sire-same x (rank-below n x cx);
        dam = λ x cx. dam-same x (rank-below n x cx);
      }

  pub coefficient-shown : (rank : ℕ) (row : CertifiedRow) → slice_get shown rank ≡ Some row → coefficient_at DEPTH_LIMIT lineage rank ≡ coefficient (told_by rows) DEPTH_LIMIT row.place
  coefficient-shown rank row e =
      let within = slice_get_within shown rank row e in
      sym (coefficient-included (ranked lineage) (told_by rows) place_of (ranked-lawful DEPTH_LIMIT MOST_ANIMALS lineage is_lineage) shown-included DEPTH_LIMIT rank (rank-in (length lineage) rank (omega (arith, within, each))))
      ∙ ap (λ (p : ℕ). coefficient (told_by rows) DEPTH_LIMIT p) (place-at rank row e)

-- a seal's message is of bytes, and tells its numbers
to_be-bytes : (n : ℕ) → IsBytes (to_be_bytes w64 n)
to_be-bytes n = bytes_high_first-bytes 8 n

message-bytes : (animals steps : ℕ) (root : List ℕ) → IsBytes root → IsBytes (seal_message animals steps root)
message-bytes animals steps root bytes =
    kind_bytes 2 (to_be_bytes w64 animals ++ to_be_bytes w64 steps ++ root) (lit< tt) (All-append (λ b. b < 256) (to_be_bytes w64 animals ++ to_be_bytes w64 steps) root
    (All-append (λ b. b < 256) (to_be_bytes w64 animals) (to_be_bytes w64 steps) (to_be-bytes animals) (to_be-bytes steps)) bytes)

number_same : (a b : ℕ) → a < 2 ^ 64 → b < 2 ^ 64 → to_be_bytes w64 a ≡ to_be_bytes w64 b → a ≡ b
number_same a b small_a small_b e = sym (from_be_bytes-to_be_bytes_8 a small_a) ∙ ap (λ (l : List ℕ). from_be_bytes w64 l) e ∙ from_be_bytes-to_be_bytes_8 b small_b

pub record SameSeal (animals steps : ℕ) (root : List ℕ) (count so_many : ℕ) (other : List ℕ) : Type 0 where
  pub animals_same : animals ≡ count
  pub steps_same : steps ≡ so_many
  pub root_same : root ≡ other

same_seal : (animals steps : ℕ) (root : List ℕ) (count so_many : ℕ) (other : List ℕ) → animals < 2 ^ 64 → steps < 2 ^ 64 → count < 2 ^ 64 → so_many < 2 ^ 64
    → seal_message animals steps root ≡ seal_message count so_many other → SameSeal animals steps root count so_many other
same_seal animals steps root count so_many other a b c d e =
    let whole = tail_same 2 _ _ e in
    let one = to_be_bytes w64 animals ++ to_be_bytes w64 steps in
    let two = to_be_bytes w64 count ++ to_be_bytes w64 so_many in
    let numbers = front_same one root two other 16 refl refl whole in
    record {
      animals_same = number_same animals count a c (front_same (to_be_bytes w64 animals) (to_be_bytes w64 steps) (to_be_bytes w64 count) (to_be_bytes w64 so_many) 8 refl refl numbers);
      steps_same = number_same steps so_many b d (back_same (to_be_bytes w64 animals) (to_be_bytes w64 steps) (to_be_bytes w64 count) (to_be_bytes w64 so_many) 8 refl refl numbers);
      root_same = back_same one root two other 16 refl refl whole;
    }

digests-are : (rows : List (List ℕ)) → All IsDigest (digests_of rows)
digests-are rows = All-map IsDigest row_digest rows (λ k d within. digest-is (0 ∷ get_or rows k d))

tree-bytes : (rows : List (List ℕ)) → IsBytes (tree_root (digests_of rows))
unfolding tree_root
tree-bytes rows = (tree_is_digest 64 (digests_of rows) (digests-are rows)).0

-- a leaf that stands there is a row with its digest
row_under : (rows : List (List ℕ)) (place : ℕ) (d : List ℕ) → slice_get (digests_of rows) place ≡ Some d → (row : List ℕ) × (slice_get rows place ≡ Some row) × (d ≡ row_digest row)
row_under [] place d e = absurd (cc)
row_under (row ∷ rows) zero d e = let is : row_digest row ≡ d = cc in (row, refl, sym is)
row_under (row ∷ rows) (suc place) d e = row_under rows place d e

checked-head : (claim : Claim) (shown : List CertifiedRow) (digests : List (List ℕ)) (f : Found) → found claim.animals (leaves_of shown) digests ≡ Some f
    → checked_messages claim shown digests ≡ seal_message claim.animals claim.steps f.root ∷ (map (λ (row : CertifiedRow). 0 ∷ row_bytes row) shown ++ checked_of claim.animals (leaves_of shown) digests)
unfolding checked_messages
checked-head claim shown digests f e =
    ap (λ (o : Option Found). option_to_list (option_map (λ (f : Found). seal_message claim.animals claim.steps f.root) o)
    ++ (map (λ (row : CertifiedRow). 0 ∷ row_bytes row) shown ++ checked_of claim.animals (leaves_of shown) digests)) e

sealed-head : (steps : ℕ) (rows : List (List ℕ)) → sealed_messages steps rows ≡ seal_message (length rows) steps (tree_root (digests_of rows)) ∷ (map (λ row. 0 ∷ row) rows ++ nodes_of (digests_of rows))
unfolding sealed_messages
sealed-head steps rows = refl

seal-is : (steps : ℕ) (rows : List (List ℕ)) (seal : List ℕ) → seal_of steps rows ≡ seal → sha256 (seal_message (length rows) steps (tree_root (digests_of rows))) ≡ seal
unfolding seal_of
seal-is steps rows seal e = e

shows-at : (count : ℕ) (shown : List Shown) (digests : List (List ℕ)) (root : List ℕ) → ShowsLeaves count shown digests root → (leaves : List (List ℕ)) → All IsDigest leaves → length leaves ≡ count
    → tree_root leaves ≡ root → All (StandsIn 0 leaves) shown ⊎ Collision (checked_of count shown digests) (nodes_of leaves)
unfolding ShowsLeaves
shows-at count shown digests root shows = shows

module _ (seal : List ℕ) (claim : Claim) (shown : List CertifiedRow) (told : List ℕ) (digests : List (List ℕ)) (f : Found)
    (animals_fit : claim.animals < 2 ^ 64) (steps_fit : claim.steps < 2 ^ 64) (bytes : All (λ (row : CertifiedRow). IsBytes (row_bytes row)) shown)
    (found_is : found claim.animals (leaves_of shown) digests ≡ Some f) (root_is : IsBytes f.root) (same : seal_over claim.animals claim.steps f.root ≡ seal)
    (shows : ShowsLeaves claim.animals (leaves_of shown) digests f.root) (closed : IsClosed shown claim)
    (told_is : told ≡ coefficient_text (codes ",") (coefficient_at DEPTH_LIMIT closed.lineage closed.rank)) (none_left : f.left ≡ []) where
  module _ (steps : ℕ) (rows : List (List ℕ)) (so_many : steps < 2 ^ 64) (few : length rows < 2 ^ 64) (rows_bytes : All IsBytes rows) where
    row_in_these : (i : ℕ) (row : CertifiedRow) → slice_get shown i ≡ Some row → Contains (checked_messages claim shown digests) (0 ∷ row_bytes row)
    row_in_these i row e =
        contains_same (checked_messages claim shown digests) _ (checked-head claim shown digests f found_is) (0 ∷ row_bytes row)
        (contains_later _ _ (0 ∷ row_bytes row) (Contains-append_left (map (λ (r : CertifiedRow). 0 ∷ row_bytes r) shown) (checked_of claim.animals (leaves_of shown) digests) (0 ∷ row_bytes row)
        (contains_at (λ (r : CertifiedRow). 0 ∷ row_bytes r) shown i row e)))

    row_in_those : (place : ℕ) (row : List ℕ) → slice_get rows place ≡ Some row → Contains (sealed_messages steps rows) (0 ∷ row)
    row_in_those place row e =
        contains_same (sealed_messages steps rows) _ (sealed-head steps rows) (0 ∷ row)
        (contains_later _ _ (0 ∷ row) (Contains-append_left (map (λ (r : List ℕ). 0 ∷ r) rows) (nodes_of (digests_of rows)) (0 ∷ row) (contains_at (λ (r : List ℕ). 0 ∷ r) rows place row e)))

    row_or : (i : ℕ) (row : CertifiedRow) → slice_get shown i ≡ Some row → StandsIn 0 (digests_of rows) (leaf_of row)
        → (slice_get rows row.place ≡ Some (row_bytes row)) ⊎ Collision (checked_messages claim shown digests) (sealed_messages steps rows)
    row_or i row e stands =
        let place : row.place - 0 ≡ row.place = omega arith in
        let under = row_under rows row.place (row_digest (row_bytes row)) (ap (λ (p : ℕ). slice_get (digests_of rows) p) (sym place) ∙ stands.there) in
        elim (same_or_collision (checked_messages claim shown digests) (sealed_messages steps rows) (0 ∷ row_bytes row) (0 ∷ under.0) (row_in_these i row e) (row_in_those row.place under.0 under.1)
        (kind_bytes 0 (row_bytes row) (lit< tt) (all_at (λ (r : CertifiedRow). IsBytes (row_bytes r)) shown i row bytes e))
        (kind_bytes 0 under.0 (lit< tt) (all_at IsBytes rows row.place under.0 rows_bytes under.1)) under.2) [
          | inl equal ↦ inl (under.1 ∙ ap (λ (l : List ℕ). Some l) (sym (tail_same 0 (row_bytes row) under.0 equal)))
          | inr c ↦ inr c
        ]

    stands_at : (i : ℕ) (row : CertifiedRow) → slice_get shown i ≡ Some row → All (StandsIn 0 (digests_of rows)) (leaves_of shown) → StandsIn 0 (digests_of rows) (leaf_of row)
    stands_at i row e all =
        all_at (StandsIn 0 (digests_of rows)) (leaves_of shown) i (leaf_of row) all (slice_get-map leaf_of shown i ∙ ap (λ (o : Option CertifiedRow). option_map leaf_of o) e)

    true_of : SameSeal claim.animals claim.steps f.root (length rows) steps (tree_root (digests_of rows)) → All (λ (row : CertifiedRow). slice_get rows row.place ≡ Some (row_bytes row)) shown
        → IsTrueOf claim shown told steps rows
    true_of equal are = record {
      steps_are = sym equal.steps_same;
      animals_are = sym equal.animals_same;
      rows_are = are;
      coefficient_is =
          told_is
          ∙ ap (λ (n : ℕ). coefficient_text (codes ",") n)
          (coefficient-shown shown closed.lineage rows closed.each closed.is_lineage closed.linked closed.ascend few are closed.rank closed.animal.0 closed.animal.1
          ∙ ap (λ (p : ℕ). coefficient (told_by rows) DEPTH_LIMIT p) closed.animal.2);
    }

    outcome : seal_of steps rows ≡ seal → IsTrueOf claim shown told steps rows ⊎ Collision (checked_messages claim shown digests) (sealed_messages steps rows)
    outcome is =
        let message = seal_message claim.animals claim.steps f.root in
        let other = seal_message (length rows) steps (tree_root (digests_of rows)) in
        let leaves = digests-are rows in
        elim (same_or_collision (checked_messages claim shown digests) (sealed_messages steps rows) message other
        (contains_same (checked_messages claim shown digests) _ (checked-head claim shown digests f found_is) message (contains_here message _))
        (contains_same (sealed_messages steps rows) _ (sealed-head steps rows) other (contains_here other _))
        (message-bytes claim.animals claim.steps f.root root_is) (message-bytes (length rows) steps (tree_root (digests_of rows)) (tree-bytes rows))
        (same ∙ sym (seal-is steps rows seal is))) [
          | inr c ↦ inr c
          | inl equal ↦
              (let numbers = same_seal claim.animals claim.steps f.root (length rows) steps (tree_root (digests_of rows)) animals_fit steps_fit few so_many equal in
              elim (shows-at claim.animals (leaves_of shown) digests f.root shows (digests_of rows) leaves (length-map rows row_digest ∙ sym numbers.animals_same) (sym numbers.root_same)) [
                | inr c ↦ inr (more_messages _ _ _ _
                    (λ m at. contains_same (checked_messages claim shown digests) _ (checked-head claim shown digests f found_is) m (contains_later _ _ m (Contains-append_right (map (λ (r : CertifiedRow). 0 ∷ row_bytes r) shown) _ m at)))
                    (λ m at. contains_same (sealed_messages steps rows) _ (sealed-head steps rows) m (contains_later _ _ m (Contains-append_right (map (λ (r : List ℕ). 0 ∷ r) rows) _ m at))) c)
                | inl stands ↦
                    (elim (all_or (λ (row : CertifiedRow). slice_get rows row.place ≡ Some (row_bytes row)) (Collision (checked_messages claim shown digests) (sealed_messages steps rows)) shown
                    (λ i row e. row_or i row e (stands_at i row e stands))) [
                      | inl are ↦ inl (true_of numbers are)
                      | inr c ↦ inr c
                    ])
              ])
        ]

  pub is_sealed : IsSealed seal claim shown told digests
  is_sealed = record { closed = closed; all_digests = ap (λ (o : Option Found). option_map (λ (x : Found). x.left) o) found_is ∙ ap (λ (l : List (List ℕ)). Some l) none_left; sealed = λ steps rows so_many few rows_bytes is. outcome steps rows so_many few rows_bytes is }

pub on_ok_then : {A B : Type 0} (r : Result A B) (P Q : Type 0) → (P → Q) → OnOk r P → OnOk r Q
on_ok_then (Ok x) P Q f p = f p
on_ok_then (Err x) P Q f p = tt

shown-digests : (shown : List CertifiedRow) → AreDigests (leaves_of shown)
shown-digests [] = All-nil (λ s. IsDigest s.digest)
shown-digests (row ∷ rows) = All-cons (λ s. IsDigest s.digest) (leaf_of row) (leaves_of rows) (digest-is (0 ∷ row_bytes row)) (shown-digests rows)

pub checked : (seal told : List ℕ) (digests : List (List ℕ)) (claim : Claim) (shown : List CertifiedRow) (lineage : List Parents) (rank n m : ℕ) (ls : List Shown) (part : Part)
    → n ≡ claim.animals → m ≡ claim.animals → ls ≡ leaves_of shown → Some (found_in part) ≡ found n ls digests
    → (All IsDigest digests → AreDigests ls → 0 < n → ShowsLeaves n ls digests part.root) → All IsDigest digests
    → All (λ (row : CertifiedRow). IsBytes (row_bytes row)) shown → 0 < m → m < 2 ^ 64 → claim.steps < 2 ^ 64
    → seal_over m claim.steps part.root ≡ seal → IsDigest part.root → DoAscend shown → length lineage ≡ length shown → IsLineage DEPTH_LIMIT MOST_ANIMALS lineage
    → AreLinked shown lineage → IsAnimalAt shown rank claim → AreAncestors lineage rank → part.left.now ≡ [] → told ≡ coefficient_text (codes ",") (coefficient_at DEPTH_LIMIT lineage rank)
    → IsSealed seal claim shown told digests
checked seal told digests claim shown lineage rank n m ls part is_n is_m are found_is shows digests_are bytes some animals_fit steps_fit same root_is ascend each is_lineage linked animal ancestors none_left told_is =
    let closed : IsClosed shown claim = record {
      lineage = lineage;
      each = each;
      is_lineage = is_lineage;
      linked = linked;
      ascend = ascend;
      rank = rank;
      animal = animal;
      ancestors = ancestors;
    } in
    let here : found claim.animals (leaves_of shown) digests ≡ Some (found_in part) =
    ap (λ (k : ℕ). found k (leaves_of shown) digests) (sym is_n) ∙ ap (λ (l : List Shown). found n l digests) (sym are) ∙ sym found_is in
    let shown_now : ShowsLeaves n ls digests part.root = shows digests_are (subst (λ (l : List Shown). AreDigests l) (sym are) (shown-digests shown)) (omega (arith, is_n, is_m, some)) in
    let shows_now : ShowsLeaves claim.animals (leaves_of shown) digests part.root =
    subst (λ (k : ℕ). ShowsLeaves k (leaves_of shown) digests part.root) is_n (subst (λ (l : List Shown). ShowsLeaves n l digests part.root) are shown_now) in
    is_sealed seal claim shown told digests (found_in part) (subst (λ (k : ℕ). k < 2 ^ 64) is_m animals_fit) steps_fit bytes here root_is.0
    (ap (λ (k : ℕ). seal_over k claim.steps part.root) (sym is_m) ∙ same) shows_now closed told_is none_left
