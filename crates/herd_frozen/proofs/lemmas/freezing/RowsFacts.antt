-- Rows and what is kept of them.
use Rattle.std.proofs.Common.{ℕ, zero, suc, ◌<◌, ◌≡◌, arith, refl, sym, ap, ◌∙◌, subst, List, [], ◌∷◌, ◌++◌, Option, None, Some, IfSome, length, slice_get, map}
use Rattle.std.proofs.lemmas.List.{get_or-map, length-map, map_push}
use Rattle.std.proofs.lemmas.Option.{get_or_from_slice_get, same_Some, slice_get-map, slice_get_within}
use Rattle.herd_frozen.specs.declared.rules.animal.Animal.{Animal}
use Rattle.herd_lineage.specs.declared.lineage.Parents.{Parents}
use Rattle.herd_frozen.specs.declared.freezing.frozen.Row.{Row}
use Rattle.herd_frozen.specs.declared.freezing.rows.RowRecord.{RowRecord}
use Rattle.herd_frozen.specs.declared.freezing.rows.Rows.TheInside.{Inside}
use Rattle.herd_frozen.specs.freezing.Frozen.{depth_at, numbers_of, parents_of}
use Rattle.herd_lineage.specs.Lineage.{IsLineage, IsNextOf}
use Rattle.herd_lineage.specs.declared.TheConstants.{DEPTH_LIMIT, MOST_ANIMALS}
use Rattle.std.specs.Option.{option_and_then}
use Rattle.herd_frozen.specs.places.Places.{IsIndexIn, number_at}
use Rattle.herd_frozen.specs.freezing.Rows.{AreKept, kept_of, numbers_kept, row_kept, rows_kept, rows_with}
use Rattle.herd_frozen.proofs.lemmas.ListFacts.{there}
use Rattle.herd_frozen.proofs.lemmas.places.NumberFacts.{number_at-place, number_at-push}

-- parents stand among n rows
abbrev ParentsAmong : ℕ → List Parents → Type 0
ParentsAmong n parents =
    (rank : ℕ) (its : Parents) → slice_get parents rank ≡ Some its →
    IfSome its.sire (λ p. p < n) × IfSome its.dam (λ p. p < n)

below : (parent : Option ℕ) (n : ℕ) → ((p : ℕ) → parent ≡ Some p → p < n) → IfSome parent (λ p. p < n)
below None n h = tt
below (Some p) n h = h p refl

-- as those of a lineage do
among : (l most : ℕ) (ps : List Parents) → IsLineage l most ps → ParentsAmong (length ps) ps
among l most ps is rank its at =
    let within = slice_get_within ps rank its at in (
      below its.sire (length ps) (λ p e. let low : p < rank = is.sire rank p (ap (option_and_then (λ (r : Parents). r.sire)) at ∙ e) in omega (arith, low, within)),
      below its.dam (length ps) (λ p e. let low : p < rank = is.dam rank p (ap (option_and_then (λ (r : Parents). r.dam)) at ∙ e) in omega (arith, low, within)),
    )

module _ (numbers : List (List ℕ)) where
  pub length-rows_with : (rs : List RowRecord) (ps : List Parents) → length ps ≡ length rs → length (rows_with numbers rs ps) ≡ length rs
  unfolding rows_with
  length-rows_with [] ps long = refl
  length-rows_with (r ∷ rs) [] long = absurd (cc)
  length-rows_with (r ∷ rs) (p ∷ ps) long = ap (λ n. suc n) (length-rows_with rs ps (omega (arith, long)))

  pub numbers-rows_with : (rs : List RowRecord) (ps : List Parents) → length ps ≡ length rs → numbers_of (rows_with numbers rs ps) ≡ numbers_kept rs
  unfolding rows_with
  numbers-rows_with [] ps long = refl
  numbers-rows_with (r ∷ rs) [] long = absurd (cc)
  numbers-rows_with (r ∷ rs) (p ∷ ps) long = ap (λ ns. r.number ∷ ns) (numbers-rows_with rs ps (omega (arith, long)))

  -- the row at a rank
  pub row-at : (rs : List RowRecord) (ps : List Parents) (i : ℕ) (r : RowRecord) (p : Parents) → slice_get rs i ≡ Some r → slice_get ps i ≡ Some p → slice_get (rows_with numbers rs ps) i ≡ Some (row_kept numbers r p)
  unfolding rows_with
  row-at [] ps i r p at_r at_p = absurd (cc)
  row-at (x ∷ rs) [] i r p at_r at_p = absurd (cc)
  row-at (x ∷ rs) (y ∷ ps) zero r p at_r at_p = λ i. Some (row_kept numbers (same_Some x r at_r i) (same_Some y p at_p i))
  row-at (x ∷ rs) (y ∷ ps) (suc i) r p at_r at_p = row-at rs ps i r p at_r at_p

  rows_with-push : (rs : List RowRecord) (ps : List Parents) (r : RowRecord) (p : Parents) → length ps ≡ length rs → rows_with numbers (rs ++ r ∷ []) (ps ++ p ∷ []) ≡ rows_with numbers rs ps ++ row_kept numbers r p ∷ []
  unfolding rows_with
  rows_with-push [] [] r p long = refl
  rows_with-push [] (y ∷ ps) r p long = absurd (cc)
  rows_with-push (x ∷ rs) [] r p long = absurd (cc)
  rows_with-push (x ∷ rs) (y ∷ ps) r p long = ap (λ rows. row_kept numbers x (y) ∷ rows) (rows_with-push rs ps r p (omega (arith, long)))

  -- one number more changes no row of those before it
  row_kept-push : (x : List ℕ) (r : RowRecord) (p : Parents) → IfSome p.sire (λ s. s < length numbers) → IfSome p.dam (λ d. d < length numbers) → row_kept (numbers ++ x ∷ []) r p ≡ row_kept numbers r p
  row_kept-push x r p s d =
      λ i. record (row_kept numbers r p) { animal = record (row_kept numbers r p).animal { sire = number_at-push numbers x p.sire s i; dam = number_at-push numbers x p.dam d i } }

  rows_with-more : (x : List ℕ) (rs : List RowRecord) (ps : List Parents) → ParentsAmong (length numbers) ps → rows_with (numbers ++ x ∷ []) rs ps ≡ rows_with numbers rs ps
  unfolding rows_with
  rows_with-more x [] ps closed = refl
  rows_with-more x (r ∷ rs) [] closed = refl
  rows_with-more x (r ∷ rs) (p ∷ ps) closed =
      let first = closed 0 p refl in
      let same = row_kept-push x r p first.0 first.1 in
      let rest = rows_with-more x rs ps (λ rank its at. closed (suc rank) its at) in
      λ i. same i ∷ rest i

-- the row of what is kept of an animal has its record
pub animal-back : (numbers : List (List ℕ)) (entry : List ℕ × Animal) (kept : RowRecord) (parents : Parents) → kept_of entry ≡ kept → IsIndexIn numbers parents.sire entry.1.sire → IsIndexIn numbers parents.dam entry.1.dam →
    (row_kept numbers kept parents).animal ≡ entry.1
animal-back numbers entry kept parents is sire dam =
    λ i. record {
      birth = (sym is i).birth;
      sire = number_at-place numbers parents.sire entry.1.sire sire i;
      dam = number_at-place numbers parents.dam entry.1.dam dam i;
      embryo = (sym is i).embryo;
      herd = (sym is i).herd;
      since = (sym is i).since;
      left = (sym is i).left;
    }

-- the parents of the rows
lineage-rows : (numbers : List (List ℕ)) (rs : List RowRecord) (ps : List Parents) → length ps ≡ length rs → map parents_of (rows_with numbers rs ps) ≡ ps
unfolding rows_with
lineage-rows numbers [] [] long = refl
lineage-rows numbers [] (p ∷ ps) long = absurd (cc)
lineage-rows numbers (r ∷ rs) [] long = absurd (cc)
lineage-rows numbers (r ∷ rs) (p ∷ ps) long = ap (λ l. p ∷ l) (lineage-rows numbers rs ps (omega (arith, long)))

module _ (rs : List RowRecord) (ps : List Parents) (kept : AreKept rs ps) where
  pub length-rows : length (rows_kept rs ps) ≡ length rs
  length-rows = length-rows_with (numbers_kept rs) rs ps kept.long

  -- their parents are those that are kept
  pub lineage-told : {rows : List Row} → rows_kept rs ps ≡ rows → ps ≡ map parents_of rows
  lineage-told told = sym (lineage-rows (numbers_kept rs) rs ps kept.long) ∙ ap (λ (l : List Row). map parents_of l) told

  pub numbers-rows : numbers_of (rows_kept rs ps) ≡ numbers_kept rs
  numbers-rows = numbers-rows_with (numbers_kept rs) rs ps kept.long

  numbers_long : length (numbers_kept rs) ≡ length ps
  numbers_long = length-map rs (λ r. r.number) ∙ sym kept.long

  module _ (rows : List Row) (told : rows_kept rs ps ≡ rows) (r : RowRecord) (parents : Parents) (next : IsNextOf DEPTH_LIMIT MOST_ANIMALS ps parents) where
    -- one more row
    pub rows-push : rows_kept (rs ++ r ∷ []) (ps ++ parents ∷ []) ≡ rows ++ row_kept (numbers_of rows) r parents ∷ []
    rows-push =
        let numbers : List (List ℕ) = numbers_kept rs in
        let closed : ParentsAmong (length numbers) ps = subst (λ n. ParentsAmong n ps) (sym numbers_long) (among DEPTH_LIMIT MOST_ANIMALS ps kept.lineage) in
        let sire_here = below parents.sire (length numbers) (λ p e. rw numbers_long (next.sire p e)) in
        let dam_here = below parents.dam (length numbers) (λ p e. rw numbers_long (next.dam p e)) in
        let numbers_told : numbers ≡ numbers_of rows = sym numbers-rows ∙ ap (λ (l : List Row). numbers_of l) told in
        ap (λ ns. rows_with ns (rs ++ r ∷ []) (ps ++ parents ∷ [])) (map_push (λ r. r.number) rs r)
        ∙ rows_with-push (numbers ++ r.number ∷ []) rs ps r parents kept.long
        ∙ (λ i. rows_with-more numbers r.number rs ps closed i ++ row_kept-push numbers r.number r parents sire_here dam_here i ∷ [])
        ∙ (λ i. told i ++ row_kept (numbers_told i) r parents ∷ [])

  -- what is told of the row at a rank
  pub number-told : (i : ℕ) (r : RowRecord) → slice_get rs i ≡ Some r → slice_get (numbers_of (rows_kept rs ps)) i ≡ Some r.number
  number-told i r at = ap (λ ns. slice_get ns i) numbers-rows ∙ slice_get-map (λ k. k.number) rs i ∙ rw at refl

  module _ (i : ℕ) (p : Parents) (at : slice_get ps i ≡ Some p) where
    its_record : (r : RowRecord) × (slice_get rs i ≡ Some r)
    its_record = let within = slice_get_within ps i p at in there rs i (omega (arith, within, kept.long))

    abbrev its_row : Row
    its_row = row_kept (numbers_kept rs) its_record.0 p

    its_row-at : slice_get (rows_kept rs ps) i ≡ Some its_row
    its_row-at = row-at (numbers_kept rs) rs ps i its_record.0 p its_record.1 at

    pub parents-told : slice_get (map parents_of (rows_kept rs ps)) i ≡ Some p
    parents-told = slice_get-map parents_of (rows_kept rs ps) i ∙ rw its_row-at refl

    pub depth-told : depth_at (rows_kept rs ps) i ≡ p.depth
    depth-told =
        get_or-map (λ r. r.depth) (rows_kept rs ps) i its_row 0 (slice_get_within (rows_kept rs ps) i its_row its_row-at)
        ∙ ap (λ (r : Row). r.depth) (get_or_from_slice_get (rows_kept rs ps) i its_row its_row its_row-at)

  -- the row itself, once the numbers of its parents were read
  pub row-told : (i : ℕ) (r : RowRecord) → slice_get rs i ≡ Some r → (parents : Parents) → slice_get (map parents_of (rows_kept rs ps)) i ≡ Some parents → (sire dam : Option (List ℕ))
      → sire ≡ number_at (numbers_of (rows_kept rs ps)) parents.sire → dam ≡ number_at (numbers_of (rows_kept rs ps)) parents.dam
      → slice_get (rows_kept rs ps) i ≡ Some (record {
        number = r.number;
        animal = record { birth = r.birth; sire = sire; dam = dam; embryo = r.embryo; herd = r.herd; since = r.since; left = r.left };
        sire = parents.sire;
        dam = parents.dam;
        depth = parents.depth;
      })
  row-told i r at parents told sire dam s d =
      let within = slice_get_within rs i r at in
      let p = there ps i (omega (arith, within, kept.long)) in
      let same : p.0 ≡ parents = same_Some _ _ (sym (parents-told i p.0 p.1) ∙ told) in
      let named : (o : Option ℕ) → number_at (numbers_kept rs) o ≡ number_at (numbers_of (rows_kept rs ps)) o = λ o. ap (λ ns. number_at ns o) (sym numbers-rows) in
      let by_sire : number_at (numbers_kept rs) p.0.sire ≡ sire = named p.0.sire ∙ ap (λ (q : Parents). number_at (numbers_of (rows_kept rs ps)) q.sire) same ∙ sym s in
      let by_dam : number_at (numbers_kept rs) p.0.dam ≡ dam = named p.0.dam ∙ ap (λ (q : Parents). number_at (numbers_of (rows_kept rs ps)) q.dam) same ∙ sym d in
      row-at (numbers_kept rs) rs ps i r p.0 at p.1
      ∙ (λ j. Some (record {
        number = r.number;
        animal = record { birth = r.birth; sire = by_sire j; dam = by_dam j; embryo = r.embryo; herd = r.herd; since = r.since; left = r.left };
        sire = (same j).sire;
        dam = (same j).dam;
        depth = (same j).depth;
      }))

-- a rank of the rows is within what keeps them
pub rank-within : {A : Type 0} (inside : Inside A) → AreKept inside.records.items inside.lineage → {rows : List Row} → rows_kept inside.records.items inside.lineage ≡ rows → (rank : ℕ) → rank < length rows → (rank < inside.records.len) × (rank < length inside.lineage)
rank-within inside kept {rows} told rank within =
    let long : length rows ≡ length inside.records.items = sym (ap (λ (l : List Row). length l) told) ∙ length-rows inside.records.items inside.lineage kept in
    let both = kept.long in
    let records = inside.records.ok.0 in
    (omega (arith, within, long, records), omega (arith, within, long, both))
