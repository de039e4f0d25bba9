-- The row of a record, once those of the older ones are made.
use Rattle.std.proofs.Common.{ℕ, zero, suc, ◌+◌, ◌<◌, ◌≤◌, ◌≡◌, ⊎_elim, arith, refl, sym, ap, ◌∙◌, subst, List, [], ◌∷◌, ◌++◌, Option, Some, None, length, slice_get, get_or, map}
use Rattle.std.specs.Prelude.{ℤ, ◌<ℤ◌, IfSome}
use Rattle.std.specs.Map.{keys_of}
use Rattle.std.specs.Option.{option_and_then}
use Rattle.std.proofs.lemmas.List.{get_or-map, length-map}
use Rattle.std.proofs.lemmas.Option.{slice_get-map, slice_get_read, slice_get_within, get_or_from_slice_get, same_Some}
use Rattle.herd_frozen.specs.declared.rules.animal.Animal.{Animal}
use Rattle.herd_frozen.specs.declared.freezing.age_order.AgeKey.{AgeKey}
use Rattle.herd_lineage.specs.declared.lineage.Parents.{Parents}
use Rattle.herd_frozen.specs.declared.freezing.frozen.Row.{Row}
use Rattle.herd_frozen.specs.declared.freezing.rows.RowRecord.{RowRecord}
use Rattle.herd_frozen.specs.declared.places.links.Link.{Link}
use Rattle.herd_frozen.specs.rules.Book.{Book, IsDepthOf, parentage_of, record_of}
use Rattle.herd_frozen.specs.rules.Depths.{depth_above, depth_from}
use Rattle.herd_frozen.specs.rules.Lawful.{IsLawfulRecord}
use Rattle.herd_lineage.specs.Lineage.{IsNextOf, depth_at as depth_by}
use Rattle.herd_frozen.specs.freezing.Frozen.{depth_at, numbers_of, parents_of}
use Rattle.herd_frozen.specs.freezing.Freeze.{AreRows, IsAbove, IsRanked, IsRowOf, places_of}
use Rattle.herd_frozen.specs.freezing.Rows.{kept_of, row_kept}
use Rattle.herd_frozen.specs.places.Links.{IsLinkAt}
use Rattle.herd_frozen.specs.places.Places.{IsIndexIn}
use Rattle.herd_frozen.proofs.lemmas.freezing.AgeOrderFacts.{IsKeyOf, key-at, length-keys, older-before}
use Rattle.herd_frozen.proofs.lemmas.rules.BookFacts.{key_from_entry, entry_from_key, lookup_at}
use Rattle.herd_frozen.proofs.lemmas.ListFacts.{push_cases, there}
use Rattle.herd_frozen.proofs.lemmas.freezing.FrozenDepthFacts.{IsDepth-from_parents, IsDepthOf-le}
use Rattle.herd_frozen.proofs.lemmas.freezing.RankFacts.{place-at}
use Rattle.herd_frozen.proofs.lemmas.freezing.RowsFacts.{animal-back}

-- a parent that is known is in the book, and born before the day
abbrev pub IsOlder : Book → ℤ → Option (List ℕ) → Type 0
IsOlder book birth parent = (p : List ℕ) → parent ≡ Some p → (animal : Animal) × (record_of book p ≡ Some animal) × (animal.birth <ℤ birth)

-- what is known of a parent once the rows of the older animals are made
pub record IsParentOf (book : Book) (keys : List AgeKey) (ranks : List ℕ) (rows : List Row) (place : Option ℕ) (parent : Option (List ℕ)) : Type 0 where
  pub within : IfSome place (λ p. p < length ranks)
  pub ranked : IsIndexIn (map (λ k. k.number) keys) (option_and_then (slice_get ranks) place) parent
  pub earlier : IfSome (option_and_then (slice_get ranks) place) (λ rank. rank < length rows)
  pub above : IsAbove (parentage_of book) parent (depth_above (depth_at rows) (option_and_then (slice_get ranks) place))

-- what is known of the animal of a key by what is kept of it and the places of its parents
pub record IsNext (book : Book) (keys : List AgeKey) (ranks : List ℕ) (rows : List Row) (key : AgeKey) (kept : RowRecord) (link : Link) : Type 0 where
  pub animal : Animal
  pub entry : slice_get book key.place ≡ Some (key.number, animal)
  pub is_kept : kept_of (key.number, animal) ≡ kept
  pub sire : IsParentOf book keys ranks rows link.sire animal.sire
  pub dam : IsParentOf book keys ranks rows link.dam animal.dam

-- the rank of a parent whose row is made is where that row stands
made-already : (book : Book) (keys : List AgeKey) (rows : List Row) → AreRows book keys rows → length rows < length keys → (rank : Option ℕ) (parent : Option (List ℕ))
    → IsIndexIn (map (λ k. k.number) keys) rank parent → IfSome rank (λ p. p < length rows) → IsIndexIn (numbers_of rows) rank parent
made-already book keys rows made few None None is earlier = tt
made-already book keys rows made few None (Some x) is earlier = absurd is
made-already book keys rows made few (Some p) None is earlier = absurd is
made-already book keys rows made few (Some p) (Some x) is earlier =
    let row = there rows p earlier in
    let key = there keys p (omega (arith, earlier, few)) in
    let its_row : IsRowOf book keys key.0 row.0 = made p key.0 row.0 key.1 row.1 in
    let named : key.0.number ≡ x = same_Some key.0.number x (sym (slice_get-map (λ (k : AgeKey). k.number) keys p ∙ rw key.1 refl) ∙ is) in
    slice_get-map (λ (r : Row). r.number) rows p ∙ rw row.1 (ap Some (its_row.number ∙ named))

module _ (l most : ℕ) (book : Book) (keys : List AgeKey) (ranks : List ℕ) (rows : List Row) (is : IsRanked l most book keys ranks) (made : AreRows book keys rows) where
  module _ (key : AgeKey) (at : slice_get keys (length rows) ≡ Some key) where
    pub parent-found : (place : Option ℕ) (parent : Option (List ℕ)) → IsIndexIn (keys_of book) place parent → IsOlder book key.birth parent → IsParentOf book keys ranks rows place parent
    parent-found None None placed older = record { within = tt; ranked = tt; earlier = tt; above = refl }
    parent-found None (Some p) placed older = absurd placed
    parent-found (Some place) None placed older = absurd placed
    parent-found (Some place) (Some p) placed older =
        let entry = entry_from_key book place p placed in
        let within_book : place < length book = slice_get_within book place (p, entry.0) entry.1 in
        let long = length-keys book keys is.ordered in
        let ranks_long = is.ranked.long in
        let within : place < length ranks = omega arith in
        let rank = there ranks place within in
        let ranked : slice_get (places_of keys) rank.0 ≡ Some place = is.ranked.each place rank.0 rank.1 in
        let early : rank.0 < length keys = subst (λ n. rank.0 < n) (length-map keys (λ k. k.place)) (slice_get_within (places_of keys) rank.0 place ranked) in
        let parent = there keys rank.0 early in
        let its_place : parent.0.place ≡ place = same_Some parent.0.place place (sym (place-at keys rank.0 parent.0 parent.1) ∙ ranked) in
        let its_key : IsKeyOf book parent.0 = key-at book keys is.ordered rank.0 parent.0 parent.1 in
        let its_entry : slice_get book place ≡ Some (parent.0.number, its_key.animal) = subst (λ q. slice_get book q ≡ Some (parent.0.number, its_key.animal)) its_place its_key.entry in
        let its_number : parent.0.number ≡ p = same_Some parent.0.number p (sym (key_from_entry book place parent.0.number its_key.animal its_entry) ∙ placed) in
        let found : record_of book parent.0.number ≡ Some its_key.animal = lookup_at book is.lawful.once place parent.0.number its_key.animal its_entry in
        let known = older p refl in
        let same : its_key.animal ≡ known.0 = same_Some its_key.animal known.0 (sym found ∙ ap (λ x. record_of book x) its_number ∙ known.1) in
        let older_key : parent.0.birth <ℤ key.birth = subst (λ birth. birth <ℤ key.birth) (sym (its_key.birth ∙ ap (λ (a : Animal). a.birth) same)) known.2 in
        let before : rank.0 < length rows = older-before book keys is.ordered rank.0 (length rows) parent.0 key parent.1 at older_key in
        let row = there rows rank.0 before in
        let its_row : IsRowOf book keys parent.0 row.0 = made rank.0 parent.0 row.0 parent.1 row.1 in
        let depth : depth_at rows rank.0 ≡ row.0.depth = get_or-map (λ r. r.depth) rows rank.0 row.0 0 before ∙ ap (λ (r : Row). r.depth) (get_or_from_slice_get rows rank.0 row.0 row.0 row.1) in
        let deep : IsDepthOf book p row.0.depth = subst (λ x. IsDepthOf book x row.0.depth) (its_row.number ∙ its_number) its_row.depth in
        record {
          within = within;
          ranked = rw rank.1 (slice_get-map (λ (k : AgeKey). k.number) keys rank.0 ∙ rw parent.1 (ap Some its_number));
          earlier = rw rank.1 before;
          above = rw rank.1 (row.0.depth, deep, ap (λ n. n + 1) depth);
        }

    -- the record whose turn it is is in the book
    pub place-within : key.place < length book
    place-within = let its_key : IsKeyOf book key = key-at book keys is.ordered (length rows) key at in slice_get_within book key.place (key.number, its_key.animal) its_key.entry

    pub next : (kept : RowRecord) (link : Link) → slice_get (map kept_of book) key.place ≡ Some kept → IsLinkAt book key.place link → IsNext book keys ranks rows key kept link
    next kept link told linked =
        let its_key : IsKeyOf book key = key-at book keys is.ordered (length rows) key at in
        let animal : Animal = its_key.animal in
        let here : slice_get book key.place ≡ Some (key.number, animal) = its_key.entry in
        let lawful : IsLawfulRecord book animal = is.lawful.records key.number animal (lookup_at book is.lawful.once key.place key.number animal here) in
        record {
          animal = animal;
          entry = here;
          is_kept = same_Some (kept_of (key.number, animal)) kept (sym (slice_get-map kept_of book key.place ∙ rw here refl) ∙ told);
          sire =
              parent-found link.sire animal.sire (linked.sire (key.number, animal) here)
              (λ p e. let sire = lawful.sire p e in (sire.sire, sire.there, subst (λ birth. sire.sire.birth <ℤ birth) (sym its_key.birth) sire.older));
          dam =
              parent-found link.dam animal.dam (linked.dam (key.number, animal) here)
              (λ p e. let dam = lawful.dam p e in (dam.dam, dam.there, subst (λ birth. dam.dam.birth <ℤ birth) (sym its_key.birth) dam.older));
        }

    module _ (kept : RowRecord) (link : Link) (n : IsNext book keys ranks rows key kept link) where
      -- its depth
      depth-next : IsDepthOf book key.number (depth_from (depth_at rows) (option_and_then (slice_get ranks) link.sire) (option_and_then (slice_get ranks) link.dam))
      depth-next =
          let found : record_of book key.number ≡ Some n.animal = lookup_at book is.lawful.once key.place key.number n.animal n.entry in
          IsDepth-from_parents (parentage_of book) key.number _ _ (rw found refl) (rw found n.sire.above) (rw found n.dam.above)

      pub depth_next-le : depth_from (depth_at rows) (option_and_then (slice_get ranks) link.sire) (option_and_then (slice_get ranks) link.dam) ≤ l
      depth_next-le = IsDepthOf-le l book is.lawful.shallow key.number _ depth-next

      -- its row
      pub row-next : length rows < length keys → (parents : Parents) → parents.sire ≡ option_and_then (slice_get ranks) link.sire → parents.dam ≡ option_and_then (slice_get ranks) link.dam →
          parents.depth ≡ depth_from (depth_at rows) (option_and_then (slice_get ranks) link.sire) (option_and_then (slice_get ranks) link.dam) →
          IsRowOf book keys key (row_kept (numbers_of rows) kept parents)
      row-next more parents sire dam depth =
          let sire_ranked : IsIndexIn (map (λ k. k.number) keys) parents.sire n.animal.sire = rw sire n.sire.ranked in
          let dam_ranked : IsIndexIn (map (λ k. k.number) keys) parents.dam n.animal.dam = rw dam n.dam.ranked in
          let sire_made = made-already book keys rows made more parents.sire n.animal.sire sire_ranked (rw sire n.sire.earlier) in
          let dam_made = made-already book keys rows made more parents.dam n.animal.dam dam_ranked (rw dam n.dam.earlier) in
          let animal : (row_kept (numbers_of rows) kept parents).animal ≡ n.animal = animal-back (numbers_of rows) (key.number, n.animal) kept parents n.is_kept sire_made dam_made in
          let number : kept.number ≡ key.number = ap (λ (k : RowRecord). k.number) (sym n.is_kept) in
          record {
            number = number;
            entry = n.entry ∙ ap Some (λ i. (sym number i, sym animal i));
            sire = subst (λ (a : Animal). IsIndexIn (map (λ k. k.number) keys) parents.sire a.sire) (sym animal) sire_ranked;
            dam = subst (λ (a : Animal). IsIndexIn (map (λ k. k.number) keys) parents.dam a.dam) (sym animal) dam_ranked;
            depth = rw (number, depth) depth-next;
          }

-- the key whose turn it is
pub key-read : (keys : List AgeKey) (rows : List Row) → length rows < length keys → (n : ℕ) → n ≡ length rows → (key : AgeKey) → key ≡ get_or keys n key → slice_get keys (length rows) ≡ Some key
key-read keys rows more n long key read = slice_get_read keys (length keys) (length rows) key refl more (read ∙ ap (λ m. get_or keys m key) long)

-- one more row
pub rows-more : (book : Book) (keys : List AgeKey) (rows : List Row) (row : Row) → AreRows book keys rows → IfSome (slice_get keys (length rows)) (λ key. IsRowOf book keys key row) → AreRows book keys (rows ++ row ∷ [])
rows-more book keys rows row made next_made rank key other at_key at_row =
    ⊎_elim
    (λ (before : slice_get rows rank ≡ Some other). made rank key other at_key before)
    (λ last.
    let here : slice_get keys (length rows) ≡ Some key = ap (λ n. slice_get keys n) (sym last.0) ∙ at_key in
    subst (λ r. IsRowOf book keys key r) last.1 (rw here at next_made))
    (push_cases rows row other rank at_row)

-- depths by rows are depths by their parents
pub depth_at-lineage : (rows : List Row) (rank : ℕ) → depth_at rows rank ≡ depth_by (map parents_of rows) rank
depth_at-lineage [] rank = refl
depth_at-lineage (row ∷ rows) zero = refl
depth_at-lineage (row ∷ rows) (suc rank) = depth_at-lineage rows rank

parent-early : (o : Option ℕ) (n m : ℕ) → n ≡ m → IfSome o (λ rank. rank < n) → (p : ℕ) → o ≡ Some p → p < m
parent-early None n m e early p is = absurd (cc)
parent-early (Some q) n m e early p is = let same : q ≡ p = cc in omega (arith, early, e, same)

-- the parents of the row whose turn it is
pub next-of : (l most : ℕ) (rows : List Row) (parents : Parents) → length rows < most → IfSome parents.sire (λ rank. rank < length rows) → IfSome parents.dam (λ rank. rank < length rows) →
    parents.depth ≡ depth_from (depth_at rows) parents.sire parents.dam → parents.depth ≤ l → IsNextOf l most (map parents_of rows) parents
next-of l most rows parents few sire dam depth shallow =
    let long : length (map parents_of rows) ≡ length rows = length-map rows parents_of in
    record {
      few = omega (arith, long, few);
      sire = parent-early parents.sire (length rows) (length (map parents_of rows)) (sym long) sire;
      dam = parent-early parents.dam (length rows) (length (map parents_of rows)) (sym long) dam;
      depth = depth ∙ ap (λ (f : ℕ → ℕ). depth_from f parents.sire parents.dam) (λ i rank. depth_at-lineage rows rank i);
      shallow = shallow;
    }
