-- What a frozen book says of its animals, by numbers and by ranks.
use Rattle.std.proofs.Common.{ℕ, zero, suc, ◌*◌, ◌<◌, ◌≤◌, ◌≡◌, inl, inr, ⊎_elim, eqb, ltb, List, [], ◌∷◌, ◌++◌, length, map, get_or, slice_get, Some, None, Option, true, false, IsTrue, Contains, arith, refl, sym, ap, subst, ◌∙◌}
use Rattle.std.specs.declared.cmp.Ordering.TheVariants.{Less}
use Rattle.std.specs.List.{range_with_len}
use Rattle.std.specs.List.Sorted.{IsPermutation}
use Rattle.std.specs.Map.{keys_of}
use Rattle.std.specs.Option.{option_and_then, option_map}
use Rattle.std.specs.Cmp.Lexicographic.{slice_cmp}
use Rattle.std.specs.Ordering.{is_lt, is_eq, int_cmp, nat_cmp}
use Rattle.std.specs.Prelude.{bytes_eq}
use Rattle.std.proofs.lemmas.Bool.{both_ways, eqb-true, eq-eqb, ne_eqb, lt-ltb, le-ltb, cases_lt, cases_order, false_from_ne_true}
use Rattle.std.proofs.lemmas.Cmp.{nat_list_eq_equiv}
use Rattle.std.proofs.lemmas.List.Elements.{All-nil, All-push, Contains-append_left, Contains-get_or, Contains-push, Contains-push_cases}
use Rattle.std.proofs.lemmas.List.FromFn.{fill_by_all}
use Rattle.std.proofs.lemmas.List.Sorted.{IsPermutation-refl, ranks_by, sorted_far}
use Rattle.std.proofs.lemmas.Map.Entries.{lookup_from_place, length-keys_of}
use Rattle.std.proofs.lemmas.Map.Keys.{apart_from_distinct}
use Rattle.std.proofs.lemmas.Map.Text.{is_eq-slice_cmp}
use Rattle.std.proofs.lemmas.List.{length-map}
use Rattle.std.proofs.lemmas.Option.{same_Some, slice_get-get_or, slice_get-map, slice_get_within, get_or_from_slice_get}
use Rattle.herd_frozen.specs.declared.rules.animal.Animal.{Animal}
use Rattle.herd_frozen.specs.declared.freezing.frozen.Row.{Row}
use Rattle.herd_frozen.specs.rules.Book.{is_there, record_of}
use Rattle.herd_frozen.specs.freezing.Frozen.{IsFrozen, IsFrozenRow, IsRankOf, age_cmp, book_of, numbers_of, parents_of}
use Rattle.herd_frozen.proofs.lemmas.ListFacts.{there}
use Rattle.herd_kinship.specs.Ancestry.{IsParentIn, PathTo}
use Rattle.herd_advice.specs.BookCoefficients.{AreBookCoefficients, AreBookCoefficientsOf, AreRanksOf, KnowsBookAncestors}
use Rattle.herd_advice.specs.BookRelationships.{IsInLineage}
use Rattle.herd_advice.specs.FrozenAncestry.{ancestry_of, number_of_row}
use Rattle.herd_kinship.specs.Ranks.{AreParentsAt, ranked}
use Rattle.herd_kinship.specs.Table.{coefficient, entry, mendelian}
use Rattle.herd_kinship.specs.Coefficients.{AreCoefficients, KnowsAncestors}
use Rattle.herd_lineage.specs.declared.lineage.Parents.{Parents}
use Rattle.herd_pruned.specs.Known.{AreCoefficientsOf}
use Rattle.herd_pruned.proofs.lemmas.MarkedFacts.{comes_itself}
use Rattle.herd_lineage.specs.Lineage.{IsLineage, dam_rank, sire_rank}
use Rattle.herd_kinship.proofs.lemmas.ancestry.LawfulAncestry.{IsLawful, IsRenamed, IsShallow}
use Rattle.herd_advice.proofs.lemmas.BookFacts.{age_cmp-total, before_from_ordered, book-lawful, by_order, child_there, record_there, then_equal}
use Rattle.herd_advice.proofs.lemmas.BookPaths.{book-shallow}
use Rattle.herd_kinship.proofs.lemmas.ancestry.Shares.{apart, apart_back}
use Rattle.herd_kinship.proofs.lemmas.lineages.Ranks.{rank-in, rank-below}
use Rattle.herd_kinship.proofs.lemmas.lineages.LineageFacts.{ranked-lawful}
use Rattle.herd_kinship.proofs.lemmas.ancestry.Depth.{known_some}
use Rattle.herd_kinship.proofs.lemmas.ancestry.Renamed.{coefficient-renamed, entry-renamed, mendelian-renamed}

pub numbers_are_keys : (rows : List Row) → numbers_of rows ≡ keys_of (book_of rows)
numbers_are_keys [] = refl
numbers_are_keys (row ∷ rows) = ap (λ ns. row.number ∷ ns) (numbers_are_keys rows)

pub length-numbers_of : (rows : List Row) → length (numbers_of rows) ≡ length rows
length-numbers_of [] = refl
length-numbers_of (row ∷ rows) = ap suc (length-numbers_of rows)

pub length-book_of : (rows : List Row) → length (book_of rows) ≡ length rows
length-book_of [] = refl
length-book_of (row ∷ rows) = ap suc (length-book_of rows)

-- the number at a rank is that of the row
pub number_of_row-is : (rows : List Row) (i : ℕ) (row : Row) → slice_get rows i ≡ Some row → number_of_row rows i ≡ row.number
number_of_row-is rows i row e =
    get_or_from_slice_get (numbers_of rows) i row.number []
    (slice_get-map (λ (r : Row). r.number) rows i ∙ rw e refl)

-- the number at a rank is the key there
number_of_row-key : (rows : List Row) (i : ℕ) → number_of_row rows i ≡ get_or (keys_of (book_of rows)) i []
number_of_row-key rows i = ap (λ ns. get_or ns i []) (numbers_are_keys rows)

-- the row of a rank, of which these are the parents and the depth
pub record IsRowAt (rows : List Row) (i : ℕ) (parents : Parents) : Type 0 where
  pub row : Row
  pub there : slice_get rows i ≡ Some row
  pub same : parents ≡ parents_of row

of-row : (found : Option Row) (parents : Parents) → option_map parents_of found ≡ Some parents → (row : Row) × (found ≡ Some row) × (parents ≡ parents_of row)
of-row None parents is = absurd (cc)
of-row (Some row) parents is = (row, refl, cc)

pub row-at : (rows : List Row) (i : ℕ) (parents : Parents) → AreParentsAt (map parents_of rows) i parents → IsRowAt rows i parents
row-at rows i parents at =
    let of = of-row (slice_get rows i) parents (sym (slice_get-map parents_of rows i) ∙ at) in
    record { row = of.0; there = of.1; same = of.2 }

-- the record under a row's number is the row's
pub record_at-row : (l most : ℕ) (rows : List Row) → IsFrozen l most rows → (i : ℕ) (row : Row) → slice_get rows i ≡ Some row →
    record_of (book_of rows) row.number ≡ Some row.animal
record_at-row l most rows f i row e =
    lookup_from_place nat_list_eq_equiv (book_of rows) i row.number row.animal f.lawful.once
    (slice_get-map (λ (r : Row). (r.number, r.animal)) rows i ∙ rw e refl)

pub frozen-lawful : (l most : ℕ) (rows : List Row) → IsFrozen l most rows → IsLawful (ancestry_of rows)
frozen-lawful l most rows f = book-lawful l most (book_of rows) f.lawful

pub frozen-shallow : (l most : ℕ) (rows : List Row) → IsFrozen l most rows → IsShallow (ancestry_of rows) l
frozen-shallow l most rows f = book-shallow l most (book_of rows) f.lawful

pub frozen-member : (rows : List Row) (i : ℕ) → i < length rows → Contains (ancestry_of rows).animals (number_of_row rows i)
frozen-member rows i l =
    subst (λ ns. Contains ns (number_of_row rows i)) (numbers_are_keys rows)
    (Contains-get_or (numbers_of rows) i [] (rw (length-numbers_of rows) l))

-- of two entries whose numbers differ, and of which the second isn't before the first, the first is before the second
first_before : (x y : List ℕ × Animal) → is_lt (age_cmp y x) ≡ false → bytes_eq x.0 y.0 ≡ false → age_cmp x y ≡ Less
first_before x y later apart =
    let turned = age_cmp-total.antisymm y x in
    by_order (age_cmp x y)
    (λ e. e)
    (λ e. let same : bytes_eq x.0 y.0 ≡ true = sym (is_eq-slice_cmp x.0 y.0) ∙ ap is_eq (then_equal (int_cmp x.1.birth y.1.birth) (slice_cmp nat_cmp x.0 y.0) e) in absurd (cc))
    (λ e. let less : is_lt (age_cmp y x) ≡ true = rw (turned, e) refl in absurd (cc))

-- an animal at a lower rank is before one at a higher rank
frozen-ordered : (l most : ℕ) (rows : List Row) → IsFrozen l most rows → (i j : ℕ) → i < j → j < length rows →
    IsTrue ((ancestry_of rows).before (number_of_row rows i) (number_of_row rows j))
frozen-ordered l most rows f i j low lj =
    let book = book_of rows in
    let a = there rows i (omega arith) in
    let b = there rows j lj in
    let x : List ℕ × Animal = (a.0.number, a.0.animal) in
    let y : List ℕ × Animal = (b.0.number, b.0.animal) in
    let at_i : get_or book i x ≡ x = get_or_from_slice_get book i x x (slice_get-map (λ (r : Row). (r.number, r.animal)) rows i ∙ rw a.1 refl) in
    let at_j : get_or book j x ≡ y = get_or_from_slice_get book j y x (slice_get-map (λ (r : Row). (r.number, r.animal)) rows j ∙ rw b.1 refl) in
    let far : is_lt (age_cmp (get_or book j x) (get_or book i x)) ≡ false =
    sorted_far (λ (v w : List ℕ × Animal). is_lt (age_cmp v w)) (ranks_by age_cmp-total (λ (e : List ℕ × Animal). e)) book f.sorted i j x (omega arith) (rw (length-book_of rows) lj) in
    let later : is_lt (age_cmp y x) ≡ false =
    subst (λ v. is_lt (age_cmp v x) ≡ false) at_j (subst (λ v. is_lt (age_cmp (get_or book j x) v) ≡ false) at_i far) in
    let keys = apart_from_distinct bytes_eq (keys_of book) i j [] f.lawful.once low (rw (length-keys_of book, length-book_of rows) lj) in
    let first : get_or (keys_of book) i [] ≡ x.0 = sym (number_of_row-key rows i) ∙ number_of_row-is rows i a.0 a.1 in
    let second : get_or (keys_of book) j [] ≡ y.0 = sym (number_of_row-key rows j) ∙ number_of_row-is rows j b.0 b.1 in
    let apart : bytes_eq x.0 y.0 ≡ false =
    subst (λ v. bytes_eq x.0 v ≡ false) second (subst (λ v. bytes_eq v (get_or (keys_of book) j []) ≡ false) first keys) in
    rw (number_of_row-is rows i a.0 a.1, number_of_row-is rows j b.0 b.1)
    (before_from_ordered book x.0 y.0 x.1 y.1 (record_at-row l most rows f i a.0 a.1) (record_at-row l most rows f j b.0 b.1)
    (first_before x y later apart))

-- the number of a known parent is that at its rank
rank_of : (rows : List Row) (o : Option ℕ) (p : Option (List ℕ)) → IsRankOf rows o p → option_map (number_of_row rows) o ≡ p
rank_of rows None None is = refl
rank_of rows None (Some p) is = absurd is
rank_of rows (Some i) None is = absurd is
rank_of rows (Some i) (Some p) is = ap Some (get_or_from_slice_get (numbers_of rows) i p [] is)

-- and its rank is within
rank_in_rows : (rows : List Row) (o : Option ℕ) (p : Option (List ℕ)) → IsRankOf rows o p → (i : ℕ) → o ≡ Some i → i < length rows
rank_in_rows rows None p is i e = absurd (cc)
rank_in_rows rows (Some j) None is i e = absurd is
rank_in_rows rows (Some j) (Some p) is i e =
    let within : j < length (numbers_of rows) = slice_get_within (numbers_of rows) j p is in
    let same : j ≡ i = cc in
    let all = length-numbers_of rows in
    omega arith

-- what a row says of a parent
pub record IsParentRank (rows : List Row) (known : Option (List ℕ)) (rank : Option ℕ) : Type 0 where
  pub number : option_map (number_of_row rows) rank ≡ known
  pub within : (p : ℕ) → rank ≡ Some p → p < length rows

parent_at : (l most : ℕ) (rows : List Row) → IsFrozen l most rows → (rank : Parents → Option ℕ) (parent : Animal → Option (List ℕ)) →
    ((row : Row) → IsFrozenRow rows row → IsRankOf rows (rank (parents_of row)) (parent row.animal)) → (i : ℕ) → i < length rows →
    IsParentRank rows (option_and_then parent (record_of (book_of rows) (number_of_row rows i))) (option_and_then rank (slice_get (map parents_of rows) i))
parent_at l most rows f rank parent given i li =
    let a = there rows i li in
    let is : option_and_then rank (slice_get (map parents_of rows) i) ≡ rank (parents_of a.0) = rw (slice_get-map parents_of rows i, a.1) refl in
    let known : option_and_then parent (record_of (book_of rows) (number_of_row rows i)) ≡ parent a.0.animal =
    rw (number_of_row-is rows i a.0 a.1, record_at-row l most rows f i a.0 a.1) refl in
    let row = given a.0 (f.each i a.0 a.1) in
    record {
      number = rw (is, known) (rank_of rows (rank (parents_of a.0)) (parent a.0.animal) row);
      within = λ p e. rank_in_rows rows (rank (parents_of a.0)) (parent a.0.animal) row p (sym is ∙ e);
    }

pub sire_at : (l most : ℕ) (rows : List Row) → IsFrozen l most rows → (i : ℕ) → i < length rows →
    IsParentRank rows ((ancestry_of rows).sire (number_of_row rows i)) (sire_rank (map parents_of rows) i)
sire_at l most rows f = parent_at l most rows f (λ parents. parents.sire) (λ animal. animal.sire) (λ row is. is.sire)

pub dam_at : (l most : ℕ) (rows : List Row) → IsFrozen l most rows → (i : ℕ) → i < length rows →
    IsParentRank rows ((ancestry_of rows).dam (number_of_row rows i)) (dam_rank (map parents_of rows) i)
dam_at l most rows f = parent_at l most rows f (λ parents. parents.dam) (λ animal. animal.dam) (λ row is. is.dam)

-- an animal that is before another stands below it
below_from_before : (l most : ℕ) (rows : List Row) → IsFrozen l most rows → (p i : ℕ) → p < length rows → i < length rows →
    IsTrue ((ancestry_of rows).before (number_of_row rows p) (number_of_row rows i)) → p < i
below_from_before l most rows f p i lp li t =
    let w = frozen-lawful l most rows f in
    ⊎_elim
    (λ (e : p ≡ i).
    let P : ℕ → Type 0 = λ v. IsTrue ((ancestry_of rows).before (number_of_row rows v) (number_of_row rows i)) in
    let t' : P i = subst P e t in
    absurd (w.one_way (number_of_row rows i) (number_of_row rows i) t' t'))
    (λ r. ⊎_elim (λ (g : p < i). g)
    (λ (g : i < p). absurd (w.one_way (number_of_row rows p) (number_of_row rows i) t (frozen-ordered l most rows f i p g lp))) r)
    (cases_order p i)

same_ranks : (l most : ℕ) (rows : List Row) → IsFrozen l most rows → (i j : ℕ) → i < length rows → j < length rows →
    (ancestry_of rows).same (number_of_row rows i) (number_of_row rows j) ≡ eqb i j
same_ranks l most rows f i j li lj =
    let w = frozen-lawful l most rows f in
    let x = number_of_row rows i in
    let y = number_of_row rows j in
    ⊎_elim
    (λ (e : i ≡ j). (w.same x y).1 (ap (number_of_row rows) e) ∙ sym (eq-eqb i j e))
    (λ r. ⊎_elim
    (λ (g : i < j). apart (ancestry_of rows) w x y (frozen-ordered l most rows f i j g lj) ∙ sym (ne_eqb i j (λ e. omega arith)))
    (λ (g : j < i). apart_back (ancestry_of rows) w y x (frozen-ordered l most rows f j i g li) ∙ sym (ne_eqb i j (λ e. omega arith))) r)
    (cases_order i j)

-- two ranks of one number are the same
pub same_rank : (l most : ℕ) (rows : List Row) → IsFrozen l most rows → (i j : ℕ) → i < length rows → j < length rows →
    number_of_row rows i ≡ number_of_row rows j → i ≡ j
same_rank l most rows f i j li lj e =
    let w = frozen-lawful l most rows f in
    eqb-true i j (sym (same_ranks l most rows f i j li lj) ∙ (w.same (number_of_row rows i) (number_of_row rows j)).1 e)

-- who is in the book stands at a rank
pub rank_there : (rows : List Row) (x : List ℕ) → Contains (keys_of (book_of rows)) x → (i : ℕ) × (i < length rows) × (number_of_row rows i ≡ x)
rank_there rows x among =
    let there : Contains (numbers_of rows) x = subst (λ ns. Contains ns x) (sym (numbers_are_keys rows)) among in
    let at : slice_get (numbers_of rows) there.0 ≡ Some x = slice_get-get_or (numbers_of rows) there.0 x there.1 ∙ ap Some there.2 in
    let within : there.0 < length rows = subst (λ n. there.0 < n) (length-numbers_of rows) there.1 in
    (there.0, within, get_or_from_slice_get (numbers_of rows) there.0 x [] at)

before_ranks : (l most : ℕ) (rows : List Row) → IsFrozen l most rows → (i j : ℕ) → i < length rows → j < length rows →
    (ancestry_of rows).before (number_of_row rows i) (number_of_row rows j) ≡ ltb i j
before_ranks l most rows f i j li lj =
    ⊎_elim
    (λ (g : i < j). frozen-ordered l most rows f i j g lj ∙ sym (lt-ltb i j g))
    (λ (g : j ≤ i).
    false_from_ne_true _ (λ t. let h : i < j = below_from_before l most rows f i j li lj t in omega arith) ∙ sym (le-ltb i j g))
    (cases_lt i j)

numbers_are : (rows : List Row) → keys_of (book_of rows) ≡ map (number_of_row rows) (range_with_len 0 (length rows))
numbers_are rows = sym (numbers_are_keys rows) ∙ fill_by_all (number_of_row rows) (numbers_of rows) (length rows) [] (length-numbers_of rows) (λ k _. refl)

-- the book's ancestry is that of its lineage, its animals named by their numbers
pub frozen-renamed : (l most : ℕ) (rows : List Row) → IsFrozen l most rows → IsRenamed (ranked (map parents_of rows)) (ancestry_of rows) (number_of_row rows)
frozen-renamed l most rows f =
    let long : length (map parents_of rows) ≡ length rows = length-map rows parents_of in
    let within : (i : ℕ) → Contains (range_with_len 0 (length (map parents_of rows))) i → i < length rows = λ i c. subst (λ n. i < n) long (rank-below (length (map parents_of rows)) i c) in
    record {
      animals =
          let P : List (List ℕ) → Type 0 = λ v. IsPermutation (map (number_of_row rows) (range_with_len 0 (length (map parents_of rows)))) v in
          let same : map (number_of_row rows) (range_with_len 0 (length (map parents_of rows))) ≡ keys_of (book_of rows) =
          ap (λ n. map (number_of_row rows) (range_with_len 0 n)) long ∙ sym (numbers_are rows) in
          subst P same (IsPermutation-refl (map (number_of_row rows) (range_with_len 0 (length (map parents_of rows)))));
      same = λ i j ci cj. same_ranks l most rows f i j (within i ci) (within j cj);
      before = λ i j ci cj. before_ranks l most rows f i j (within i ci) (within j cj);
      sire = λ i c. sym (sire_at l most rows f i (within i c)).number;
      dam = λ i c. sym (dam_at l most rows f i (within i c)).number;
    }

-- what is made of the lineage is made of the book
module _ (l most : ℕ) (rows : List Row) (f : IsFrozen l most rows) (made : List Parents) (its : made ≡ map parents_of rows) (w : IsLineage l most made) where
  pub renamed : IsRenamed (ranked made) (ancestry_of rows) (number_of_row rows)
  renamed = subst (λ v. IsRenamed (ranked v) (ancestry_of rows) (number_of_row rows)) (sym its) (frozen-renamed l most rows f)

  pub lawful : IsLawful (ranked made)
  lawful = ranked-lawful l most made w

  pub long : length made ≡ length rows
  long = ap (λ (v : List Parents). length v) its ∙ length-map rows parents_of

  pub member : (i : ℕ) → i < length rows → Contains (ranked made).animals i
  member i li = rank-in (length made) i (rw long li)

  pub coefficient-book : (i : ℕ) → i < length rows → coefficient (ancestry_of rows) l (number_of_row rows i) ≡ coefficient (ranked made) l i
  coefficient-book i li = coefficient-renamed (ranked made) (ancestry_of rows) (number_of_row rows) lawful renamed l i (member i li)

  pub mendelian-book : (i : ℕ) → i < length rows → mendelian (ancestry_of rows) l (number_of_row rows i) ≡ mendelian (ranked made) l i
  mendelian-book i li = mendelian-renamed (ranked made) (ancestry_of rows) (number_of_row rows) lawful renamed l i (member i li)

  pub entry-book : (k i j : ℕ) → i < length rows → j < length rows → entry (ancestry_of rows) k (Some (number_of_row rows i)) (Some (number_of_row rows j)) ≡ entry (ranked made) k (Some i) (Some j)
  entry-book k i j li lj =
      entry-renamed (ranked made) (ancestry_of rows) (number_of_row rows) lawful renamed k (Some i) (Some j)
      (known_some (ranked made) i (member i li)) (known_some (ranked made) j (member j lj))

  pub coefficients-book : (numerators : List ℕ) → AreCoefficients l made numerators → AreBookCoefficients l rows numerators
  coefficients-book numerators are = record {
    each = are.each ∙ long;
    right = λ i li. are.right i (rw long li) ∙ sym (coefficient-book i li);
  }

  -- and the other way round
  pub coefficients-lineage : (numerators : List ℕ) → AreBookCoefficients l rows numerators → AreCoefficients l made numerators
  coefficients-lineage numerators are = record {
    each = are.each ∙ sym long;
    right = λ i li. let at : i < length rows = subst (λ n. i < n) long li in are.right i at ∙ coefficient-book i at;
  }

  -- the animal at a rank of the lineage is that of the book
  pub rank-book : (i : ℕ) → i < length rows → IsInLineage l rows i (record { rows = made; rank = i })
  rank-book i li = record {
    each = long;
    right = λ j lj. sym (entry-book (2 * l) i j li lj);
  }

  -- a path to an ancestor by ranks is one by numbers
  path-numbers : (n i j : ℕ) → i < length rows → PathTo (ranked made) n i j → PathTo (ancestry_of rows) n (number_of_row rows i) (number_of_row rows j)
  unfolding PathTo
  path-numbers zero i j li path = ap (number_of_row rows) path
  path-numbers (suc n) i j li path =
      let q : ℕ = path.0 in
      let cq = (lawful.parents q i (member i li) path.1).0 in
      let lq : q < length rows = subst (λ n. q < n) long (rank-below (length made) q cq) in
      let is : IsParentIn (ancestry_of rows) (number_of_row rows q) (number_of_row rows i) =
      ⊎_elim (λ s. inl (renamed.sire i (member i li) ∙ ap (option_map (number_of_row rows)) s)) (λ d. inr (renamed.dam i (member i li) ∙ ap (option_map (number_of_row rows)) d)) path.1 in
      (number_of_row rows q, is, path-numbers n q j lq path.2)

  pub known-lineage : (known : List ℕ) (i : ℕ) → i < length rows → KnowsBookAncestors l rows known i → KnowsAncestors l made known i
  known-lineage known i li k = record {
    each = k.each ∙ sym long;
    right = λ p lp a.
        let lq : p < length rows = subst (λ n. p < n) long lp in
        k.right p lq (a.0, path-numbers (suc a.0) i p li a.1) ∙ coefficient-book p lq;
  }

  -- a path by numbers is one by ranks
  path-ranks : (n : ℕ) (x : List ℕ) (j : ℕ) → j < length rows → PathTo (ancestry_of rows) n x (number_of_row rows j) →
      (i : ℕ) × (i < length rows) × (number_of_row rows i ≡ x) × PathTo (ranked made) n i j
  unfolding PathTo
  path-ranks zero x j lj path = (j, lj, sym path, refl)
  path-ranks (suc n) x j lj path =
      let q : List ℕ = path.0 in
      let later = path-ranks n q j lj path.2 in
      let own = rank_there rows x (child_there (book_of rows) x q path.1) in
      let i : ℕ = own.0 in
      let known : (o : Option ℕ) → ((p : ℕ) → o ≡ Some p → p < length rows) → option_map (number_of_row rows) o ≡ Some q → o ≡ Some later.0 =
      λ o within e. known_rank o within e later.0 later.1 later.2 in
      let below : (p : ℕ) → IsParentIn (ranked made) p i → p < length rows =
      λ p is. subst (λ n. p < n) long (rank-below (length made) p (lawful.parents p i (member i own.1) is).0) in
      let parent : IsParentIn (ranked made) later.0 i =
      ⊎_elim
      (λ s. inl (known (sire_rank made i) (λ p e. below p (inl e)) (sym (renamed.sire i (member i own.1)) ∙ ap (ancestry_of rows).sire own.2 ∙ s)))
      (λ d. inr (known (dam_rank made i) (λ p e. below p (inr e)) (sym (renamed.dam i (member i own.1)) ∙ ap (ancestry_of rows).dam own.2 ∙ d)))
      path.1 in
      (i, own.1, own.2, (later.0, parent, later.3))
    where
      known_rank : (o : Option ℕ) → ((p : ℕ) → o ≡ Some p → p < length rows) → {q : List ℕ} → option_map (number_of_row rows) o ≡ Some q →
          (j : ℕ) → j < length rows → number_of_row rows j ≡ q → o ≡ Some j
      known_rank None within e j lj is = absurd (cc)
      known_rank (Some p) within {q} e j lj is =
          let its : number_of_row rows p ≡ q = same_Some _ _ e in
          ap Some (same_rank l most rows f p j (within p refl) lj (its ∙ sym is))

  -- what is known of ranks and their ancestors is known of their numbers
  pub coefficients-numbers : (numbers : List (List ℕ)) (ranks known : List ℕ) → AreRanksOf rows numbers ranks →
      AreCoefficientsOf l made (Contains ranks) known → AreBookCoefficientsOf l rows numbers known
  coefficients-numbers numbers ranks known of are = record {
    each = are.each ∙ long;
    right = λ rank within comes.
        let own = path-ranks comes.2 comes.0 rank within comes.3 in
        let named : Contains numbers (number_of_row rows own.0) = subst (λ x. Contains numbers x) (sym own.2) comes.1 in
        are.right rank (own.0, of.each own.0 own.1 named, comes.2, own.3) ∙ sym (coefficient-book rank within);
  }

-- Coefficients of some animals and their ancestors

-- the ancestors of an animal of these numbers are known
pub knows-ancestors : (l : ℕ) (rows : List Row) (numbers : List (List ℕ)) (known : List ℕ) → AreBookCoefficientsOf l rows numbers known →
    (rank : ℕ) (number : List ℕ) → slice_get (numbers_of rows) rank ≡ Some number → Contains numbers number → KnowsBookAncestors l rows known rank
knows-ancestors l rows numbers known are rank number stands named =
    let own : number_of_row rows rank ≡ number = get_or_from_slice_get (numbers_of rows) rank number [] stands in
    record {
      each = are.each;
      right = λ p within a. are.right p within (number_of_row rows rank, subst (λ x. Contains numbers x) (sym own) named, suc a.0, a.1);
    }

-- and the animal itself
pub knows-itself : (l : ℕ) (rows : List Row) (numbers : List (List ℕ)) (known : List ℕ) → AreBookCoefficientsOf l rows numbers known →
    (rank : ℕ) (number : List ℕ) → slice_get (numbers_of rows) rank ≡ Some number → Contains numbers number →
    get_or known rank 0 ≡ coefficient (ancestry_of rows) l number
knows-itself l rows numbers known are rank number stands named =
    let own : number_of_row rows rank ≡ number = get_or_from_slice_get (numbers_of rows) rank number [] stands in
    let within : rank < length rows = subst (λ n. rank < n) (length-numbers_of rows) (slice_get_within (numbers_of rows) rank number stands) in
    are.right rank within (comes_itself (ancestry_of rows) (Contains numbers) (number_of_row rows rank) (subst (λ x. Contains numbers x) (sym own) named))
    ∙ ap (coefficient (ancestry_of rows) l) own

-- what is known of some numbers is known of one of them
pub known-one : (l : ℕ) (rows : List Row) (numbers : List (List ℕ)) (known : List ℕ) → AreBookCoefficientsOf l rows numbers known →
    (number : List ℕ) → Contains numbers number → AreBookCoefficientsOf l rows (number ∷ []) known
known-one l rows numbers known are number named = record {
  each = are.each;
  right = λ rank within comes.
      let among : Contains numbers comes.0 =
      ⊎_elim (λ none. absurd (omega (arith, none.1))) (λ (same : number ≡ comes.0). subst (λ x. Contains numbers x) same named) (Contains-push_cases [] number comes.0 comes.1) in
      are.right rank within (comes.0, among, comes.2, comes.3);
}

-- Ranks of numbers

-- no number has a rank
pub ranks-none : (rows : List Row) (ranks : List ℕ) → ranks ≡ [] → AreRanksOf rows [] ranks
ranks-none rows ranks none = rw none (record { within = All-nil (λ rank. rank < length rows); each = λ rank within named. absurd (omega (arith, named.1)) })

-- one number more that is in the book
pub ranks-more : (l most : ℕ) (rows : List Row) → IsFrozen l most rows → (numbers : List (List ℕ)) (ranks : List ℕ) (number : List ℕ) (own : ℕ) →
    slice_get (numbers_of rows) own ≡ Some number → own < length rows → AreRanksOf rows numbers ranks → AreRanksOf rows (numbers ++ number ∷ []) (ranks ++ own ∷ [])
ranks-more l most rows f numbers ranks number own stands within are = record {
  within = All-push (λ rank. rank < length rows) ranks own are.within within;
  each = λ rank low named.
      ⊎_elim
      (λ (before : Contains numbers (number_of_row rows rank)). Contains-append_left ranks (own ∷ []) rank (are.each rank low before))
      (λ (here : number ≡ number_of_row rows rank).
      let same : own ≡ rank = same_rank l most rows f own rank within low (get_or_from_slice_get (numbers_of rows) own number [] stands ∙ here) in
      subst (λ r. Contains (ranks ++ own ∷ []) r) same (Contains-push ranks own))
      (Contains-push_cases numbers number (number_of_row rows rank) named);
}

-- one that isn't
pub ranks-absent : (rows : List Row) (numbers : List (List ℕ)) (ranks : List ℕ) (number : List ℕ) →
    is_there (book_of rows) number ≡ false → AreRanksOf rows numbers ranks → AreRanksOf rows (numbers ++ number ∷ []) ranks
ranks-absent rows numbers ranks number absent are = record {
  within = are.within;
  each = λ rank low named.
      ⊎_elim
      (λ (before : Contains numbers (number_of_row rows rank)). are.each rank low before)
      (λ (here : number ≡ number_of_row rows rank).
      let a = record_there (book_of rows) (number_of_row rows rank) (frozen-member rows rank low) in
      let there : is_there (book_of rows) (number_of_row rows rank) ≡ true = rw a.1 refl in
      let not : is_there (book_of rows) (number_of_row rows rank) ≡ false = subst (λ n. is_there (book_of rows) n ≡ false) here absent in
      absurd (both_ways _ not there))
      (Contains-push_cases numbers number (number_of_row rows rank) named);
}
