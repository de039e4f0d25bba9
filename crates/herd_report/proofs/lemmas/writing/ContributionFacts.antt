-- The elements that an animal contributes.
use Rattle.std.proofs.Common.{◌≡◌, ℕ, ◌<◌, ◌≤◌, List, [], ◌∷◌, ◌++◌, length, map, take, max, min, Option, Some, None, All, refl, arith}
use Rattle.std.specs.Prelude.{codes}
use Rattle.std.specs.List.{flat_map}
use Rattle.std.proofs.lemmas.List.Elements.{All-cons, All-nil}
use Rattle.herd_frozen.specs.declared.TheConstants.{DEPTH_LIMIT, MOST_ANIMALS}
use Rattle.herd_frozen.specs.declared.freezing.frozen.Row.{Row}
use Rattle.herd_frozen.specs.freezing.Frozen.{IsFrozen, parents_of}
use Rattle.herd_kinship.specs.declared.contribution.Contribution.{Contribution}
use Rattle.herd_kinship.specs.declared.contribution.Contributions.{Contributions}
use Rattle.herd_kinship.specs.Contributions.{filled}
use Rattle.herd_advice.specs.BookContributions.{book_contribution_at, book_contributions_of, book_pairs_of}
use Rattle.herd_lineage.specs.Lineage.{dam_rank, sire_rank}
use Rattle.herd_advice.proofs.lemmas.FrozenFacts.{dam_at, sire_at}
use Rattle.herd_advice.specs.FrozenAncestry.{number_of_row}
use Rattle.herd_kinship.specs.Fraction.{fraction_text}
use Rattle.herd_text.proofs.lemmas.TextFacts.{some_after, some_before}
use Rattle.herd_report.specs.writing.InverseList.{IsWithin, contribution_line, contributions_text}
use Rattle.herd_text.specs.CoefficientText.{value_line_end}

-- of the six elements the first ones are those that count
take-filled : (f : ℕ × ℕ → Contribution) (i : ℕ) (s d : Option ℕ)
    → take (length (map f (book_pairs_of i s d))) (filled (map f (book_pairs_of i s d))) ≡ map f (book_pairs_of i s d)
take-filled f i None None = refl
take-filled f i (Some s) None = refl
take-filled f i None (Some d) = refl
take-filled f i (Some s) (Some d) = refl

-- of those that are listed too
pub listed_part : (rows : List Row) (rank : ℕ) (listed : Contributions) → listed.count ≡ length (book_contributions_of DEPTH_LIMIT rows rank)
    → listed.list ≡ filled (book_contributions_of DEPTH_LIMIT rows rank) → take listed.count listed.list ≡ book_contributions_of DEPTH_LIMIT rows rank
unfolding book_contributions_of
listed_part rows rank listed count list =
    rw (count, list) (take-filled (book_contribution_at DEPTH_LIMIT rows rank) rank (sire_rank (map parents_of rows) rank) (dam_rank (map parents_of rows) rank))

-- there are at most six
at_most_six : (f : ℕ × ℕ → Contribution) (i : ℕ) (s d : Option ℕ) → length (map f (book_pairs_of i s d)) ≤ 6
at_most_six f i None None = omega arith
at_most_six f i (Some s) None = omega arith
at_most_six f i None (Some d) = omega arith
at_most_six f i (Some s) (Some d) = omega arith

pub length-contributions-le : (rows : List Row) (rank : ℕ) → length (book_contributions_of DEPTH_LIMIT rows rank) ≤ 6
unfolding book_contributions_of
length-contributions-le rows rank = at_most_six (book_contribution_at DEPTH_LIMIT rows rank) rank (sire_rank (map parents_of rows) rank) (dam_rank (map parents_of rows) rank)

-- an element at two ranks of the book
within_at : (rows : List Row) (i p q : ℕ) → p < length rows → q < length rows → IsWithin rows (book_contribution_at DEPTH_LIMIT rows i (p, q))
within_at rows i p q first second = record { row = first; column = second }

-- the elements of an animal and of known parents of the book are within it
module _ (rows : List Row) (i : ℕ) (own : i < length rows) where
  abbrev value : ℕ × ℕ → Contribution
  value = book_contribution_at DEPTH_LIMIT rows i

  one_within : (element : Contribution) (rest : List Contribution) → IsWithin rows element → All (IsWithin rows) rest → All (IsWithin rows) (element ∷ rest)
  one_within element rest first later = All-cons (IsWithin rows) element rest first later

  all_within : (s d : Option ℕ) → ((p : ℕ) → s ≡ Some p → p < length rows) → ((p : ℕ) → d ≡ Some p → p < length rows)
      → All (IsWithin rows) (map (book_contribution_at DEPTH_LIMIT rows i) (book_pairs_of i s d))
  all_within None None sire dam = one_within (value (i, i)) [] (within_at rows i i i own own) (All-nil (IsWithin rows))
  all_within (Some s) None sire dam =
      let known = sire s refl in
      one_within (value (i, i)) (value (i, s) ∷ value (s, s) ∷ []) (within_at rows i i i own own)
      (one_within (value (i, s)) (value (s, s) ∷ []) (within_at rows i i s own known)
      (one_within (value (s, s)) [] (within_at rows i s s known known) (All-nil (IsWithin rows))))
  all_within None (Some d) sire dam =
      let known = dam d refl in
      one_within (value (i, i)) (value (i, d) ∷ value (d, d) ∷ []) (within_at rows i i i own own)
      (one_within (value (i, d)) (value (d, d) ∷ []) (within_at rows i i d own known)
      (one_within (value (d, d)) [] (within_at rows i d d known known) (All-nil (IsWithin rows))))
  all_within (Some s) (Some d) sire dam =
      let first = sire s refl in
      let second = dam d refl in
      let later : max s d < length rows = omega arith in
      let earlier : min s d < length rows = omega arith in
      let between = value (max s d, min s d) in
      one_within (value (i, i)) (value (i, s) ∷ value (i, d) ∷ value (s, s) ∷ value (d, d) ∷ between ∷ []) (within_at rows i i i own own)
      (one_within (value (i, s)) (value (i, d) ∷ value (s, s) ∷ value (d, d) ∷ between ∷ []) (within_at rows i i s own first)
      (one_within (value (i, d)) (value (s, s) ∷ value (d, d) ∷ between ∷ []) (within_at rows i i d own second)
      (one_within (value (s, s)) (value (d, d) ∷ between ∷ []) (within_at rows i s s first first)
      (one_within (value (d, d)) (between ∷ []) (within_at rows i d d second second)
      (one_within between [] (within_at rows i (max s d) (min s d) later earlier) (All-nil (IsWithin rows)))))))

pub contributions_within : (rows : List Row) → IsFrozen DEPTH_LIMIT MOST_ANIMALS rows → (rank : ℕ) → rank < length rows
    → All (IsWithin rows) (book_contributions_of DEPTH_LIMIT rows rank)
unfolding book_contributions_of
contributions_within rows frozen rank within =
    all_within rows rank within (sire_rank (map parents_of rows) rank) (dam_rank (map parents_of rows) rank)
    (sire_at DEPTH_LIMIT MOST_ANIMALS rows frozen rank within).within
    (dam_at DEPTH_LIMIT MOST_ANIMALS rows frozen rank within).within

some_line : (rows : List Row) (number : List ℕ) (element : Contribution) → 0 < length (contribution_line rows number element)
some_line rows number element =
    some_after
    (number ++ codes "," ++ number_of_row rows element.row ++ codes "," ++ number_of_row rows element.column ++ codes ",")
    (value_line_end element.value)
    (some_after (fraction_text element.value) (codes "\n") (omega arith))

some_lines : (rows : List Row) (number : List ℕ) (rank : ℕ) (f : ℕ × ℕ → Contribution) (s d : Option ℕ)
    → 0 < length (flat_map (contribution_line rows number) (map f (book_pairs_of rank s d)))
some_lines rows number rank f None None = some_before (contribution_line rows number (f (rank, rank))) _ (some_line rows number (f (rank, rank)))
some_lines rows number rank f (Some s) None = some_before (contribution_line rows number (f (rank, rank))) _ (some_line rows number (f (rank, rank)))
some_lines rows number rank f None (Some d) = some_before (contribution_line rows number (f (rank, rank))) _ (some_line rows number (f (rank, rank)))
some_lines rows number rank f (Some s) (Some d) = some_before (contribution_line rows number (f (rank, rank))) _ (some_line rows number (f (rank, rank)))

-- an animal contributes some lines
pub some_contributions_text : (rows : List Row) (rank : ℕ) → 0 < length (contributions_text rows rank)
unfolding book_contributions_of
some_contributions_text rows rank =
    some_lines rows (number_of_row rows rank) rank (book_contribution_at DEPTH_LIMIT rows rank) (sire_rank (map parents_of rows) rank) (dam_rank (map parents_of rows) rank)
