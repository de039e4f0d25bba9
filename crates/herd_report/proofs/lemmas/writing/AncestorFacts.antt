-- Following a path of parents through a frozen book.
use Rattle.std.proofs.Common.{◌≡◌, ◌∙◌, ℕ, ◌<◌, List, [], ◌∷◌, length, map, slice_get, Option, Some, None, ap, subst, sym, refl}
use Rattle.std.proofs.lemmas.Option.{slice_get_within, get_or_from_slice_get}
use Rattle.std.specs.Option.{option_and_then}
use Rattle.herd_frozen.specs.declared.freezing.frozen.Row.{Row}
use Rattle.herd_lineage.specs.declared.lineage.Parents.{Parents}
use Rattle.herd_frozen.specs.freezing.Frozen.{IsFrozen, IsRankOf, book_of, numbers_of, parents_of}
use Rattle.herd_advice.specs.FrozenAncestry.{number_of_row}
use Rattle.herd_kinship.specs.Ranks.{AreParentsAt}
use Rattle.herd_advice.proofs.lemmas.FrozenFacts.{length-numbers_of, number_of_row-is, record_at-row}
use Rattle.herd_advice.proofs.lemmas.FrozenFacts.{row-at}
use Rattle.herd_report.specs.declared.writing.ancestors.Parent.{Parent}
use Rattle.herd_report.specs.declared.writing.ancestors.Parent.TheVariants.{Sire, Dam}
use Rattle.herd_report.specs.writing.Ancestors.{ancestor_of, parent_of, parent_rank}

-- the path leads from the start where its rest leads from a rank of the book
pub record LeadsFrom (rows : List Row) (start : ℕ) (path : List Parent) (rank : ℕ) (rest : List Parent) : Type 0 where
  pub within : rank < length rows
  pub same : ancestor_of (book_of rows) (number_of_row rows start) path ≡ ancestor_of (book_of rows) (number_of_row rows rank) rest

-- the rank of a parent of the animal there, and who that parent is
record IsParentAt (rows : List Row) (rank : ℕ) (parent : Parent) (told : Option ℕ) : Type 0 where
  known : Option (List ℕ)
  is_rank : IsRankOf rows told known
  is_parent : parent_of (book_of rows) parent (number_of_row rows rank) ≡ known

rank_told : (l most : ℕ) (rows : List Row) → IsFrozen l most rows → (rank : ℕ) (row : Row) → slice_get rows rank ≡ Some row
    → (parent : Parent) → IsRankOf rows (parent_rank parent (parents_of row)) (parent_of (book_of rows) parent row.number)
rank_told l most rows frozen rank row there Sire = rw (record_at-row l most rows frozen rank row there) (frozen.each rank row there).sire
rank_told l most rows frozen rank row there Dam = rw (record_at-row l most rows frozen rank row there) (frozen.each rank row there).dam

-- the parents at a rank tell it
parent_at : (l most : ℕ) (rows : List Row) → IsFrozen l most rows → (rank : ℕ) (parents : Parents) → AreParentsAt (map parents_of rows) rank parents
    → (parent : Parent) → IsParentAt rows rank parent (parent_rank parent parents)
parent_at l most rows frozen rank parents there parent =
    let at = row-at rows rank parents there in
    record {
      known = parent_of (book_of rows) parent at.row.number;
      is_rank =
          subst (λ (p : Parents). IsRankOf rows (parent_rank parent p) (parent_of (book_of rows) parent at.row.number)) (sym at.same)
          (rank_told l most rows frozen rank at.row at.there parent);
      is_parent = ap (parent_of (book_of rows) parent) (number_of_row-is rows rank at.row at.there);
    }

-- the parent whose rank is told is known, and stands there
rank_known : (rows : List Row) (next : ℕ) (rank : Option ℕ) (known : Option (List ℕ)) → IsRankOf rows rank known → rank ≡ Some next
    → (next < length rows) × (known ≡ Some (number_of_row rows next))
rank_known rows next None known is at = absurd (cc)
rank_known rows next (Some p) None is at = absurd is
rank_known rows next (Some p) (Some number) is at =
    let same : p ≡ next = cc in
    let there : slice_get (numbers_of rows) next ≡ Some number = rw (← same) is in
    let within : next < length (numbers_of rows) = slice_get_within (numbers_of rows) next number there in
    (rw (← length-numbers_of rows) within, ap Some (sym (get_or_from_slice_get (numbers_of rows) next number [] there)))

-- the parent whose rank isn't told is unknown
rank_unknown : (rows : List Row) (rank : Option ℕ) (known : Option (List ℕ)) → IsRankOf rows rank known → rank ≡ None → known ≡ None
rank_unknown rows rank None is at = refl
rank_unknown rows None (Some number) is at = absurd is
rank_unknown rows (Some p) (Some number) is at = absurd (cc)

-- the first parent of the path is known
pub leads_on : {l most : ℕ} {rows : List Row} {start rank : ℕ} {path : List Parent} (parent : Parent) (rest : List Parent) (parents : Parents) (next : ℕ)
    → IsFrozen l most rows → LeadsFrom rows start path rank (parent ∷ rest) → AreParentsAt (map parents_of rows) rank parents → parent_rank parent parents ≡ Some next
    → LeadsFrom rows start path next rest
leads_on {l} {most} {rows} {start} {rank} {path} parent rest parents next frozen leads there told =
    let book = book_of rows in
    let at = parent_at l most rows frozen rank parents there parent in
    let known = rank_known rows next (parent_rank parent parents) at.known at.is_rank told in
    record { within = known.0; same = leads.same ∙ ap (option_and_then (λ n. ancestor_of book n rest)) (at.is_parent ∙ known.1) }

-- the first parent of the path is unknown
pub leads_nowhere : {l most : ℕ} {rows : List Row} {start rank : ℕ} {path : List Parent} (parent : Parent) (rest : List Parent) (parents : Parents)
    → IsFrozen l most rows → LeadsFrom rows start path rank (parent ∷ rest) → AreParentsAt (map parents_of rows) rank parents → parent_rank parent parents ≡ None
    → ancestor_of (book_of rows) (number_of_row rows start) path ≡ None
leads_nowhere {l} {most} {rows} {start} {rank} {path} parent rest parents frozen leads there told =
    let book = book_of rows in
    let at = parent_at l most rows frozen rank parents there parent in
    let unknown = rank_unknown rows (parent_rank parent parents) at.known at.is_rank told in
    leads.same ∙ ap (option_and_then (λ n. ancestor_of book n rest)) (at.is_parent ∙ unknown)
