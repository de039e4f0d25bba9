-- What an animal of a frozen book contributes to the inverse of the numerator relationship matrix (Henderson 1976).
-- l is the limit of depths.
use Rattle.std.specs.Prelude.{ℕ, List, [], ◌∷◌, map, max, min, Option, None, Some, ◌*ℤ◌}
use Rattle.herd_lineage.specs.Lineage.{dam_rank, sire_rank}
use Rattle.herd_frozen.specs.declared.freezing.frozen.Row.{Row}
use Rattle.herd_frozen.specs.freezing.Frozen.{parents_of}
use Rattle.herd_kinship.specs.declared.contribution.Contribution.{Contribution}
use Rattle.herd_kinship.specs.Contributions.{quarters_of}
use Rattle.herd_kinship.specs.InverseRows.{half_row}
use Rattle.herd_kinship.specs.Table.{mendelian}
use Rattle.herd_advice.specs.FrozenAncestry.{ancestry_of, number_of_row}

-- the pairs of ranks at which animal i contributes, the later one first
abbrev pub book_pairs_of : ℕ → Option ℕ → Option ℕ → List (ℕ × ℕ)
book_pairs_of i None None = (i, i) ∷ []
book_pairs_of i (Some s) None = (i, i) ∷ (i, s) ∷ (s, s) ∷ []
book_pairs_of i None (Some d) = (i, i) ∷ (i, d) ∷ (d, d) ∷ []
book_pairs_of i (Some s) (Some d) = (i, i) ∷ (i, s) ∷ (i, d) ∷ (s, s) ∷ (d, d) ∷ (max s d, min s d) ∷ []

-- the contribution of i at p and q: both their halves in its row, times 1 over its Mendelian sampling variance
abbrev pub book_contribution_at : ℕ → List Row → ℕ → ℕ × ℕ → Contribution
book_contribution_at l rows i pair = record {
  row = pair.0;
  column = pair.1;
  value =
      quarters_of l (mendelian (ancestry_of rows) l (number_of_row rows i))
      (half_row (ancestry_of rows) (number_of_row rows i) (number_of_row rows pair.0)
      *ℤ half_row (ancestry_of rows) (number_of_row rows i) (number_of_row rows pair.1));
}

-- the contributions of i in their order
unfoldable pub book_contributions_of : ℕ → List Row → ℕ → List Contribution
book_contributions_of l rows i =
    map (book_contribution_at l rows i)
    (book_pairs_of i (sire_rank (map parents_of rows) i) (dam_rank (map parents_of rows) i))
