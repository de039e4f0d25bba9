-- Whose relationships are kept, of a frozen book.
use Rattle.std.specs.Prelude.{◌≡◌, ℕ, ◌*◌, ◌<◌, List, length, Some}
use Rattle.herd_frozen.specs.declared.freezing.frozen.Row.{Row}
use Rattle.herd_kinship.specs.Columns.{RankInLineage}
use Rattle.herd_kinship.specs.Ranks.{ranked}
use Rattle.herd_kinship.specs.Table.{entry}
use Rattle.herd_advice.specs.FrozenAncestry.{ancestry_of, number_of_row}

-- an animal of a frozen book, by its rank
pub record RankInBook : Type 0 where
  pub rows : List Row
  pub rank : ℕ

-- the animal of the book at a rank is this one of a lineage: its entries, in unit 2^-2l, are the same
pub record IsInLineage (l : ℕ) (rows : List Row) (rank : ℕ) (animal : RankInLineage) : Type 0 where
  pub each : length animal.rows ≡ length rows
  pub right : (j : ℕ) → j < length rows
      → entry (ranked animal.rows) (2 * l) (Some animal.rank) (Some j)
      ≡ entry (ancestry_of rows) (2 * l) (Some (number_of_row rows rank)) (Some (number_of_row rows j))
