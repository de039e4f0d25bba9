-- The rows of a frozen book, kept with the ranks of the parents for their numbers.
use Rattle.std.specs.Prelude.{◌≡◌, ℕ, List, [], ◌∷◌, map, length}
use Rattle.herd_lineage.specs.Lineage.{IsLineage}
use Rattle.herd_lineage.specs.declared.TheConstants.{DEPTH_LIMIT, MOST_ANIMALS}
use Rattle.herd_frozen.specs.declared.rules.animal.Animal.{Animal}
use Rattle.herd_lineage.specs.declared.lineage.Parents.{Parents}
use Rattle.herd_frozen.specs.declared.freezing.frozen.Row.{Row}
use Rattle.herd_frozen.specs.declared.freezing.rows.RowRecord.{RowRecord}
use Rattle.herd_frozen.specs.places.Places.{number_at}

-- what a row keeps of an animal beside its parents
abbrev pub kept_of : List ℕ × Animal → RowRecord
kept_of entry = record {
  number = entry.0;
  embryo = entry.1.embryo;
  birth = entry.1.birth;
  herd = entry.1.herd;
  since = entry.1.since;
  left = entry.1.left;
}

-- the row of an animal of which this is kept, with parents of these numbers by rank
abbrev pub row_kept : List (List ℕ) → RowRecord → Parents → Row
row_kept numbers kept parents = record {
  number = kept.number;
  animal = record {
    birth = kept.birth;
    sire = number_at numbers parents.sire;
    dam = number_at numbers parents.dam;
    embryo = kept.embryo;
    herd = kept.herd;
    since = kept.since;
    left = kept.left;
  };
  sire = parents.sire;
  dam = parents.dam;
  depth = parents.depth;
}

-- the rows of which these are kept, one by one
unfoldable pub rows_with : List (List ℕ) → List RowRecord → List Parents → List Row
rows_with numbers [] parents = []
rows_with numbers (first ∷ rest) [] = []
rows_with numbers (first ∷ rest) (parents ∷ others) =
    row_kept numbers first parents ∷ rows_with numbers rest others

abbrev pub numbers_kept : List RowRecord → List (List ℕ)
numbers_kept records = map (λ kept. kept.number) records

-- the rows of which all this is kept
abbrev pub rows_kept : List RowRecord → List Parents → List Row
rows_kept records parents = rows_with (numbers_kept records) records parents

-- each row has its parents, and these are a lineage
pub record AreKept (records : List RowRecord) (parents : List Parents) : Type 0 where
  pub long : length parents ≡ length records
  pub lineage : IsLineage DEPTH_LIMIT MOST_ANIMALS parents
