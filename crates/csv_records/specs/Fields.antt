-- The fields of a record, as bytes.
use Rattle.std.specs.Prelude.{ℕ, List, [], unwrap_or}
use Rattle.csv.specs.Records.{field_at}

abbrev pub Fields : Type 0
Fields = List (List ℕ)

-- the field at a place, and the empty one where the record has fewer
abbrev pub field : ℕ → Fields → List ℕ
field place fields = unwrap_or (field_at fields place) []
