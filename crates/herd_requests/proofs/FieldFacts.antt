-- The fields of a record from a place on.
use Rattle.std.proofs.Common.{◌≡◌, ℕ, zero, suc, ◌<◌, [], ◌∷◌, length, drop, refl, arith}
use Rattle.csv.specs.Records.{field_at}
use Rattle.csv_records.specs.Fields.{Fields, field}

-- the field at a place, and those behind it
pub drop_field : (place : ℕ) (fields : Fields) → place < length fields
    → drop place fields ≡ field place fields ∷ drop (suc place) fields
unfolding field_at
drop_field place [] within = absurd (omega arith)
drop_field zero (first ∷ others) within = refl
drop_field (suc place) (first ∷ others) within = drop_field place others (omega arith)
