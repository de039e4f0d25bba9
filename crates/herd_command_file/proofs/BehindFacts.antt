-- Fields that stand behind others.
use Rattle.std.proofs.Common.{◌≡◌, ◌∙◌, ◌+◌, ℕ, zero, suc, [], ◌∷◌, drop, refl, ap, arith}
use Rattle.csv.specs.Records.{field_at}
use Rattle.csv_records.specs.Fields.{Fields, field}

-- the field at a place behind so many others
pub field_behind : (others place : ℕ) (fields : Fields) → field place (drop others fields) ≡ field (others + place) fields
unfolding field_at
field_behind zero place fields =
    let none : place ≡ 0 + place = omega arith in
    ap (λ n. field n fields) none
field_behind (suc others) place [] = refl
field_behind (suc others) place (first ∷ rest) =
    let one : suc (others + place) ≡ suc others + place = omega arith in
    field_behind others place rest ∙ ap (λ n. field n (first ∷ rest)) one
