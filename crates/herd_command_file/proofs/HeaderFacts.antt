-- The header by its columns.
use Rattle.std.proofs.Common.{◌≡◌, ◌∙◌, ℕ, zero, suc, List, [], ◌∷◌, ◌++◌, length, Bool, true, false, ◌&&◌, refl, sym, ap, arith}
use Rattle.std.proofs.Math.Bool.{and_assoc}
use Rattle.std.specs.Prelude.{codes}
use Rattle.std.specs.Cmp.Lexicographic.{pointwise}
use Rattle.std.specs.Str.{bytes_eq}
use Rattle.csv.specs.Records.{field_at}
use Rattle.herd_command_file.specs.Columns.{are_names}
use Rattle.csv_records.specs.Fields.{Fields, field}
use Rattle.herd_command_file.specs.Grammar.{Texts, texts_in, first_columns, is_header}
use Rattle.herd_command_file.specs.declared.version.Version.TheVariants.{One, Two}

-- the fields at so many places, from one on
abbrev fields_from : ℕ → ℕ → Fields → Fields
fields_from zero place fields = []
fields_from (suc n) place fields = field place fields ∷ fields_from n (suc place) fields

fields_from-suc : (n place : ℕ) (first : List ℕ) (others : Fields) → fields_from n (suc place) (first ∷ others) ≡ fields_from n place others
unfolding field_at
fields_from-suc zero place first others = refl
fields_from-suc (suc n) place first others = ap (λ (rest : Fields). field place others ∷ rest) (fields_from-suc n (suc place) first others)

-- a record is the fields at all its places
all_fields : (fields : Fields) → fields ≡ fields_from (length fields) 0 fields
unfolding field_at
all_fields [] = refl
all_fields (first ∷ others) =
    ap (λ (rest : Fields). first ∷ rest) (all_fields others ∙ sym (fields_from-suc (length others) 0 first others))

so_many_fields : (n : ℕ) (fields : Fields) → length fields ≡ n → fields ≡ fields_from n 0 fields
so_many_fields n fields long = all_fields fields ∙ ap (λ m. fields_from m 0 fields) long

pub is_header-One : (fields : Fields) → length fields ≡ 7 → is_header One fields ≡ are_names (texts_in fields)
is_header-One fields long = ap (is_header One) (so_many_fields 7 fields long)

and-true : (b : Bool) → (b && true) ≡ b
and-true true = refl
and-true false = refl

-- one more name at the end
pointwise-and : (xs names : Fields) (x name : List ℕ) → length xs ≡ length names
    → pointwise bytes_eq (xs ++ x ∷ []) (names ++ name ∷ []) ≡ (pointwise bytes_eq xs names && bytes_eq x name)
pointwise-and [] [] x name same = and-true (bytes_eq x name)
pointwise-and [] (b ∷ names) x name same = absurd (omega arith)
pointwise-and (a ∷ xs) [] x name same = absurd (omega arith)
pointwise-and (a ∷ xs) (b ∷ names) x name same =
    ap (λ rest. bytes_eq a b && rest) (pointwise-and xs names x name (omega arith))
    ∙ sym (and_assoc (bytes_eq a b) (pointwise bytes_eq xs names) (bytes_eq x name))

is_header-and : (fields : Fields) → length fields ≡ 8
    → is_header Two fields ≡ (are_names (texts_in fields) && bytes_eq (field 7 fields) (codes "embryo"))
is_header-and fields long =
    ap (is_header Two) (so_many_fields 8 fields long)
    ∙ pointwise-and (fields_from 7 0 fields) first_columns (field 7 fields) (codes "embryo") refl

-- under the names of version 1 the last column decides
pub is_header-Two : (fields : Fields) (texts : Texts) → texts ≡ texts_in fields → length fields ≡ 8 → are_names texts ≡ true
    → bytes_eq texts.embryo (codes "embryo") ≡ is_header Two fields
is_header-Two fields texts same long names =
    sym (is_header-and fields long
    ∙ ap (λ (t : Texts). are_names t && bytes_eq t.embryo (codes "embryo")) (sym same)
    ∙ ap (λ b. b && bytes_eq texts.embryo (codes "embryo")) names)

-- and other names are no header
pub no_header-Two : (fields : Fields) (texts : Texts) → texts ≡ texts_in fields → length fields ≡ 8 → are_names texts ≡ false
    → false ≡ is_header Two fields
no_header-Two fields texts same long names =
    sym (is_header-and fields long
    ∙ ap (λ (t : Texts). are_names t && bytes_eq t.embryo (codes "embryo")) (sym same)
    ∙ ap (λ b. b && bytes_eq texts.embryo (codes "embryo")) names)
