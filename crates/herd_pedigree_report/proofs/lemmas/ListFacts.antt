-- The lines of animals, and the elements that an animal contributes.
use Rattle.std.proofs.Common.{◌≡◌, ℕ, ◌<◌, ◌≤◌, Bool, true, false, List, [], ◌∷◌, ◌++◌, length, map, take, Option, Some, None, refl, arith}
use Rattle.std.specs.Prelude.{codes, cond, max, min, nat_eq}
use Rattle.std.specs.List.{flat_map}
use Rattle.herd_lineage.specs.declared.TheConstants.{DEPTH_LIMIT}
use Rattle.herd_lineage.specs.declared.lineage.Parents.{Parents}
use Rattle.herd_lineage.specs.Lineage.{dam_rank, sire_rank}
use Rattle.herd_kinship.specs.declared.contribution.Contribution.{Contribution}
use Rattle.herd_kinship.specs.declared.contribution.Contributions.{Contributions}
use Rattle.herd_kinship.specs.Coefficients.{coefficient_at}
use Rattle.herd_kinship.specs.Contributions.{contribution_at, contributions_of, filled, pairs_of}
use Rattle.herd_kinship.specs.Fraction.{fraction_text}
use Rattle.herd_pedigree_file.specs.Number.{number_text}
use Rattle.herd_text.proofs.lemmas.TextFacts.{some_after, some_before}
use Rattle.herd_text.specs.CoefficientText.{value_line_end}
use Rattle.herd_pedigree_report.specs.InbreedingList.{animal_line}
use Rattle.herd_pedigree_report.specs.InverseList.{contribution_line, contributions_text}
use Rattle.herd_pedigree_report.specs.Notation.{coefficient_line_end, units_line_end}

-- ---- lines aren't empty

some_coefficient_end : (in_units : Bool) (numerator : ℕ) → 0 < length (coefficient_line_end in_units numerator)
some_coefficient_end true numerator = some_before (codes ",") (units_line_end numerator) (omega arith)
some_coefficient_end false numerator = omega arith

pub some_animal_line : (in_units : Bool) (lineage : List Parents) (rank : ℕ) → 0 < length (animal_line in_units lineage rank)
some_animal_line in_units lineage rank =
    some_after (number_text rank) (coefficient_line_end in_units (coefficient_at DEPTH_LIMIT lineage rank))
    (some_coefficient_end in_units (coefficient_at DEPTH_LIMIT lineage rank))

some_line : (rank : ℕ) (element : Contribution) → 0 < length (contribution_line rank element)
some_line rank element =
    some_after
    (number_text rank ++ codes "," ++ number_text element.row ++ codes "," ++ number_text element.column ++ codes ",")
    (value_line_end element.value)
    (some_after (fraction_text element.value) (codes "\n") (omega arith))

-- ---- the elements of an animal

-- those of an animal with two known parents, which may be one animal
abbrev pairs : ℕ → ℕ → ℕ → Bool → List (ℕ × ℕ)
pairs i s d selfed =
    cond selfed ((i, i) ∷ (i, s) ∷ (s, s) ∷ []) ((i, i) ∷ (i, s) ∷ (i, d) ∷ (s, s) ∷ (d, d) ∷ (max s d, min s d) ∷ [])

-- there are some, and at most six
some_pairs : (i : ℕ) (s d : Option ℕ) → 0 < length (pairs_of i s d)
some_pairs i None None = omega arith
some_pairs i (Some s) None = omega arith
some_pairs i None (Some d) = omega arith
some_pairs i (Some s) (Some d) =
    elim (nat_eq s d) as (λ selfed. 0 < length (pairs i s d selfed)) [
      | true ↦ omega arith
      | false ↦ omega arith
    ]

at_most_six : (f : ℕ × ℕ → Contribution) (i : ℕ) (s d : Option ℕ) → length (map f (pairs_of i s d)) ≤ 6
at_most_six f i None None = omega arith
at_most_six f i (Some s) None = omega arith
at_most_six f i None (Some d) = omega arith
at_most_six f i (Some s) (Some d) =
    elim (nat_eq s d) as (λ selfed. length (map f (pairs i s d selfed)) ≤ 6) [
      | true ↦ omega arith
      | false ↦ omega arith
    ]

pub length-contributions-le : (lineage : List Parents) (rank : ℕ) → length (contributions_of DEPTH_LIMIT lineage rank) ≤ 6
unfolding contributions_of
length-contributions-le lineage rank =
    at_most_six (contribution_at DEPTH_LIMIT lineage rank) rank (sire_rank lineage rank) (dam_rank lineage rank)

-- of the six that are kept the first ones are those that count
take-filled : (f : ℕ × ℕ → Contribution) (i : ℕ) (s d : Option ℕ)
    → take (length (map f (pairs_of i s d))) (filled (map f (pairs_of i s d))) ≡ map f (pairs_of i s d)
take-filled f i None None = refl
take-filled f i (Some s) None = refl
take-filled f i None (Some d) = refl
take-filled f i (Some s) (Some d) =
    elim (nat_eq s d) as (λ selfed. take (length (map f (pairs i s d selfed))) (filled (map f (pairs i s d selfed))) ≡ map f (pairs i s d selfed)) [
      | true ↦ refl
      | false ↦ refl
    ]

pub listed_part : (lineage : List Parents) (rank : ℕ) (listed : Contributions) → listed.count ≡ length (contributions_of DEPTH_LIMIT lineage rank)
    → listed.list ≡ filled (contributions_of DEPTH_LIMIT lineage rank) → take listed.count listed.list ≡ contributions_of DEPTH_LIMIT lineage rank
unfolding contributions_of
listed_part lineage rank listed count list =
    rw (count, list) (take-filled (contribution_at DEPTH_LIMIT lineage rank) rank (sire_rank lineage rank) (dam_rank lineage rank))

some_lines : (rank : ℕ) (f : ℕ × ℕ → Contribution) (pairs : List (ℕ × ℕ)) → 0 < length pairs → 0 < length (flat_map (contribution_line rank) (map f pairs))
some_lines rank f [] some = absurd (omega arith)
some_lines rank f (pair ∷ pairs) some =
    some_before (contribution_line rank (f pair)) (flat_map (contribution_line rank) (map f pairs)) (some_line rank (f pair))

-- an animal contributes some lines
pub some_contributions_text : (lineage : List Parents) (rank : ℕ) → 0 < length (contributions_text lineage rank)
unfolding contributions_of
some_contributions_text lineage rank =
    some_lines rank (contribution_at DEPTH_LIMIT lineage rank) (pairs_of rank (sire_rank lineage rank) (dam_rank lineage rank))
    (some_pairs rank (sire_rank lineage rank) (dam_rank lineage rank))
