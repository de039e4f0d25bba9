-- The relationships of some animals of a lineage as text: their entries in A, the numerator relationship matrix.
use Rattle.std.specs.Prelude.{◌==◌, ℕ, ◌*◌, Bool, if◌then◌else◌, List, [], ◌∷◌, ◌++◌, length, codes, Some}
use Rattle.std.specs.List.{flat_map}
use Rattle.herd_lineage.specs.declared.TheConstants.{DEPTH_LIMIT}
use Rattle.herd_lineage.specs.declared.lineage.Parents.{Parents}
use Rattle.herd_kinship.specs.Ranks.{ranked}
use Rattle.herd_kinship.specs.Table.{entry}
use Rattle.herd_pedigree_file.specs.Number.{number_text}
use Rattle.herd_pedigree_report.specs.Notation.{relationship_line_end}

-- the line of the animals at two ranks: their numbers and their relationship, of which this is the numerator
abbrev pub pair_line : Bool → ℕ → ℕ → ℕ → List ℕ
pair_line in_units x y numerator =
    number_text x ++ codes "," ++ number_text y ++ codes "," ++ relationship_line_end in_units numerator

-- the lines of an animal with each of its partners: their entries
abbrev pub lines_with : Bool → List Parents → ℕ → List ℕ → List ℕ
lines_with in_units lineage x partners =
    flat_map (λ y. pair_line in_units x y (entry (ranked lineage) (2 * DEPTH_LIMIT) (Some x) (Some y))) partners

-- the partners of the first of some animals: itself and those after it where they are paired with one another, else
-- the others
abbrev pub partners_of : Bool → List ℕ → List ℕ → List ℕ
partners_of among others animals = if among then animals else others

-- the lines of each of some animals with its partners
abbrev pub pair_lines : Bool → List Parents → Bool → List ℕ → List ℕ → List ℕ
pair_lines in_units lineage among others [] = []
pair_lines in_units lineage among others (x ∷ rest) =
    lines_with in_units lineage x (partners_of among others (x ∷ rest))
    ++ pair_lines in_units lineage among others rest

-- the lines of animals with others, and where no others are given with one another
abbrev pub relationships_text : Bool → List Parents → List ℕ → List ℕ → List ℕ
relationships_text in_units lineage animals others =
    pair_lines in_units lineage (length others == 0) others animals
