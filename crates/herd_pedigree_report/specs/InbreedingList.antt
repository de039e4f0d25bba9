-- The list of coefficients of inbreeding of a lineage as text.
use Rattle.std.specs.Prelude.{ℕ, Bool, List, ◌++◌, length}
use Rattle.std.specs.List.{flat_map, range_with_len}
use Rattle.herd_lineage.specs.declared.TheConstants.{DEPTH_LIMIT}
use Rattle.herd_lineage.specs.declared.lineage.Parents.{Parents}
use Rattle.herd_kinship.specs.Coefficients.{coefficient_at}
use Rattle.herd_pedigree_file.specs.Number.{number_text}
use Rattle.herd_pedigree_report.specs.Notation.{coefficient_line_end}

-- the line of the animal at a rank with this numerator of its coefficient
abbrev pub line_with : Bool → ℕ → ℕ → List ℕ
line_with in_units rank numerator = number_text rank ++ coefficient_line_end in_units numerator

-- the line of the animal at a rank
abbrev pub animal_line : Bool → List Parents → ℕ → List ℕ
animal_line in_units lineage rank = line_with in_units rank (coefficient_at DEPTH_LIMIT lineage rank)

-- the lines of the animals of a lineage by rank
abbrev pub inbreeding_text : Bool → List Parents → List ℕ
inbreeding_text in_units lineage = flat_map (animal_line in_units lineage) (range_with_len 0 (length lineage))
