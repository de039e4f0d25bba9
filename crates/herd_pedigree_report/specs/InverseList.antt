-- The contributions to the inverse of A, the numerator relationship matrix of a lineage, as text.
use Rattle.std.specs.Prelude.{ℕ, List, ◌++◌, length, codes}
use Rattle.std.specs.List.{flat_map, range_with_len}
use Rattle.herd_lineage.specs.declared.TheConstants.{DEPTH_LIMIT}
use Rattle.herd_lineage.specs.declared.lineage.Parents.{Parents}
use Rattle.herd_kinship.specs.Contributions.{contributions_of}
use Rattle.herd_kinship.specs.declared.contribution.Contribution.{Contribution}
use Rattle.herd_pedigree_file.specs.Number.{number_text}
use Rattle.herd_text.specs.CoefficientText.{value_line_end}

-- the line of an element that the animal at a rank adds to: the numbers of the animal, of the row and of the column,
-- and the value
abbrev pub contribution_line : ℕ → Contribution → List ℕ
contribution_line rank element =
    number_text rank ++ codes "," ++ number_text element.row ++ codes "," ++ number_text element.column ++ codes ","
    ++ value_line_end element.value

-- the lines of what the animal at a rank contributes
abbrev pub contributions_text : List Parents → ℕ → List ℕ
contributions_text lineage rank = flat_map (contribution_line rank) (contributions_of DEPTH_LIMIT lineage rank)

-- the lines of the animals of a lineage by rank
abbrev pub inverse_text : List Parents → List ℕ
inverse_text lineage = flat_map (contributions_text lineage) (range_with_len 0 (length lineage))
