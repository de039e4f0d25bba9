-- Mating advice for a dam as text.
use Rattle.std.specs.Prelude.{ℕ, ◌*◌, ◌-◌, List, ◌++◌, Some}
use Rattle.std.specs.List.{flat_map}
use Rattle.std.specs.Option.{option_map_or}
use Rattle.herd_frozen.specs.declared.TheConstants.{DEPTH_LIMIT}
use Rattle.herd_frozen.specs.rules.Book.{Book}
use Rattle.herd_advice.specs.declared.mating_advice.MatingFault.{MatingFault}
use Rattle.herd_advice.specs.FrozenAncestry.{book_ancestry}
use Rattle.herd_advice.specs.Mating.{mating_fault, number_of_mating_fault}
use Rattle.herd_kinship.specs.Table.{entry}
use Rattle.herd_report.specs.writing.CoefficientLine.{coefficient_line}
use Rattle.herd_report.specs.writing.RefusedText.{refused_line_end}

-- the line of a sire with which the mating is refused
abbrev pub refused_line : List ℕ → MatingFault → List ℕ
refused_line sire fault = sire ++ refused_line_end (number_of_mating_fault fault)

-- the line of a sire: the coefficient of a calf, half the entry of the two, or why there is none
abbrev pub mating_line : Book → List ℕ → List ℕ → List ℕ
mating_line book dam sire =
    option_map_or
    (refused_line sire)
    (mating_fault DEPTH_LIMIT book sire dam)
    (coefficient_line sire (entry (book_ancestry book) (2 * DEPTH_LIMIT - 1) (Some sire) (Some dam)))

-- the lines of the sires, as they are given
abbrev pub mating_text : Book → List ℕ → List (List ℕ) → List ℕ
mating_text book dam sires = flat_map (mating_line book dam) sires
