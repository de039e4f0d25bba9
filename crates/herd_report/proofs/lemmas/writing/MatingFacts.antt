-- The lines of mating advice.
use Rattle.std.proofs.Common.{ℕ, ◌*◌, ◌-◌, ◌<◌, List, [], ◌∷◌, length, Option, Some, None, arith}
use Rattle.std.specs.Option.{option_map_or}
use Rattle.herd_frozen.specs.declared.TheConstants.{DEPTH_LIMIT}
use Rattle.herd_frozen.specs.rules.Book.{Book}
use Rattle.herd_advice.specs.declared.mating_advice.MatingFault.{MatingFault}
use Rattle.herd_advice.specs.FrozenAncestry.{book_ancestry}
use Rattle.herd_advice.specs.Mating.{mating_fault, number_of_mating_fault}
use Rattle.herd_kinship.specs.Table.{entry}
use Rattle.herd_report.proofs.lemmas.writing.CoefficientFacts.{some_coefficient_line}
use Rattle.herd_text.proofs.lemmas.TextFacts.{some_after, some_before}
use Rattle.herd_report.specs.writing.CoefficientLine.{coefficient_line}
use Rattle.herd_report.specs.writing.MatingList.{mating_line, mating_text, refused_line}
use Rattle.herd_report.specs.writing.RefusedText.{refused_line_end}

some_line : (sire advised : List ℕ) (fault : Option MatingFault) → 0 < length advised → 0 < length (option_map_or (refused_line sire) fault advised)
some_line sire advised None some = some
some_line sire advised (Some fault) some = some_after sire (refused_line_end (number_of_mating_fault fault)) (omega arith)

-- a line isn't empty
pub some_mating_line : (book : Book) (dam sire : List ℕ) → 0 < length (mating_line book dam sire)
some_mating_line book dam sire =
    let numerator = entry (book_ancestry book) (2 * DEPTH_LIMIT - 1) (Some sire) (Some dam) in
    some_line sire (coefficient_line sire numerator) (mating_fault DEPTH_LIMIT book sire dam) (some_coefficient_line sire numerator)

-- nor is the advice on some sires
pub some_mating_text : (book : Book) (dam : List ℕ) (sires : List (List ℕ)) → 0 < length sires → 0 < length (mating_text book dam sires)
some_mating_text book dam [] some = absurd (omega arith)
some_mating_text book dam (sire ∷ sires) some = some_before (mating_line book dam sire) (mating_text book dam sires) (some_mating_line book dam sire)
