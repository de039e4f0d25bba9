-- The list of coefficients of inbreeding as text.
use Rattle.std.specs.Prelude.{ℕ, List}
use Rattle.std.specs.List.{flat_map}
use Rattle.herd_frozen.specs.declared.freezing.frozen.Row.{Row}
use Rattle.herd_report.specs.writing.CoefficientLine.{coefficient_line}

-- the lines of the animals of a frozen book in age order, with the numerator of each
abbrev pub inbreeding_text : (List ℕ → ℕ) → List Row → List ℕ
inbreeding_text numerator_of rows = flat_map (λ row. coefficient_line row.number (numerator_of row.number)) rows
