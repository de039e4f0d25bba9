-- Refusals as text.
use Rattle.std.specs.Prelude.{ℕ, List, ◌++◌, codes, decimal}

-- what stands in the line of what is refused after its name: the number that tells why
abbrev pub refused_line_end : ℕ → List ℕ
refused_line_end number = codes ",refused," ++ decimal number ++ codes "\n"
