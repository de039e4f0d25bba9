-- The characters of a text as numbers, eight at a time.
use Rattle.std.specs.Prelude.{ℕ, List, [], ◌∷◌, take, drop}
use Rattle.std.specs.Int.{w64, from_le_bytes}

-- eight characters from a place on
abbrev pub piece : ℕ → List ℕ → ℕ
piece place text = from_le_bytes w64 (take 8 (drop place text))

-- nineteen characters: the first eight, the next eight and the last eight
abbrev pub pieces : List ℕ → List ℕ
pieces text = piece 0 text ∷ piece 8 text ∷ piece 11 text ∷ []
