-- The number of an animal, which is that of its record.
use Rattle.std.specs.Prelude.{ℕ, ◌+◌, List, Option, decimal}
use Rattle.std.specs.List.{find, range_with_len}
use Rattle.std.specs.Str.{bytes_eq}

-- the number of the animal at a rank, in decimal
abbrev pub number_text : ℕ → List ℕ
number_text rank = decimal (rank + 1)

-- the rank of the animal whose number a text is, among the first so many
unfoldable pub rank_in : ℕ → List ℕ → Option ℕ
rank_in animals text = find (λ rank. bytes_eq text (number_text rank)) (range_with_len 0 animals)
