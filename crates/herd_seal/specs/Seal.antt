-- The rows of a book as bytes, and its seal.
use Rattle.std.specs.Prelude.{ℕ, List, [], ◌∷◌, ◌++◌, length, map, decimal, Option, None, Some}
use Rattle.std.specs.Int.{to_be_bytes, w64}
use Rattle.sha2.specs.Sha256.{sha256}
use Rattle.merkle_tree.specs.Tree.{digests_of, tree_root}
use Rattle.merkle_tree.specs.Collision.{nodes_of}
use Rattle.herd_record_line.specs.RecordLine.{field_text, record_text}
use Rattle.herd_frozen.specs.declared.rules.animal.Animal.{Animal}
use Rattle.herd_frozen.specs.declared.freezing.frozen.Row.{Row}

-- a place, or nothing where it isn't known
abbrev pub place_text : Option ℕ → List ℕ
place_text None = []
place_text (Some place) = decimal place

-- a row: the places of the sire and the dam, and the record
unfoldable pub row_text : Option ℕ → Option ℕ → List ℕ → Animal → List ℕ
row_text sire dam number animal = field_text (place_text sire) ++ field_text (place_text dam) ++ record_text number animal

-- the rows of a frozen book, by places in age order
abbrev pub rows_of : List Row → List (List ℕ)
rows_of rows = map (λ row. row_text row.sire row.dam row.number row.animal) rows

-- what a seal is the digest of: the number of animals, the steps of the journal, and the root of the tree over the rows
abbrev pub seal_message : ℕ → ℕ → List ℕ → List ℕ
seal_message animals steps root = 2 ∷ (to_be_bytes w64 animals ++ to_be_bytes w64 steps ++ root)

abbrev pub seal_over : ℕ → ℕ → List ℕ → List ℕ
seal_over animals steps root = sha256 (seal_message animals steps root)

-- the seal of some rows after so many steps
unfoldable pub seal_of : ℕ → List (List ℕ) → List ℕ
seal_of steps rows = seal_over (length rows) steps (tree_root (digests_of rows))

-- what it is made of: the messages of which digests are taken
unfoldable pub sealed_messages : ℕ → List (List ℕ) → List (List ℕ)
sealed_messages steps rows =
    seal_message (length rows) steps (tree_root (digests_of rows)) ∷ (map (λ row. 0 ∷ row) rows ++ nodes_of (digests_of rows))
