-- The seal of a book, and a certificate of one of its animals, as text.
use Rattle.std.specs.Prelude.{ℕ, List, [], ◌++◌, codes, decimal, length, map, slice_get, slice_index_or}
use Rattle.std.specs.List.{flat_map}
use Rattle.std.specs.Option.{option_map, option_map_or, option_to_list}
use Rattle.hex.specs.Hex.{encode_lower}
use Rattle.merkle_tree.specs.Shown.{beside}
use Rattle.merkle_tree.specs.Tree.{digests_of}
use Rattle.herd_frozen.specs.declared.freezing.frozen.Row.{Row}
use Rattle.herd_frozen.specs.declared.TheConstants.{DEPTH_LIMIT}
use Rattle.herd_frozen.specs.freezing.Frozen.{numbers_of, parents_of}
use Rattle.herd_kinship.specs.Coefficients.{coefficient_at}
use Rattle.herd_record_line.specs.RecordLine.{field_text}
use Rattle.herd_text.specs.CoefficientText.{coefficient_text}
use Rattle.herd_seal.specs.CertificateText.{certificate_text, row_line}
use Rattle.herd_seal.specs.Reading.{Parts}
use Rattle.herd_seal.specs.Seal.{rows_of, seal_of}
use Rattle.herd_seal.specs.declared.certificate.CertifiedRow.{CertifiedRow}
use Rattle.herd_seal.specs.declared.certificate.Claim.{Claim}
use Rattle.herd_certificate.specs.Ancestors.{with_ancestors}

-- the line of a seal: the seal, the steps of the journal, and the number of animals
unfoldable pub seal_line : List ℕ → ℕ → ℕ → List ℕ
seal_line seal steps animals =
    field_text (encode_lower seal) ++ field_text (decimal steps) ++ decimal animals ++ codes "\n"

-- the line of a book's seal
abbrev pub seal_text : List Row → ℕ → List ℕ
seal_text rows steps = seal_line (seal_of steps (rows_of rows)) steps (length rows)

-- what a certificate of the animal at a place claims
abbrev pub claim_at : List Row → ℕ → ℕ → Claim
claim_at rows steps place = record {
  steps = steps;
  animals = length rows;
  place = place;
  number = slice_index_or (numbers_of rows) place [];
}

-- a row with its place, as a certificate shows it
abbrev pub certified : ℕ → Row → CertifiedRow
certified place row = record {
  place = place;
  sire = row.sire;
  dam = row.dam;
  «record» = record { number = row.number; animal = row.animal };
}

-- the rows at some places
abbrev pub rows_at : List Row → List ℕ → List CertifiedRow
rows_at rows places = flat_map (λ place. option_to_list (option_map (certified place) (slice_get rows place))) places

-- the coefficient of the animal at a place, as text
abbrev pub coefficient_told : List Row → ℕ → List ℕ
coefficient_told rows place = coefficient_text (codes ",") (coefficient_at DEPTH_LIMIT (map parents_of rows) place)

-- the places of the rows that a certificate of the animal at a place shows
abbrev pub places_shown : List Row → ℕ → List ℕ
places_shown rows place = with_ancestors (map parents_of rows) place

-- what the certificate of the animal at a place has
abbrev pub parts_at : List Row → ℕ → ℕ → Parts
parts_at rows steps place = record {
  seal = seal_of steps (rows_of rows);
  claim = claim_at rows steps place;
  coefficient = coefficient_told rows place;
  rows = rows_at rows (places_shown rows place);
  digests = beside (digests_of (rows_of rows)) (places_shown rows place);
}

-- the certificate of the animal at a place
unfoldable pub sealed_at : List Row → ℕ → ℕ → List ℕ
sealed_at rows steps place =
    certificate_text (seal_of steps (rows_of rows)) (claim_at rows steps place) (coefficient_told rows place)
    (rows_at rows (places_shown rows place)) (beside (digests_of (rows_of rows)) (places_shown rows place))

-- the line of the row at a place
abbrev pub line_at : List Row → ℕ → List ℕ
line_at rows place = option_map_or (λ row. row_line (certified place row)) (slice_get rows place) []
