-- The text of a certificate: a header, the rows that are shown, and the digests beside them.
use Rattle.std.specs.Prelude.{ℕ, List, ◌++◌, codes, decimal}
use Rattle.std.specs.List.{flat_map}
use Rattle.hex.specs.Hex.{encode_lower}
use Rattle.herd_record_line.specs.RecordLine.{field_text}
use Rattle.herd_seal.specs.Certificate.{row_bytes}
use Rattle.herd_seal.specs.declared.certificate.CertifiedRow.{CertifiedRow}
use Rattle.herd_seal.specs.declared.certificate.Claim.{Claim}

-- what the file is, the seal, the claim, and the coefficient as a fraction and as a percentage
unfoldable pub header_line : List ℕ → Claim → List ℕ → List ℕ
header_line seal claim coefficient =
    field_text (codes "herdbook-certificate-1") ++ field_text (encode_lower seal)
    ++ field_text (decimal claim.steps) ++ field_text (decimal claim.animals)
    ++ field_text (decimal claim.place) ++ field_text claim.number ++ coefficient ++ codes "\n"

-- a row, with its place before it
unfoldable pub place_line : ℕ → List ℕ → List ℕ
place_line place row = field_text (decimal place) ++ row ++ codes "\n"

abbrev pub row_line : CertifiedRow → List ℕ
row_line row = place_line row.place (row_bytes row)

-- a digest
unfoldable pub digest_line : List ℕ → List ℕ
digest_line digest = encode_lower digest ++ codes "\n"

-- the whole
unfoldable pub certificate_text : List ℕ → Claim → List ℕ → List CertifiedRow → List (List ℕ) → List ℕ
certificate_text seal claim coefficient rows digests =
    header_line seal claim coefficient ++ flat_map row_line rows ++ flat_map digest_line digests
