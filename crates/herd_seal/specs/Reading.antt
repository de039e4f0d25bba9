-- A certificate as it is read, and the grammar of its lines.
use Rattle.std.specs.Prelude.{◌≡◌, ◌≢◌, ◌⊎◌, ⊤, ℕ, ◌<◌, ◌^◌, List, [], ◌++◌, codes, decimal}
use Rattle.std.specs.List.{All, flat_map}
use Rattle.std.specs.Option.{ForSome}
use Rattle.hex.specs.Hex.{encode_lower}
use Rattle.merkle_tree.specs.Tree.{IsDigest}
use Rattle.herd_animal.specs.AnimalNumber.{IsAnimalNumber}
use Rattle.herd_record_line.specs.RecordLine.{HasField, HasNo, IsRecord, IsRecordText}
use Rattle.herd_seal.specs.CertificateText.{certificate_text, digest_line, row_line}
use Rattle.herd_seal.specs.declared.certificate.Certificate.{Certificate}
use Rattle.herd_seal.specs.declared.certificate.CertifiedRow.{CertifiedRow}
use Rattle.herd_seal.specs.declared.certificate.Claim.{Claim}

-- a certificate as it was read
pub record Parts : Type 0 where
  pub seal : List ℕ
  pub claim : Claim
  pub coefficient : List ℕ
  pub rows : List CertifiedRow
  pub digests : List (List ℕ)

abbrev pub parts_of : {A : Type 0} → Certificate A → Parts
parts_of certificate = record {
  seal = certificate.seal;
  claim = certificate.claim;
  coefficient = certificate.coefficient.now;
  rows = certificate.rows.items;
  digests = certificate.digests.items;
}

-- the text is a number below a limit, in decimal
abbrev pub IsNumberText : ℕ → List ℕ → Type 0
IsNumberText limit text = (n : ℕ) × (n < limit) × (decimal n ≡ text)

-- the place of a parent, or nothing
abbrev pub IsParentText : List ℕ → Type 0
IsParentText text = (text ≡ []) ⊎ IsNumberText (2 ^ 32) text

-- the text is a digest, in lower-case hex
abbrev pub IsDigestText : List ℕ → Type 0
IsDigestText text = (digest : List ℕ) × IsDigest digest × (encode_lower digest ≡ text)

-- what a certificate begins with
abbrev pub IsKindText : List ℕ → Type 0
IsKindText text = codes "herdbook-certificate-1" ≡ text

abbrev pub IsAnyText : List ℕ → Type 0
IsAnyText text = ⊤

-- the first line: kind, seal, steps, animals, place, number, and the coefficient, whatever it is
abbrev pub IsHeaderText : List ℕ → Type 0
IsHeaderText text =
    HasField IsKindText (HasField IsDigestText (HasField (IsNumberText (2 ^ 64)) (HasField (IsNumberText (2 ^ 32))
    (HasField (IsNumberText (2 ^ 32)) (HasField IsAnimalNumber IsAnyText))))) text

-- the line of a row: its place, those of its sire and its dam, and the record
abbrev pub IsRowText : List ℕ → Type 0
IsRowText text =
    HasField (IsNumberText (2 ^ 32)) (HasField IsParentText (HasField IsParentText IsRecordText)) text

-- a line with a comma
abbrev pub HasComma : List ℕ → Type 0
HasComma line = ¬ (HasNo 44 line)

-- a line with a comma that isn't a row's
abbrev pub IsNoRowText : List ℕ → Type 0
IsNoRowText line = HasComma line × ¬ (IsRowText line)

-- the text begins with such a line, up to its first line's end
pub record HasLine (IsLine : List ℕ → Type 0) (text : List ℕ) : Type 0 where
  pub line : List ℕ
  pub behind : List ℕ
  pub joined : (line ++ codes "\n") ++ behind ≡ text
  pub plain : HasNo 10 line
  pub is_line : IsLine line

-- each field of a row has a text, from which it can be told
pub record IsWrittenRow (row : CertifiedRow) : Type 0 where
  pub place : row.place < 2 ^ 32
  pub sire : ForSome row.sire (λ place. place < 2 ^ 32)
  pub dam : ForSome row.dam (λ place. place < 2 ^ 32)
  pub told : IsRecord row.record.number row.record.animal

-- and of a header; the coefficient is one line, whatever it is
pub record IsWrittenHeader (seal : List ℕ) (claim : Claim) (coefficient : List ℕ) : Type 0 where
  pub digest : IsDigest seal
  pub steps : claim.steps < 2 ^ 64
  pub animals : claim.animals < 2 ^ 32
  pub place : claim.place < 2 ^ 32
  pub number : IsAnimalNumber claim.number
  pub one_line : HasNo 10 coefficient

-- and of a certificate
pub record IsWritten (c : Parts) : Type 0 where
  pub header : IsWrittenHeader c.seal c.claim c.coefficient
  pub rows : All IsWrittenRow c.rows
  pub digests : All IsDigest c.digests

-- the text is that of a certificate with these parts
pub record IsTextOf (c : Parts) (text : List ℕ) : Type 0 where
  pub written : IsWritten c
  pub joined : certificate_text c.seal c.claim c.coefficient c.rows c.digests ≡ text

-- behind a header, the lines of these rows and of these digests stands such a rest
pub record IsUnreadBehind (text : List ℕ) (rows : List CertifiedRow) (digests : List (List ℕ))
    (IsRest : List ℕ → Type 0) : Type 0 where
  pub header : List ℕ
  pub rest : List ℕ
  pub plain : HasNo 10 header
  pub is_header : IsHeaderText header
  pub rows_written : All IsWrittenRow rows
  pub digests_written : All IsDigest digests
  pub joined : (header ++ codes "\n") ++ (flat_map row_line rows ++ (flat_map digest_line digests ++ rest)) ≡ text
  pub is_rest : IsRest rest

-- something is left that doesn't begin with a digest's line, nor, behind no digests, with a line that has a comma
pub record IsNoDigestBehind (digests : List (List ℕ)) (rest : List ℕ) : Type 0 where
  pub some : rest ≢ []
  pub none : ¬ (HasLine IsDigestText rest)
  pub rows_end : digests ≡ [] → ¬ (HasLine HasComma rest)
