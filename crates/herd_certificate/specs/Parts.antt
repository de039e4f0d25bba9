-- What a certificate is made of.
use Rattle.std.specs.Prelude.{◌≡◌, ℕ, ◌<◌, All, List, length, map}
use Rattle.merkle_tree.specs.Shown.{beside}
use Rattle.merkle_tree.specs.Tree.{digests_of}
use Rattle.herd_frozen.specs.declared.freezing.frozen.Row.{Row}
use Rattle.herd_frozen.specs.declared.TheConstants.{DEPTH_LIMIT}
use Rattle.herd_frozen.specs.freezing.Frozen.{parents_of}
use Rattle.herd_kinship.specs.Coefficients.{coefficient_at}
use Rattle.herd_seal.specs.Seal.{rows_of, seal_of}
use Rattle.herd_certificate.specs.Sealed.{claim_at, places_shown}
use Rattle.herd_certificate.specs.declared.parts.Parts.{Parts}

-- they are those of the certificate of the animal at a place
pub record ArePartsAt {A : Type 0} (rows : List Row) (steps place : ℕ) (parts : Parts A) : Type 0 where
  pub seal : parts.seal ≡ seal_of steps (rows_of rows)
  pub claim : parts.claim ≡ claim_at rows steps place
  pub coefficient : parts.coefficient.numerator ≡ coefficient_at DEPTH_LIMIT (map parents_of rows) place
  pub places : parts.places.items ≡ places_shown rows place
  pub beside : parts.beside.items ≡ beside (digests_of (rows_of rows)) (places_shown rows place)
  pub within : All (λ place. place < length rows) parts.places.items
