-- A certificate of an animal, and what it is good for that it was checked.
use Rattle.std.specs.Prelude.{◌≡◌, ◌⊎◌, ℕ, ◌+◌, ◌-◌, ◌<◌, ◌^◌, ◌==◌, List, [], ◌∷◌, ◌++◌, length, map, take, drop, slice_get, codes, if◌then◌else◌, Option, None, Some}
use Rattle.std.specs.List.{All, Contains}
use Rattle.std.specs.Option.{option_and_then, option_map, option_to_list}
use Rattle.std.specs.Str.Parse.{digits_value}
use Rattle.merkle_tree.specs.Tree.{IsBytes, row_digest}
use Rattle.merkle_tree.specs.Shown.{Found, found}
use Rattle.merkle_tree.specs.Collision.{Collision, checked_of}
use Rattle.merkle_tree.specs.declared.shown.Shown.{Shown}
use Rattle.herd_record_line.specs.RecordLine.{comma_place}
use Rattle.herd_lineage.specs.Lineage.{IsLineage}
use Rattle.herd_lineage.specs.declared.lineage.Parents.{Parents}
use Rattle.herd_lineage.specs.declared.TheConstants.{DEPTH_LIMIT, MOST_ANIMALS}
use Rattle.herd_kinship.specs.Ancestry.{Ancestry}
use Rattle.herd_kinship.specs.Ranks.{ranked, ranks}
use Rattle.herd_pruned.specs.Marked.{ComesFrom}
use Rattle.herd_kinship.specs.Table.{coefficient}
use Rattle.herd_text.specs.CoefficientText.{coefficient_text}
use Rattle.herd_seal.specs.Seal.{row_text, seal_message, seal_of, sealed_messages}
use Rattle.herd_seal.specs.declared.certificate.CertifiedRow.{CertifiedRow}
use Rattle.herd_seal.specs.declared.certificate.Claim.{Claim}

-- a row that is shown, as bytes, and as a leaf of the tree
abbrev pub row_bytes : CertifiedRow → List ℕ
row_bytes row = row_text row.sire row.dam row.record.number row.record.animal

abbrev pub leaf_of : CertifiedRow → Shown
leaf_of row = record { place = row.place; digest = row_digest (row_bytes row) }

abbrev pub leaves_of : List CertifiedRow → List Shown
leaves_of rows = map leaf_of rows

-- the places of the sire and the dam that any row tells, in its first two fields
abbrev pub place_in : List ℕ → Option ℕ
place_in text = if length text == 0 then None else Some (digits_value 10 text)

abbrev pub first_field : List ℕ → List ℕ
first_field text = take (comma_place text) text

abbrev pub behind_field : List ℕ → List ℕ
behind_field text = drop (comma_place text + 1) text

unfoldable pub sire_told : List ℕ → Option ℕ
sire_told row = place_in (first_field row)

unfoldable pub dam_told : List ℕ → Option ℕ
dam_told row = place_in (first_field (behind_field row))

-- the ancestry that some rows tell, whatever they are, its animals named by their places
abbrev pub told_by : List (List ℕ) → Ancestry ℕ
told_by rows = ranks (length rows) (λ place. option_and_then sire_told (slice_get rows place)) (λ place. option_and_then dam_told (slice_get rows place))

-- A parent's place and its number, and the rank of its row among those that are shown: both are unknown, or the row at
-- this rank is that of the place and has the number.
abbrev pub IsLink : List CertifiedRow → Option ℕ → Option (List ℕ) → Option ℕ → Type 0
IsLink rows None number rank = (number ≡ None) × (rank ≡ None)
IsLink rows (Some place) number rank =
    (k : ℕ) × (parent : CertifiedRow) × (rank ≡ Some k) × (slice_get rows k ≡ Some parent) × (parent.place ≡ place) × (number ≡ Some parent.record.number)

-- the lineage has the first of these rows with the ranks of their parents, which are shown
abbrev pub AreLinked : List CertifiedRow → List Parents → Type 0
AreLinked rows lineage =
    (i : ℕ) (row : CertifiedRow) (parents : Parents) → slice_get rows i ≡ Some row → slice_get lineage i ≡ Some parents
    → IsLink rows row.sire row.record.animal.sire parents.sire × IsLink rows row.dam row.record.animal.dam parents.dam

-- the places of the rows ascend
abbrev pub DoAscend : List CertifiedRow → Type 0
DoAscend rows = (i j : ℕ) (one two : CertifiedRow) → i < j → slice_get rows i ≡ Some one → slice_get rows j ≡ Some two → one.place < two.place

-- the place of a row is above that of the row before
abbrev pub IsBehind : List CertifiedRow → ℕ → Type 0
IsBehind rows at = (one two : CertifiedRow) → slice_get rows (at - 1) ≡ Some one → slice_get rows at ≡ Some two → one.place < two.place

-- the row at a rank is the animal's
abbrev pub IsAnimalAt : List CertifiedRow → ℕ → Claim → Type 0
IsAnimalAt rows rank claim =
    (row : CertifiedRow) × (slice_get rows rank ≡ Some row) × (row.place ≡ claim.place) × (row.record.number ≡ claim.number)

-- each animal of a lineage is the one at a rank, or an ancestor of it
abbrev pub AreAncestors : List Parents → ℕ → Type 0
AreAncestors lineage rank = (row : ℕ) → row < length lineage → ComesFrom (ranked lineage) (Contains (rank ∷ [])) row

-- The rows are a lineage of their own, none deeper than 60: each known parent of one has a lower place, is shown, and has
-- the number that its offspring's row names. One of them is the animal's, and has its number; the others are its ancestors.
pub record IsClosed (rows : List CertifiedRow) (claim : Claim) : Type 0 where
  pub lineage : List Parents
  pub each : length lineage ≡ length rows
  pub is_lineage : IsLineage DEPTH_LIMIT MOST_ANIMALS lineage
  pub linked : AreLinked rows lineage
  pub ascend : DoAscend rows
  pub rank : ℕ
  pub animal : IsAnimalAt rows rank claim
  pub ancestors : AreAncestors lineage rank

-- what a certificate says of some rows after so many steps
pub record IsTrueOf (claim : Claim) (shown : List CertifiedRow) (coefficient_told : List ℕ) (steps : ℕ) (rows : List (List ℕ)) : Type 0 where
  pub steps_are : steps ≡ claim.steps
  pub animals_are : length rows ≡ claim.animals
  pub rows_are : All (λ (row : CertifiedRow). slice_get rows row.place ≡ Some (row_bytes row)) shown
  pub coefficient_is : coefficient_told ≡ coefficient_text (codes ",") (coefficient (told_by rows) DEPTH_LIMIT claim.place)

-- the messages of which a check takes digests
unfoldable pub checked_messages : Claim → List CertifiedRow → List (List ℕ) → List (List ℕ)
checked_messages claim shown digests =
    option_to_list (option_map (λ (f : Found). seal_message claim.animals claim.steps f.root) (found claim.animals (leaves_of shown) digests))
    ++ (map (λ (row : CertifiedRow). 0 ∷ row_bytes row) shown ++ checked_of claim.animals (leaves_of shown) digests)

-- What a check is good for: the digests are as many as the rows want, and of all rows and steps with this seal, lawful or not, the certificate is true, or a message of
-- the check and one of the seal collide.
pub record IsSealed (seal : List ℕ) (claim : Claim) (shown : List CertifiedRow) (coefficient_told : List ℕ) (digests : List (List ℕ)) : Type 0 where
  pub closed : IsClosed shown claim
  pub all_digests : option_map (λ (f : Found). f.left) (found claim.animals (leaves_of shown) digests) ≡ Some []
  pub sealed : (steps : ℕ) (rows : List (List ℕ)) → steps < 2 ^ 64 → length rows < 2 ^ 64 → All IsBytes rows → seal_of steps rows ≡ seal
      → IsTrueOf claim shown coefficient_told steps rows ⊎ Collision (checked_messages claim shown digests) (sealed_messages steps rows)
