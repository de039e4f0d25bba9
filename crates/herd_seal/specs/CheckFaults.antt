-- Why a certificate is refused, and at which line. Causes are looked for in this order, and the first that holds is
-- told: what a cause says of the certificate stands beside what was found right before.
use Rattle.std.specs.Prelude.{◌≡◌, ◌≢◌, ◌⊎◌, ⊤, ℕ, ◌+◌, ◌<◌, List, [], ◌∷◌, length, slice_get, codes}
use Rattle.std.specs.Prelude.{Option, None, Some}
use Rattle.std.specs.List.{All, Contains}
use Rattle.std.specs.Option.{option_map}
use Rattle.merkle_tree.specs.Shown.{Found, found}
use Rattle.herd_lineage.specs.Lineage.{IsLineage}
use Rattle.herd_lineage.specs.Builder.{first_fault}
use Rattle.herd_lineage.specs.declared.lineage.Parents.{Parents}
use Rattle.herd_lineage.specs.declared.lineage_fault.LineageFault.{LineageFault}
use Rattle.herd_lineage.specs.declared.lineage_fault.LineageFault.TheVariants.{Sire, Dam, TooDeep as TooFarAbove}
use Rattle.herd_lineage.specs.declared.TheConstants.{DEPTH_LIMIT, MOST_ANIMALS}
use Rattle.herd_kinship.specs.Coefficients.{coefficient_at}
use Rattle.herd_kinship.specs.Ranks.{ranked}
use Rattle.herd_pruned.specs.Marked.{ComesFrom}
use Rattle.herd_text.specs.CoefficientText.{coefficient_text}
use Rattle.herd_seal.specs.Certificate.{AreLinked, DoAscend, IsAnimalAt, IsBehind, IsClosed, IsLink, leaves_of}
use Rattle.herd_seal.specs.CheckCause.{no_memory}
use Rattle.herd_seal.specs.Reading.{HasLine, IsHeaderText, IsNoDigestBehind, IsNoRowText, IsTextOf, IsUnreadBehind}
use Rattle.herd_seal.specs.Reading.{Parts}
use Rattle.herd_seal.specs.Seal.{seal_over}
use Rattle.herd_seal.specs.declared.certificate.CertifiedRow.{CertifiedRow}
use Rattle.herd_seal.specs.declared.certificate.Claim.{Claim}
use Rattle.herd_seal.specs.declared.check_fault.CheckCause.{CheckCause}
use Rattle.herd_seal.specs.declared.check_fault.CheckCause.TheVariants.{Read, TooMany, Memory, Header, Row, Digests}
use Rattle.herd_seal.specs.declared.check_fault.CheckCause.TheVariants.{Order, ParentLacks, ParentNumber, TooDeep}
use Rattle.herd_seal.specs.declared.check_fault.CheckCause.TheVariants.{Number, Seal, Coefficient}
use Rattle.herd_seal.specs.declared.check_fault.CheckFault.{CheckFault}

-- a cause at a row, which count from 0 and stand behind the header
abbrev pub at_row : CheckCause → ℕ → CheckFault
at_row cause at = record { cause = cause; line = at + 2 }

-- a cause of the whole
abbrev pub at_whole : CheckCause → CheckFault
at_whole cause = record { cause = cause; line = 1 }

-- the places of the first rows ascend
abbrev pub AscendTo : List CertifiedRow → ℕ → Type 0
AscendTo rows n =
    (i j : ℕ) (one two : CertifiedRow) → i < j → j < n → slice_get rows i ≡ Some one → slice_get rows j ≡ Some two
    → one.place < two.place

-- the row is the first whose place isn't above that of the row before
pub record IsOutOfOrder (rows : List CertifiedRow) (at : ℕ) : Type 0 where
  pub later : 0 < at
  pub within : at < length rows
  pub before : AscendTo rows at
  pub wrong : ¬ (IsBehind rows at)

-- the first rows have a lineage of their own
pub record AreLinkedTo (rows : List CertifiedRow) (at : ℕ) (lineage : List Parents) : Type 0 where
  pub each : length lineage ≡ at
  pub is_lineage : IsLineage DEPTH_LIMIT MOST_ANIMALS lineage
  pub linked : AreLinked rows lineage

-- a parent has a place and no number, or a number and no place, or no row has the place
abbrev pub IsLacking : List CertifiedRow → Option ℕ → Option (List ℕ) → Type 0
IsLacking rows None None = ⊥
IsLacking rows None (Some number) = ⊤
IsLacking rows (Some place) None = ⊤
IsLacking rows (Some place) (Some number) = All (λ (row : CertifiedRow). row.place ≢ place) rows

-- the row of a parent has another number than is named
abbrev pub IsMisnamed : List CertifiedRow → Option ℕ → Option (List ℕ) → Type 0
IsMisnamed rows None number = ⊥
IsMisnamed rows (Some place) None = ⊥
IsMisnamed rows (Some place) (Some number) =
    (k : ℕ) × (parent : CertifiedRow) × (slice_get rows k ≡ Some parent) × (parent.place ≡ place)
    × (parent.record.number ≢ number)

-- this holds of the sire that a row names; or he is shown, or unknown, and it holds of the dam
abbrev pub OfAParent : (List CertifiedRow → Option ℕ → Option (List ℕ) → Type 0) → List CertifiedRow → CertifiedRow
    → Type 0
OfAParent IsFault rows row =
    IsFault rows row.sire row.record.animal.sire
    ⊎ ((sire : Option ℕ) × IsLink rows row.sire row.record.animal.sire sire
    × IsFault rows row.dam row.record.animal.dam)

-- the parents that a row names are shown, or unknown, and the lineage of the rows before can't have the row next for
-- this
pub record IsNotNext (rows : List CertifiedRow) (lineage : List Parents) (row : CertifiedRow) (fault : LineageFault)
    : Type 0 where
  pub sire : Option ℕ
  pub dam : Option ℕ
  pub sire_shown : IsLink rows row.sire row.record.animal.sire sire
  pub dam_shown : IsLink rows row.dam row.record.animal.dam dam
  pub fault_is : first_fault DEPTH_LIMIT MOST_ANIMALS lineage sire dam ≡ Some fault

-- what is wrong with the parents of a row, over the lineage of those before
abbrev pub IsParentFault : List CertifiedRow → List Parents → CertifiedRow → CheckCause → Type 0
IsParentFault rows lineage row ParentLacks =
    OfAParent IsLacking rows row ⊎ (IsNotNext rows lineage row Sire ⊎ IsNotNext rows lineage row Dam)
IsParentFault rows lineage row ParentNumber = OfAParent IsMisnamed rows row
IsParentFault rows lineage row TooDeep = IsNotNext rows lineage row TooFarAbove
IsParentFault rows lineage row cause = ⊥

-- the places of all rows ascend, and this row is the first whose parents are wrong
pub record HasParentFault (rows : List CertifiedRow) (cause : CheckCause) (at : ℕ) : Type 0 where
  pub ascend : DoAscend rows
  pub lineage : List Parents
  pub before : AreLinkedTo rows at lineage
  pub row : CertifiedRow
  pub there : slice_get rows at ≡ Some row
  pub wrong : IsParentFault rows lineage row cause

-- no row of the animal's place has its number
abbrev pub HasNoAnimal : List CertifiedRow → Claim → Type 0
HasNoAnimal rows claim = All (λ (row : CertifiedRow). row.place ≡ claim.place → row.record.number ≢ claim.number) rows

-- so it is, and the rows are a lineage of their own
pub record IsNotShown (rows : List CertifiedRow) (claim : Claim) : Type 0 where
  pub ascend : DoAscend rows
  pub lineage : List Parents
  pub linked : AreLinkedTo rows (length rows) lineage
  pub wrong : HasNoAnimal rows claim

-- the animal at a rank of a lineage is the first that is neither the one at another rank nor an ancestor of it
pub record IsFirstStranger (lineage : List Parents) (rank at : ℕ) : Type 0 where
  pub within : at < length lineage
  pub before : (row : ℕ) → row < at → ComesFrom (ranked lineage) (Contains (rank ∷ [])) row
  pub wrong : ¬ (ComesFrom (ranked lineage) (Contains (rank ∷ [])) at)

-- the rows are a lineage of their own and have the animal, and this row is the first that isn't its or an ancestor's
pub record IsOfOthers (rows : List CertifiedRow) (claim : Claim) (at : ℕ) : Type 0 where
  pub ascend : DoAscend rows
  pub lineage : List Parents
  pub linked : AreLinkedTo rows (length rows) lineage
  pub rank : ℕ
  pub animal : IsAnimalAt rows rank claim
  pub stranger : IsFirstStranger lineage rank at

-- the root that the rows and digests give, and the digests that are left
abbrev pub found_by : Parts → Option Found
found_by c = found c.claim.animals (leaves_of c.rows) c.digests

-- the rows are the animal's and its ancestors', and the digests are too few or too many, or a place isn't one of the
-- book's
pub record HasWrongDigests (c : Parts) : Type 0 where
  pub closed : IsClosed c.rows c.claim
  pub wrong : option_map (λ (f : Found). f.left) (found_by c) ≢ Some []

-- the rows and digests give a root, and with this, or by the header, the seal is another, or the book has no animals
pub record HasWrongSeal (seal : List ℕ) (c : Parts) : Type 0 where
  pub closed : IsClosed c.rows c.claim
  pub f : Found
  pub found_is : found_by c ≡ Some f
  pub all_digests : f.left ≡ []
  pub wrong : (c.claim.animals ≡ 0) ⊎ (seal_over c.claim.animals c.claim.steps f.root ≢ seal) ⊎ (c.seal ≢ seal)

-- the seal is right, and the coefficient or its percentage is another than that of the animal in the lineage of the
-- rows
pub record HasWrongCoefficient (seal : List ℕ) (c : Parts) : Type 0 where
  pub closed : IsClosed c.rows c.claim
  pub f : Found
  pub found_is : found_by c ≡ Some f
  pub all_digests : f.left ≡ []
  pub some : 0 < c.claim.animals
  pub seal_is : seal_over c.claim.animals c.claim.steps f.root ≡ seal
  pub told : c.seal ≡ seal
  pub wrong : c.coefficient ≢ coefficient_text (codes ",") (coefficient_at DEPTH_LIMIT closed.lineage closed.rank)

-- the line is that of a row, of which this holds
abbrev pub AtRow : (ℕ → Type 0) → ℕ → Type 0
AtRow IsWrong line = (at : ℕ) × (line ≡ at + 2) × IsWrong at

-- what is wrong with a certificate that was read, under a seal, and at which line
abbrev pub IsPartsFault : List ℕ → Parts → CheckCause → ℕ → Type 0
IsPartsFault seal c Memory line = line ≡ 0
IsPartsFault seal c TooMany line = (line ≡ 0) × (MOST_ANIMALS < length c.rows)
IsPartsFault seal c Order line = AtRow (IsOutOfOrder c.rows) line
IsPartsFault seal c ParentLacks line = AtRow (HasParentFault c.rows ParentLacks) line
IsPartsFault seal c ParentNumber line = AtRow (HasParentFault c.rows ParentNumber) line
IsPartsFault seal c TooDeep line = AtRow (HasParentFault c.rows TooDeep) line
IsPartsFault seal c Number line = (line ≡ 1) × IsNotShown c.rows c.claim
IsPartsFault seal c Row line = AtRow (IsOfOthers c.rows c.claim) line
IsPartsFault seal c Digests line = (line ≡ 1) × HasWrongDigests c
IsPartsFault seal c Seal line = (line ≡ 1) × HasWrongSeal seal c
IsPartsFault seal c Coefficient line = (line ≡ 1) × HasWrongCoefficient seal c
IsPartsFault seal c Header line = ⊥
IsPartsFault seal c Read line = ⊥

-- the text isn't read as a certificate: the first line isn't a header; or behind a header and some rows stands a line
-- with a comma that isn't a row; or behind these and some digests something is left that doesn't begin with a digest's
-- line, nor, where there are no digests, with a line that has a comma. There is no memory, or the first of these is
-- told.
abbrev pub IsUnread : List ℕ → CheckFault → Type 0
IsUnread text fault =
    (fault ≡ no_memory)
    ⊎ ((fault ≡ at_whole Header) × ¬ (HasLine IsHeaderText text))
    ⊎ ((rows : List CertifiedRow) × (fault ≡ at_row Row (length rows))
    × IsUnreadBehind text rows [] (HasLine IsNoRowText))
    ⊎ ((rows : List CertifiedRow) × (digests : List (List ℕ)) × (fault ≡ at_row Digests (length rows + length digests))
    × IsUnreadBehind text rows digests (IsNoDigestBehind digests))

-- why a text is refused under a seal: it isn't read, or is that of a certificate of which this is wrong
abbrev pub IsFault : List ℕ → List ℕ → CheckFault → Type 0
IsFault seal text fault =
    IsUnread text fault ⊎ ((c : Parts) × IsTextOf c text × IsPartsFault seal c fault.cause fault.line)
