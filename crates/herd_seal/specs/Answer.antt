-- What is printed of a check.
use Rattle.std.specs.Prelude.{◌≡◌, ◌⊎◌, ⊤, ℕ, ◌<◌, Bool, true, false, List, ◌++◌, codes, decimal, length, Option}
use Rattle.std.specs.List.{flat_map}
use Rattle.std.specs.Io.KnownBytes.{Appends}
use Rattle.herd_record_line.specs.RecordLine.{field_text, record_line}
use Rattle.herd_text.specs.Text.{AppendsFront}
use Rattle.herd_text.specs.declared.report_fault.ReportFault.{ReportFault}
use Rattle.herd_text.specs.declared.report_fault.ReportFault.TheVariants.{Memory, Write}
use Rattle.herd_seal.specs.Certificate.{IsSealed}
use Rattle.herd_seal.specs.CertificateText.{certificate_text}
use Rattle.herd_seal.specs.CheckCause.{cause_name, no_memory}
use Rattle.herd_seal.specs.CheckFaults.{IsFault}
use Rattle.herd_seal.specs.declared.answer.TheConstants.{MOST_BYTES}
use Rattle.herd_seal.specs.declared.certificate.CertifiedRow.{CertifiedRow}
use Rattle.herd_seal.specs.declared.certificate.Claim.{Claim}
use Rattle.herd_seal.specs.declared.check_fault.CheckCause.TheVariants.{Read, TooMany}
use Rattle.herd_seal.specs.declared.check_fault.CheckFault.{CheckFault}

-- that a certificate is accepted: the number, the coefficient and its percentage, the steps and the animals
unfoldable pub accepted_line : Claim → List ℕ → List ℕ
accepted_line claim coefficient =
    field_text (codes "accepted") ++ field_text claim.number ++ field_text coefficient
    ++ field_text (decimal claim.steps) ++ decimal claim.animals ++ codes "\n"

-- the record of a row
abbrev pub checked_line : CertifiedRow → List ℕ
checked_line row = record_line row.record.number row.record.animal

-- with the records of its rows
abbrev pub accepted_text : Claim → List ℕ → List CertifiedRow → List ℕ
accepted_text claim coefficient rows = accepted_line claim coefficient ++ flat_map checked_line rows

-- that it is refused
unfoldable pub refused_text : CheckFault → List ℕ
refused_text fault = field_text (codes "refused") ++ field_text (cause_name fault.cause) ++ decimal fault.line ++ codes "\n"

-- the bytes are a certificate under the seal, which the check is good for, and this is printed
pub record IsAccepted (seal bytes printed : List ℕ) : Type 0 where
  pub claim : Claim
  pub coefficient : List ℕ
  pub rows : List CertifiedRow
  pub digests : List (List ℕ)
  pub text : certificate_text seal claim coefficient rows digests ≡ bytes
  pub sealed : IsSealed seal claim rows coefficient digests
  pub told : printed ≡ accepted_text claim coefficient rows

-- what is printed of the bytes, where the certificate is accepted and where it isn't
abbrev pub IsAnswer : List ℕ → List ℕ → Bool → List ℕ → Type 0
IsAnswer seal bytes true printed = IsAccepted seal bytes printed
IsAnswer seal bytes false printed = (fault : CheckFault) × (printed ≡ refused_text fault)

-- it is printed
abbrev pub IsTold : List ℕ → List ℕ → Option (List ℕ) → Option (List ℕ) → Bool → Type 0
IsTold seal bytes old new accepted = (printed : List ℕ) × IsAnswer seal bytes accepted printed × Appends old new printed

-- memory runs out before anything is printed, or a write fails
abbrev pub EndsTelling : List ℕ → List ℕ → Option (List ℕ) → Option (List ℕ) → ReportFault → Type 0
EndsTelling seal bytes old new Memory = new ≡ old
EndsTelling seal bytes old new Write =
    (accepted : Bool) × (printed : List ℕ) × IsAnswer seal bytes accepted printed × AppendsFront old new printed

-- why bytes aren't read to their end: there is no memory, the reader fails, or they are too many
abbrev pub IsUnreadable : List ℕ → CheckFault → Type 0
IsUnreadable bytes fault =
    (fault ≡ no_memory)
    ⊎ ((fault ≡ record { cause = Read; line = 0 })
    ⊎ ((fault ≡ record { cause = TooMany; line = 0 }) × (MOST_BYTES < length bytes)))

-- why they aren't accepted under a seal: they aren't read, or the text that they are is refused
abbrev pub IsRefusedFor : List ℕ → List ℕ → CheckFault → Type 0
IsRefusedFor seal bytes fault = IsUnreadable bytes fault ⊎ IsFault seal bytes fault

-- where they aren't accepted, such a fault is printed
abbrev pub IsReasoned : List ℕ → List ℕ → Bool → List ℕ → Type 0
IsReasoned seal bytes true printed = ⊤
IsReasoned seal bytes false printed =
    (fault : CheckFault) × IsRefusedFor seal bytes fault × (printed ≡ refused_text fault)

abbrev pub IsToldWhy : List ℕ → List ℕ → Option (List ℕ) → Option (List ℕ) → Bool → Type 0
IsToldWhy seal bytes old new accepted =
    (printed : List ℕ) × IsReasoned seal bytes accepted printed × Appends old new printed
