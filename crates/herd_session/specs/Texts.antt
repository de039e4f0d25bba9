-- The text that answers a question.
use Rattle.std.specs.Prelude.{◌≡◌, ◌<◌, ℕ, List, [], ◌∷◌, length, Option, IsSome, false}
use Rattle.herd_frozen.specs.rules.Book.{is_there}
use Rattle.herd_frozen.specs.freezing.Frozen.{book_of}
use Rattle.herd_frozen.specs.declared.TheConstants.{DEPTH_LIMIT}
use Rattle.herd_frozen.specs.declared.freezing.frozen.Row.{Row}
use Rattle.herd_advice.specs.FrozenAncestry.{ancestry_of}
use Rattle.herd_certificate.specs.Sealed.{seal_text}
use Rattle.herd_kinship.specs.Table.{coefficient}
use Rattle.herd_report.specs.writing.Certificate.{certificates_of}
use Rattle.herd_report.specs.writing.CoefficientLine.{coefficient_of}
use Rattle.herd_report.specs.writing.InbreedingList.{inbreeding_text}
use Rattle.herd_report.specs.writing.InverseList.{inverse_text}
use Rattle.herd_report.specs.writing.MatingList.{mating_text}
use Rattle.herd_report.specs.writing.RecordList.{records_text}
use Rattle.herd_report.specs.writing.Registered.{are_there}
use Rattle.herd_report.specs.writing.RelationshipList.{relationships_text}
use Rattle.herd_sealed_report.specs.SealedCertificate.{sealed_text}
use Rattle.herd_text.specs.Text.{AppendsFront}
use Rattle.herd_report.specs.declared.writing.named_animals_fault.NamedAnimalsFault.{NamedAnimalsFault}
use Rattle.herd_report.specs.declared.writing.named_animals_fault.NamedAnimalsFault.TheVariants as ending
use Rattle.herd_text.specs.declared.report_fault.ReportFault.TheVariants as report
use Rattle.herd_requests.specs.declared.fault.Fault.{Fault as WhyNot}
use Rattle.herd_requests.specs.declared.fault.Fault.TheVariants as fault
use Rattle.herd_requests.specs.declared.question.Question.{Question}
use Rattle.herd_session.specs.declared.report_text.TheConstants.{LONGEST_REPORT}
use Rattle.herd_requests.specs.declared.question.Question.TheVariants.{Inbreeding, Inverse, Certificates, Mating, Relationships, Coefficient, Records, Record, Seal, Sealed, Seen}

-- the text that answers a question from frozen rows, of a journal of so many steps
abbrev pub text_of : Question → ℕ → List Row → List ℕ
text_of Inbreeding steps rows = inbreeding_text (coefficient (ancestry_of rows) DEPTH_LIMIT) rows
text_of Inverse steps rows = inverse_text rows
text_of (Certificates numbers) steps rows = certificates_of rows numbers.items
text_of (Mating dam sires) steps rows = mating_text (book_of rows) dam sires.items
text_of (Relationships numbers) steps rows = relationships_text (book_of rows) numbers.items []
text_of (Coefficient number) steps rows = coefficient_of rows number
text_of Records steps rows = records_text rows []
text_of (Record number) steps rows = records_text rows (number ∷ [])
text_of Seal steps rows = seal_text rows steps
text_of (Sealed number) steps rows = sealed_text rows steps number
text_of Seen steps rows = []

-- the coefficients of all animals are there where the text that answers a question is made of them
abbrev pub IsReadyFor : Question → Option (List ℕ) → Type 0
IsReadyFor Inbreeding all = IsSome all
IsReadyFor Inverse all = IsSome all
IsReadyFor other all = Unit {0}

-- a question is for animals that must be in the book, and one isn't
abbrev pub IsOfAbsent : Question → List Row → Type 0
IsOfAbsent (Certificates numbers) rows = are_there (book_of rows) numbers.items ≡ false
IsOfAbsent (Coefficient number) rows = is_there (book_of rows) number ≡ false
IsOfAbsent (Record number) rows = is_there (book_of rows) number ≡ false
IsOfAbsent (Sealed number) rows = is_there (book_of rows) number ≡ false
IsOfAbsent other rows = ⊥

-- how the writing of a question's answer may end early: an animal isn't there, a write failed before the text's end, or
-- memory was refused
abbrev pub EndsText : Question → ℕ → List Row → Option (List ℕ) → Option (List ℕ) → NamedAnimalsFault → Type 0
EndsText question steps rows old new ending.NotRegistered = IsOfAbsent question rows
EndsText question steps rows old new (ending.Report report.Write) = AppendsFront old new (text_of question steps rows)
EndsText question steps rows old new (ending.Report report.Memory) = Unit {0}

-- why a question isn't answered from frozen rows: an animal isn't there, the text is too long, or memory was refused
abbrev pub CanBeUnanswered : Question → ℕ → List Row → WhyNot → Type 0
CanBeUnanswered question steps rows fault.NotRegistered = IsOfAbsent question rows
CanBeUnanswered question steps rows fault.TooLong = LONGEST_REPORT < length (text_of question steps rows)
CanBeUnanswered question steps rows fault.Memory = Unit {0}
CanBeUnanswered question steps rows other = ⊥
