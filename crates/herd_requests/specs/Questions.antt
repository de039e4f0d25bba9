-- What an inspector is asked.
use Rattle.std.specs.Prelude.{◌≡◌, ◌≢◌, ◌⊎◌, ◌<◌, ◌≤◌, ℕ, List, codes, drop, length, if◌then◌else◌, Option, Some, None}
use Rattle.std.specs.Str.{bytes_eq}
use Rattle.herd_animal.specs.AnimalNumber.{IsAnimalNumber}
use Rattle.csv_records.specs.Fields.{Fields, field}
use Rattle.herd_command_file.specs.declared.line_fault.LineCause.{LineCause}
use Rattle.herd_command_file.specs.declared.line_fault.LineCause.TheVariants as cause
use Rattle.herd_requests.specs.declared.fault.Fault.{Fault as WhyNot}
use Rattle.herd_requests.specs.declared.fault.Fault.TheVariants as fault
use Rattle.herd_requests.specs.declared.question.Question.{Question}
use Rattle.herd_requests.specs.declared.question.Question.TheVariants.{Inbreeding, Inverse, Certificates, Mating, Relationships, Coefficient, Records, Record, Seal, Sealed, Seen}
use Rattle.herd_requests.specs.declared.word.Word.{Word}
use Rattle.herd_requests.specs.declared.word.Word.TheVariants as word

-- the kind of question that a text names
abbrev pub word_of : List ℕ → Option Word
word_of text =
    if bytes_eq text (codes "inbreeding") then Some word.Inbreeding
    else if bytes_eq text (codes "inverse") then Some word.Inverse
    else if bytes_eq text (codes "certificate") then Some word.Certificate
    else if bytes_eq text (codes "mating") then Some word.Mating
    else if bytes_eq text (codes "relationships") then Some word.Relationships
    else if bytes_eq text (codes "coefficient") then Some word.Coefficient
    else if bytes_eq text (codes "records") then Some word.Records
    else if bytes_eq text (codes "record") then Some word.Record
    else if bytes_eq text (codes "seal") then Some word.Seal
    else if bytes_eq text (codes "sealed") then Some word.Sealed
    else if bytes_eq text (codes "seen") then Some word.Seen
    else None

-- the kind of question in a record, behind the tag, `inspector` and the inspector's number
abbrev pub word_in : Fields → Option Word
word_in fields = word_of (field 3 fields)

-- a record's word and the fields behind it ask this question
abbrev pub IsAskedIn : Fields → Question → Type 0
IsAskedIn fields Inbreeding = (word_in fields ≡ Some word.Inbreeding) × (length fields ≡ 4)
IsAskedIn fields Inverse = (word_in fields ≡ Some word.Inverse) × (length fields ≡ 4)
IsAskedIn fields (Certificates numbers) =
    (word_in fields ≡ Some word.Certificate) × (5 ≤ length fields) × (drop 4 fields ≡ numbers.items)
IsAskedIn fields (Mating dam sires) =
    (word_in fields ≡ Some word.Mating) × (6 ≤ length fields) × (field 4 fields ≡ dam) × (drop 5 fields ≡ sires.items)
IsAskedIn fields (Relationships numbers) =
    (word_in fields ≡ Some word.Relationships) × (5 ≤ length fields) × (drop 4 fields ≡ numbers.items)
IsAskedIn fields (Coefficient number) =
    (word_in fields ≡ Some word.Coefficient) × (length fields ≡ 5) × (field 4 fields ≡ number)
IsAskedIn fields Records = (word_in fields ≡ Some word.Records) × (length fields ≡ 4)
IsAskedIn fields (Record number) =
    (word_in fields ≡ Some word.Record) × (length fields ≡ 5) × (field 4 fields ≡ number)
IsAskedIn fields Seal = (word_in fields ≡ Some word.Seal) × (length fields ≡ 4)
IsAskedIn fields (Sealed number) =
    (word_in fields ≡ Some word.Sealed) × (length fields ≡ 5) × (field 4 fields ≡ number)
IsAskedIn fields Seen = (word_in fields ≡ Some word.Seen) × (length fields ≡ 4)

-- a question of this kind has another number of fields
abbrev pub IsMiscounted : Option Word → ℕ → Type 0
IsMiscounted (Some word.Inbreeding) count = count ≢ 4
IsMiscounted (Some word.Inverse) count = count ≢ 4
IsMiscounted (Some word.Certificate) count = count < 5
IsMiscounted (Some word.Mating) count = count < 6
IsMiscounted (Some word.Relationships) count = count < 5
IsMiscounted (Some word.Coefficient) count = count ≢ 5
IsMiscounted (Some word.Records) count = count ≢ 4
IsMiscounted (Some word.Record) count = count ≢ 5
IsMiscounted (Some word.Seal) count = count ≢ 4
IsMiscounted (Some word.Sealed) count = count ≢ 5
IsMiscounted (Some word.Seen) count = count ≢ 4
IsMiscounted None count = ⊥

-- some field from this place on is no animal's number
abbrev pub HasNoNumber : Fields → ℕ → Type 0
HasNoNumber fields place =
    (at : ℕ) × (place ≤ at) × (at < length fields) × (IsAnimalNumber (field at fields) → ⊥)

-- an animal's number is none, in a question of this kind
abbrev pub IsMisnumbered : Option Word → Fields → Type 0
IsMisnumbered (Some word.Certificate) fields = HasNoNumber fields 4
IsMisnumbered (Some word.Coefficient) fields = HasNoNumber fields 4
IsMisnumbered (Some word.Relationships) fields = HasNoNumber fields 4
IsMisnumbered (Some word.Record) fields = HasNoNumber fields 4
IsMisnumbered (Some word.Sealed) fields = HasNoNumber fields 4
IsMisnumbered other fields = ⊥

-- why the question in a record can't be read
abbrev pub CanBeUnread : Fields → WhyNot → Type 0
CanBeUnread fields fault.Question = word_in fields ≡ None
CanBeUnread fields (fault.Fields cause.Fields) = IsMiscounted (word_in fields) (length fields)
CanBeUnread fields (fault.Fields cause.Animal) = IsMisnumbered (word_in fields) fields
CanBeUnread fields (fault.Fields cause.Dam) =
    (word_in fields ≡ Some word.Mating) × (IsAnimalNumber (field 4 fields) → ⊥)
CanBeUnread fields (fault.Fields cause.Sire) = (word_in fields ≡ Some word.Mating) × HasNoNumber fields 5
CanBeUnread fields fault.Memory = Unit {0}
CanBeUnread fields other = ⊥

-- why numbers from this place on can't be read, where the fields may be miscounted: one is none, in a field of this
-- cause; or they are, or there is no memory
abbrev pub IsNumberFault : LineCause → Fields → ℕ → Type 0 → WhyNot → Type 0
IsNumberFault at fields place Miscounted fault.Memory = Unit {0}
IsNumberFault at fields place Miscounted (fault.Fields told) =
    ((told ≡ at) × HasNoNumber fields place) ⊎ ((told ≡ cause.Fields) × Miscounted)
IsNumberFault at fields place Miscounted other = ⊥
