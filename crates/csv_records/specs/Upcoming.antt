-- The records that a reader of `csv` has still to give.
use Rattle.std.specs.Prelude.{◌≡◌, ℕ, ◌+◌, List, [], ◌∷◌, Bool, true, false, if◌then◌else◌, ⊤, Option, Some, None, option_map, length}
use Rattle.csv.specs.Machine.{ends_at_end}
use Rattle.csv.specs.Reading.{Ready, default_config, has_failed, is_flexible, reader_config, reader_state, reader_trim, records_from, source_of}
use Rattle.csv.specs.declared.parser.State.{State}
use Rattle.csv.specs.declared.reader.Reader.{Reader}
use Rattle.csv.specs.declared.reader.Trim.TheVariants as trim
use Rattle.csv_records.specs.Fields.{Fields}

-- a reader of records with any number of fields, untrimmed, and with no header row of its own
pub record IsSetUp {R : Type 0} (reader : Reader R) : Type 0 where
  pub config : reader_config reader ≡ default_config
  pub untrimmed : reader_trim reader ≡ trim.None
  pub flexible : is_flexible reader ≡ true
  pub ready : Ready reader
  pub sound : has_failed reader ≡ false

-- the records from a state on, where the bytes are known and the state is between two records
abbrev pub records_after : State → Option (List ℕ) → Option (List Fields)
records_after state known =
    if ends_at_end state then None
    else option_map (λ bytes. records_from default_config (length bytes + 1) state bytes) known

-- the records that a reader has still to give, where they are known
abbrev pub upcoming : {R : Type 0} → (R → Option (List ℕ)) → Reader R → Option (List Fields)
upcoming remaining reader = records_after (reader_state reader) (source_of remaining reader)

-- where the upcoming records are known, the first has these fields and the others are still to come, or there is none
abbrev pub TakesRecord : Option (List Fields) → Option (List Fields) → Fields → Bool → Type 0
TakesRecord None new fields found = ⊤
TakesRecord (Some []) new fields found = found ≡ false
TakesRecord (Some (next ∷ rest)) new fields found = (found ≡ true) × (fields ≡ next) × (new ≡ Some rest)

-- where the upcoming records are known, exactly one of them was read
abbrev pub ReadsOne : Option (List Fields) → Option (List Fields) → Type 0
ReadsOne None new = ⊤
ReadsOne (Some []) new = ⊥
ReadsOne (Some (first ∷ rest)) new = new ≡ Some rest
