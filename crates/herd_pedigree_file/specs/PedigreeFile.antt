-- What a pedigree file says: its lineage, or its first fault.
use Rattle.std.specs.Prelude.{◌≡◌, ◌⊎◌, ℕ, ◌+◌, true, false, if◌then◌else◌, MatchBool, ⊤, IfSome, List, [], ◌∷◌, ◌++◌, Option, Some, None, Result, Ok, Err, length}
use Rattle.csv.specs.Reading.{default_config, records, strip_bom}
use Rattle.csv_records.specs.Fields.{Fields as Texts}
use Rattle.herd_lineage.specs.declared.lineage.Parents.{Parents}
use Rattle.herd_pedigree_file.specs.Grammar.{animal_in, is_header}
use Rattle.herd_pedigree_file.specs.PedigreeCause.{is_interruption}
use Rattle.herd_pedigree_file.specs.declared.pedigree_fault.PedigreeCause.{PedigreeCause}
use Rattle.herd_pedigree_file.specs.declared.pedigree_fault.PedigreeCause.TheVariants.{Header}
use Rattle.herd_pedigree_file.specs.declared.pedigree_fault.PedigreeFault.{PedigreeFault}

-- the lineage of a file, or its fault
abbrev pub Pedigree : Type 0
Pedigree = Result (List Parents) PedigreeFault

abbrev pub fault_at : ℕ → PedigreeCause → Pedigree
fault_at record_number cause = Err (record { record_number = record_number; cause = cause })

-- what the animal of a record leads to, or its fault
abbrev pub animal_then : ℕ → Result Parents PedigreeCause → (Parents → Pedigree) → Pedigree
animal_then record_number (Ok animal) next = next animal
animal_then record_number (Err cause) next = fault_at record_number cause

-- the lineage, of at most so many animals, to which the animals of records are added
abbrev pub lineage_from : ℕ → List Parents → List Texts → Pedigree
lineage_from most lineage [] = Ok lineage
lineage_from most lineage (texts ∷ rest) =
    animal_then (length lineage + 1) (animal_in most lineage texts)
    (λ animal. lineage_from most (lineage ++ animal ∷ []) rest)

-- the lineage of the records under the header
abbrev pub lineage_under_header : ℕ → List Texts → Pedigree
lineage_under_header most [] = fault_at 0 Header
lineage_under_header most (first ∷ rest) = if is_header first then lineage_from most [] rest else fault_at 0 Header

-- the lineage in some bytes, with at most `most` animals
abbrev pub lineage_in : ℕ → List ℕ → Pedigree
lineage_in most bytes = lineage_under_header most (records default_config (strip_bom bytes))

-- the records before the one of this number have no fault: it is the header, or animals were read before it
abbrev pub IsReadBefore : ℕ → ℕ → Pedigree → Type 0
IsReadBefore most record_number pedigree =
    (record_number ≡ 0)
    ⊎ ((lineage : List Parents) × (rest : List Texts) × (record_number ≡ length lineage + 1)
    × (pedigree ≡ lineage_from most lineage rest))

-- a fault is the file's, or an interruption before it
abbrev pub IsToldOf : ℕ → Pedigree → PedigreeFault → Type 0
IsToldOf most pedigree fault =
    MatchBool (is_interruption fault.cause) (IsReadBefore most fault.record_number pedigree) (pedigree ≡ Err fault)

-- where the records to come are known, the first is the header, and the others are still to come
abbrev pub TakesHeader : Option (List Texts) → Option (List Texts) → Type 0
TakesHeader None new = ⊤
TakesHeader (Some []) new = ⊥
TakesHeader (Some (first ∷ rest)) new = (is_header first ≡ true) × (new ≡ Some rest)

-- where the records to come are known, the first is no header, or there is none
abbrev pub LacksHeader : Option (List Texts) → Type 0
LacksHeader None = ⊤
LacksHeader (Some []) = ⊤
LacksHeader (Some (first ∷ rest)) = is_header first ≡ false

-- where the records to come are known, one was read and its animal added, or there is none
abbrev pub TakesAnimal : ℕ → List Parents → List Parents → Option (List Texts) → Option (List Texts) → Type 0
TakesAnimal most before after old new =
    IfSome old (λ records. (rest : List Texts) × (new ≡ Some rest)
    × (lineage_from most before records ≡ lineage_from most after rest))
