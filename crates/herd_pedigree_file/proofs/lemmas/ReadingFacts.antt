-- What the records that are still to come tell of the file.
use Rattle.std.proofs.Common.{◌≡◌, ◌∙◌, ℕ, ◌+◌, true, false, List, [], ◌∷◌, ◌++◌, length, Option, Some, None, Result, Ok, Err, option_map, inl, inr, refl, sym, ap, ap₂}
use Rattle.std.specs.Prelude.{IfSome, MatchBool}
use Rattle.std.proofs.lemmas.Bool.{false≢true}
use Rattle.csv.specs.Reading.{default_config, records, strip_bom}
use Rattle.csv.specs.declared.reader.Reader.{Reader}
use Rattle.csv_records.specs.Fields.{Fields as Texts}
use Rattle.csv_records.specs.Upcoming.{TakesRecord, upcoming}
use Rattle.herd_lineage.specs.declared.lineage.Parents.{Parents}
use Rattle.herd_pedigree_file.specs.Grammar.{animal_in}
use Rattle.herd_pedigree_file.specs.PedigreeFile.{IsReadBefore, IsToldOf, LacksHeader, Pedigree, TakesAnimal, TakesHeader, animal_then, fault_at, lineage_from, lineage_in, lineage_under_header}
use Rattle.herd_pedigree_file.specs.declared.pedigree_fault.PedigreeCause.{PedigreeCause}
use Rattle.herd_pedigree_file.specs.declared.pedigree_fault.PedigreeCause.TheVariants.{Header, Memory}
use Rattle.herd_pedigree_file.specs.declared.pedigree_fault.PedigreeFault.{PedigreeFault}
use Rattle.herd_pedigree_file.specs.PedigreeCause.{is_interruption}

-- ---- an animal

module _ (most : ℕ) (before : List Parents) (texts : Texts) where
  -- a record whose animal was added
  pub takes_animal : (after : List Parents) (animal : Parents) (old new : Option (List Texts)) → TakesRecord old new texts true → animal_in most before texts ≡ Ok animal
      → after ≡ before ++ animal ∷ [] → TakesAnimal most before after old new
  takes_animal after animal None new takes is added = tt
  takes_animal after animal (Some []) new takes is added = absurd (false≢true (sym takes))
  takes_animal after animal (Some (first ∷ rest)) new takes is added =
      let next : Parents → Pedigree = λ (one : Parents). lineage_from most (before ++ one ∷ []) rest in
      (rest, takes.2, ap (λ (told : Result Parents PedigreeCause). animal_then (length before + 1) told next) (ap (animal_in most before) (sym takes.1) ∙ is) ∙ ap (λ (l : List Parents). lineage_from most l rest) (sym added))

  -- a record that has a fault
  pub has_fault : (cause : PedigreeCause) (old new : Option (List Texts)) → TakesRecord old new texts true → animal_in most before texts ≡ Err cause
      → IfSome old (λ records. lineage_from most before records ≡ fault_at (length before + 1) cause)
  has_fault cause None new takes is = tt
  has_fault cause (Some []) new takes is = absurd (false≢true (sym takes))
  has_fault cause (Some (first ∷ rest)) new takes is =
      let next : Parents → Pedigree = λ (one : Parents). lineage_from most (before ++ one ∷ []) rest in
      ap (λ (told : Result Parents PedigreeCause). animal_then (length before + 1) told next) (ap (animal_in most before) (sym takes.1) ∙ is)

-- no record is left
pub no_more : (old new : Option (List Texts)) (texts : Texts) → TakesRecord old new texts false → IfSome old (λ records. records ≡ [])
no_more None new texts takes = tt
no_more (Some []) new texts takes = refl
no_more (Some (first ∷ rest)) new texts takes = absurd (false≢true takes.0)

-- ---- the file

-- animals were read, and those of the records to come are added to them
pub record HasRead {R : Type 0} (remaining : R → Option (List ℕ)) (most : ℕ) (pedigree : Pedigree) (lineage : List Parents) (reader : Reader R) : Type 0 where
  pub rest : List Texts
  pub to_come : upcoming remaining reader ≡ Some rest
  pub same : pedigree ≡ lineage_from most lineage rest

module _ {R : Type 0} (remaining : R → Option (List ℕ)) (most : ℕ) where
  -- one animal more
  pub read_more : (pedigree : Pedigree) (before after : List Parents) (old new : Reader R) → HasRead remaining most pedigree before old
      → TakesAnimal most before after (upcoming remaining old) (upcoming remaining new) → HasRead remaining most pedigree after new
  read_more pedigree before after old new has takes =
      let more = rw has.to_come at takes in
      record { rest = more.0; to_come = more.1; same = has.same ∙ more.2 }

  -- all of them
  pub read_all : (pedigree : Pedigree) (lineage : List Parents) (reader : Reader R) → HasRead remaining most pedigree lineage reader
      → IfSome (upcoming remaining reader) (λ records. records ≡ []) → pedigree ≡ Ok lineage
  read_all pedigree lineage reader has none =
      let left = rw has.to_come at none in
      has.same ∙ ap (λ (records : List Texts). lineage_from most lineage records) left

  -- a fault of the next, or an interruption
  pub read_fault : (pedigree : Pedigree) (before : List Parents) (reader : Reader R) (fault : PedigreeFault) → HasRead remaining most pedigree before reader
      → fault.record_number ≡ length before + 1
      → (is_interruption fault.cause ≡ false → IfSome (upcoming remaining reader) (λ records. lineage_from most before records ≡ fault_at fault.record_number fault.cause))
      → IsToldOf most pedigree fault
  read_fault pedigree before reader fault has number why =
      elim (is_interruption fault.cause) as (λ b.
      (b ≡ false → IfSome (upcoming remaining reader) (λ records. lineage_from most before records ≡ fault_at fault.record_number fault.cause))
      → MatchBool b (IsReadBefore most fault.record_number pedigree) (pedigree ≡ Err fault)) [
        | true ↦ λ why. inr (before, has.rest, number, has.same)
        | false ↦ λ why. has.same ∙ (rw has.to_come at (why refl))
      ] why

  first_read : (all : List Texts) (new : Reader R) → TakesHeader (Some all) (upcoming remaining new) → HasRead remaining most (lineage_under_header most all) [] new
  first_read [] new takes = absurd takes
  first_read (first ∷ rest) new takes = record { rest = rest; to_come = takes.1; same = rw takes.0 refl }

  -- the header was read, and no animal yet
  pub header_read : (known : Option (List ℕ)) (old : Option (List Texts)) (new : Reader R) → old ≡ option_map (λ bytes. records default_config (strip_bom bytes)) known
      → TakesHeader old (upcoming remaining new) → IfSome known (λ bytes. HasRead remaining most (lineage_in most bytes) [] new)
  header_read None old new is takes = tt
  header_read (Some bytes) old new is takes = first_read (records default_config (strip_bom bytes)) new (rw is at takes)

module _ (most : ℕ) where
  no_header_is : (all : List Texts) → LacksHeader (Some all) → lineage_under_header most all ≡ fault_at 0 Header
  no_header_is [] lacks = refl
  no_header_is (first ∷ rest) lacks = rw lacks refl

  header_told : (all : List Texts) (fault : PedigreeFault) → fault.record_number ≡ 0
      → (is_interruption fault.cause ≡ false → (fault.cause ≡ Header) × LacksHeader (Some all)) → IsToldOf most (lineage_under_header most all) fault
  header_told all fault number why =
      elim (is_interruption fault.cause) as (λ b.
      (b ≡ false → (fault.cause ≡ Header) × LacksHeader (Some all))
      → MatchBool b (IsReadBefore most fault.record_number (lineage_under_header most all)) (lineage_under_header most all ≡ Err fault)) [
        | true ↦ λ why. inl number
        | false ↦ λ why. let w = why refl in no_header_is all w.1 ∙ ap₂ fault_at (sym number) (sym w.0)
      ] why

  -- there is no header, or an interruption
  pub header_fault : (known : Option (List ℕ)) (old : Option (List Texts)) (fault : PedigreeFault) → old ≡ option_map (λ bytes. records default_config (strip_bom bytes)) known
      → fault.record_number ≡ 0 → (is_interruption fault.cause ≡ false → (fault.cause ≡ Header) × LacksHeader old)
      → IfSome known (λ bytes. IsToldOf most (lineage_in most bytes) fault)
  header_fault None old fault is number why = tt
  header_fault (Some bytes) old fault is number why = header_told (records default_config (strip_bom bytes)) fault number (rw is at why)

  -- memory was refused before any animal
  pub memory_told : (known : Option (List ℕ)) → IfSome known (λ bytes. IsToldOf most (lineage_in most bytes) (record { record_number = 0; cause = Memory }))
  memory_told None = tt
  memory_told (Some bytes) = inl refl
