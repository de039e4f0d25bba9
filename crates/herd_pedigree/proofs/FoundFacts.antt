-- What is told of an animal that was found, and how a change at its place is one under its number.
use Rattle.std.proofs.Common.{ℕ, ◌≡◌, sym, subst, List, Option, Some, IfSome, slice_get}
use Rattle.std.specs.Str.{bytes_eq}
use Rattle.std.specs.List.{IsDistinct}
use Rattle.std.specs.Map.{keys_of, values_of}
use Rattle.herd_frozen.specs.declared.rules.animal.Animal.{Animal}
use Rattle.herd_frozen.specs.declared.rules.parent_fault.ParentFault.{ParentFault}
use Rattle.herd_frozen.specs.rules.Book.{Book, changed, record_of}
use Rattle.herd_frozen.specs.rules.Lawful.{IsLawful}
use Rattle.herd_frozen.specs.rules.ParentFault.{fault_by_records, parent_fault}
use Rattle.herd_frozen.proofs.lemmas.rules.BookFacts.{lookup_at}
use Rattle.herd_frozen.proofs.lemmas.ListFacts.{entry_from_both}
use Rattle.herd_pedigree.specs.declared.found.Found.{Found}
use Rattle.herd_pedigree.specs.declared.store.records.StoredRecord.{StoredRecord}
use Rattle.herd_pedigree.specs.Pedigree.{IfShownWith, IsFaultWith, IsFound}
use Rattle.herd_pedigree.specs.store.Records.{IsStoredAt, animal_of, set_value_at}
use Rattle.herd_pedigree.proofs.lemmas.store.RecordsFacts.{set-stored}

module _ (book now : Book) (same : book ≡ now) (once : IsDistinct bytes_eq (keys_of book)) (found : Found) (is : IsFound now found) where
  pub its-number : slice_get (keys_of book) found.place ≡ Some found.number
  its-number = (subst (λ b. IsFound b found) (sym same) is).at

  module _ (was : StoredRecord) (stored : IsStoredAt book found.place was) (becomes : StoredRecord) (change : Animal → Animal) (e : animal_of (keys_of book) becomes ≡ change (animal_of (keys_of book) was)) where
    -- what is written at its place
    pub set-found : set_value_at now found.place (animal_of (keys_of now) becomes) ≡ changed now found.number change
    set-found =
        subst (λ b. set_value_at b found.place (animal_of (keys_of b) becomes) ≡ changed b found.number change) same
        (set-stored book once found.number found.place its-number was stored becomes change e)

    -- and that it is lawful where the change is
    pub lawful-found : {l most : ℕ} → IsLawful l most book → (IsLawful l most now → IsLawful l most (changed now found.number change)) → IsLawful l most (set_value_at now found.place (animal_of (keys_of now) becomes))
    lawful-found {l} {most} lawful keeps =
        subst (λ b. IsLawful l most b) (sym set-found) (keeps (subst (λ b. IsLawful l most b) same lawful))

  module _ (a : Animal) (at : slice_get (values_of book) found.place ≡ Some a) where
    -- what is read at its place
    pub record-found : record_of now found.number ≡ Some a
    record-found =
        subst (λ b. record_of b found.number ≡ Some a) same
        (lookup_at book once found.place found.number a (entry_from_both book found.place found.number a its-number at))

    -- the first fault that it would have with these parents
    pub told-found : (l : ℕ) (s d : Option (List ℕ)) (told : Option ParentFault) → told ≡ parent_fault l book found.number a.birth s d a.embryo → IsFaultWith l now found.number s d told
    told-found l s d told e = rw record-found (subst (λ b. told ≡ parent_fault l b found.number a.birth s d a.embryo) same e)

    -- and what holds of the one that their records show
    pub shown-found : (s d : Option (List ℕ)) (shown : Option ParentFault) → fault_by_records book a.birth s d a.embryo ≡ shown → (Holds : ParentFault → Type 0) → IfSome shown Holds → IfShownWith now found.number s d Holds
    shown-found s d shown e Holds h =
        let here : fault_by_records now a.birth s d a.embryo ≡ shown = subst (λ b. fault_by_records b a.birth s d a.embryo ≡ shown) same e in
        rw (record-found, here) h
