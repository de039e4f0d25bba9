-- What a log of writes takes back.
use Rattle.std.proofs.Common.{ℕ, ◌<◌, ◌≤◌, ◌≡◌, ◌≢◌, ⊎_elim, All, slice_index, arith, refl, sym, ap, ◌∙◌, subst, List, [], ◌∷◌, ◌++◌, Option, length, slice_set}
use Rattle.std.proofs.lemmas.Bool.{cases_eq}
use Rattle.std.proofs.lemmas.List.{get_or-set_other, length-set, set-get_or, set-set}
use Rattle.std.proofs.lemmas.List.Elements.{All-append, All-cons, All-nil, All-rest}
use Rattle.std.specs.Map.{keys_of}
use Rattle.herd_pedigree.specs.declared.store.records.StoredRecord.{StoredRecord}
use Rattle.herd_frozen.specs.rules.Book.{Book}
use Rattle.herd_pedigree.specs.store.Records.{animal_of, set_value_at}
use Rattle.herd_pedigree.specs.declared.store.undo.Undo.{Undo}
use Rattle.herd_pedigree.specs.declared.store.undo.Undo.TheVariants.{Nothing, Record}
use Rattle.herd_pedigree.specs.store.Undo.{IsHeld, TakesBack, undone_writes}

-- the last write is taken back first
pub undone-last : (log : List (ℕ × ℕ)) (write : ℕ × ℕ) (depths : List ℕ) → undone_writes (log ++ write ∷ []) depths ≡ undone_writes log (slice_set depths write.0 write.1)
undone-last [] write depths = refl
undone-last (first ∷ log) write depths = ap (λ ds. slice_set ds first.0 first.1) (undone-last log write depths)

-- an empty log takes nothing back
pub taken-none : (depths : List ℕ) → TakesBack [] depths depths
taken-none depths = record { within = All-nil (λ (write : ℕ × ℕ). write.0 < length depths); undone = refl }

-- a write that is logged with what it wrote over is taken back with the others
pub taken-write : (log : List (ℕ × ℕ)) (depths past : List ℕ) (place depth : ℕ) → place < length depths → TakesBack log depths past →
    TakesBack (log ++ (place, slice_index depths place) ∷ []) (slice_set depths place depth) past
taken-write log depths past place depth within taken =
    let n = length-set depths place depth in
    let more : All (λ (write : ℕ × ℕ). write.0 < length depths) (log ++ (place, slice_index depths place) ∷ []) =
    All-append (λ (write : ℕ × ℕ). write.0 < length depths) log ((place, slice_index depths place) ∷ []) taken.within
    (All-cons (λ (write : ℕ × ℕ). write.0 < length depths) (place, slice_index depths place) [] within (All-nil (λ (write : ℕ × ℕ). write.0 < length depths))) in
    record {
      within = subst (λ k. All (λ (write : ℕ × ℕ). write.0 < k) (log ++ (place, slice_index depths place) ∷ [])) (sym n) more;
      undone =
          undone-last log (place, slice_index depths place) (slice_set depths place depth)
          ∙ ap (λ ds. undone_writes log ds) (set-set depths place depth (slice_index depths place) ∙ set-get_or depths place 0)
          ∙ taken.undone;
    }

-- a depth that was at most l is, where all that were written are
pub written-most : (l : ℕ) (log : List (ℕ × ℕ)) (depths : List ℕ) → All (λ write. slice_index depths write.0 ≤ l) log → (x : ℕ) →
    slice_index (undone_writes log depths) x ≤ l → slice_index depths x ≤ l
written-most l [] depths most x before = before
written-most l (write ∷ log) depths most x before =
    let head : slice_index depths write.0 ≤ l = most 0 write (omega arith) in
    let rest : All (λ write. slice_index depths write.0 ≤ l) log = All-rest (λ write. slice_index depths write.0 ≤ l) write log (write ∷ log) refl most in
    ⊎_elim
    (λ (e : x ≡ write.0). subst (λ v. slice_index depths v ≤ l) (sym e) head)
    (λ (n : x ≢ write.0). written-most l log depths rest x (subst (λ v. v ≤ l) (get_or-set_other (undone_writes log depths) write.0 x write.1 0 n) before))
    (cases_eq x write.0)

-- what is held once a write of a record is taken back
pub IsHeld-undone : (l most : ℕ) (book : Book) (sires dams : List (Option ℕ)) (depths : List ℕ) (log : List (ℕ × ℕ)) (undo : Undo) → IsHeld l most book sires dams depths log undo →
    (place : ℕ) (was : StoredRecord) → undo ≡ Record place was → (left : List (ℕ × ℕ)) →
    IsHeld l most (set_value_at book place (animal_of (keys_of book) was)) (slice_set sires place was.sire) (slice_set dams place was.dam) (undone_writes log depths) left Nothing
IsHeld-undone l most book sires dams depths log undo h place was is left =
    let held : IsHeld l most book sires dams depths log (Record place was) = subst (λ u. IsHeld l most book sires dams depths log u) is h in
    record { kept = held.before (set_value_at book place (animal_of (keys_of book) was)) refl; within = tt; before = λ old e. absurd (cc) }
