-- Words that ask for nothing.
use Rattle.std.proofs.Common.{◌≡◌, ◌≢◌, ℕ, List, slice_get, slice_index, codes, Some, Result, Ok, Err, sym, ◌∙◌, ap, arith}
use Rattle.std.specs.Option.{unwrap_or}
use Rattle.std.specs.Prelude.{IfErr}
use Rattle.pedigree_timing.specs.declared.task.Task.{Task}
use Rattle.pedigree_timing.specs.declared.task.Task.TheVariants.{Births, Freeze, Corrections}
use Rattle.pedigree_timing.specs.Task.{HasNumber, AsksFor}

-- these words ask for no task
abbrev pub AsksForNothing : List (List ℕ) → Type 0
AsksForNothing words = (task : Task) → ¬ (AsksFor words task)

pub IfErr-all : {T E : Type 0} → (result : Result T E) → (P : Type 0) → P → IfErr result (λ _. P)
IfErr-all (Ok value) P holds = tt
IfErr-all (Err fault) P holds = holds

-- no number of animals
pub no_animals : (words : List (List ℕ)) → ((number : ℕ) → ¬ (HasNumber words 2 number)) → AsksForNothing words
no_animals words none (Births animals) asked = none animals asked.1
no_animals words none (Freeze animals) asked = none animals asked.1
no_animals words none (Corrections animals times) asked = none animals asked.1

first_letter : (words : List (List ℕ)) (word other : List ℕ) → slice_get words 1 ≡ Some word → slice_get words 1 ≡ Some other → slice_index word 0 ≡ slice_index other 0
first_letter words word other one two = ap (λ found. slice_index (unwrap_or found word) 0) (sym one ∙ two)

-- no number of corrections
pub no_times : (words : List (List ℕ)) → slice_get words 1 ≡ Some (codes "corrections") → ((number : ℕ) → ¬ (HasNumber words 3 number)) → AsksForNothing words
no_times words task none (Births animals) asked = let same = first_letter words _ _ task asked.0 in omega arith
no_times words task none (Freeze animals) asked = let same = first_letter words _ _ task asked.0 in omega arith
no_times words task none (Corrections animals times) asked = none times asked.2

-- another word for the task
pub no_task : (words : List (List ℕ)) (word : List ℕ) → slice_get words 1 ≡ Some word → word ≢ codes "births" → word ≢ codes "corrections" → word ≢ codes "freeze" → AsksForNothing words
no_task words word task births corrections freeze (Births animals) asked = births (let same : Some word ≡ Some (codes "births") = sym task ∙ asked.0 in cc)
no_task words word task births corrections freeze (Freeze animals) asked = freeze (let same : Some word ≡ Some (codes "freeze") = sym task ∙ asked.0 in cc)
no_task words word task births corrections freeze (Corrections animals times) asked = corrections (let same : Some word ≡ Some (codes "corrections") = sym task ∙ asked.0 in cc)
