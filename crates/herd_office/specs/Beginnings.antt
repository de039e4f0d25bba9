-- Histories that a journal begins with.
use Rattle.std.specs.Prelude.{◌≡◌, ℕ, List, Some, length, slice_get, take}
use mathlib.Core.List.{IsPrefix}
use Rattle.herd_register.specs.declared.step.Step.{Step}

-- the journal begins with the history: an equation, as ghost fields have to be
abbrev pub IsFrontOf : List Step → List Step → Type 0
IsFrontOf history journal = history ≡ take (length history) journal

-- the journal begins with the history of each
abbrev pub BeginsWithAll : {A : Type 0} → (A → List Step) → List A → List Step → Type 0
BeginsWithAll {A} history_of all journal = (place : ℕ) (one : A) → slice_get all place ≡ Some one
    → IsPrefix (history_of one) journal
