-- What a step makes of the records.
use Rattle.std.specs.Prelude.{◌≡◌, ℕ, List, [], ◌∷◌, ◌++◌, length, nat_lt, if◌then◌else◌}
use Rattle.herd_frozen.specs.rules.Book.{Book}
use Rattle.herd_pedigree.specs.store.Records.{set_value_at}
use Rattle.herd_register.specs.declared.change.Change.{Change}
use Rattle.herd_register.specs.declared.change.Change.TheVariants.{Nothing, Added, Set}
use Rattle.herd_register.specs.declared.step.Step.{Step}
use Rattle.herd_register.specs.Limits.{Limits}
use Rattle.herd_register.specs.Run.{commands_of, run_book}

-- the book of at most so many animals with a change: a new record only where there is room for it; where the parents
-- are expected is no part of it
abbrev pub changed_by : ℕ → Book → Change → Book
changed_by most book Nothing = book
changed_by most book (Added number animal hint) =
    if nat_lt (length book) most then book ++ (number, animal) ∷ [] else book
changed_by most book (Set place animal hint) = set_value_at book place animal

-- a change is what the last of these steps made of the records, which were those of the steps before it
abbrev pub IsLastChange : Limits → List Step → Change → Type 0
IsLastChange limits journal change = (earlier : List Step) (last : Step) → journal ≡ earlier ++ last ∷ []
    → changed_by limits.animals (run_book limits (commands_of earlier)) change ≡ run_book limits (commands_of journal)

-- one change for each of the steps that follow others: what it made of the records
abbrev pub AreChangesAfter : Limits → List Step → List Step → List Change → Type 0
AreChangesAfter limits earlier [] changes = changes ≡ []
AreChangesAfter limits earlier (step ∷ steps) changes = (change : Change) × (later : List Change)
    × (changes ≡ change ∷ later) × IsLastChange limits (earlier ++ step ∷ []) change
    × AreChangesAfter limits (earlier ++ step ∷ []) steps later

-- one change for each step of a journal: what `Register::last_change` told once it was filed
abbrev pub AreChangesOf : Limits → List Step → List Change → Type 0
AreChangesOf limits journal changes = AreChangesAfter limits [] journal changes
