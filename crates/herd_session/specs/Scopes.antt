-- Which animals of a book a question is answered from.
use Rattle.std.specs.Prelude.{◌≡◌, List, [], ◌∷◌, ℕ, Option, Some, None}
use Rattle.herd_frozen.specs.rules.Book.{Book}
use Rattle.herd_frozen.specs.freezing.Frozen.{IsFrozenFrom}
use Rattle.herd_frozen.specs.declared.TheConstants.{DEPTH_LIMIT, MOST_ANIMALS}
use Rattle.herd_frozen.specs.declared.freezing.frozen.Row.{Row}
use Rattle.herd_pedigree.specs.Part.{IsFrozenPart}
use Rattle.herd_requests.specs.declared.question.Question.{Question}
use Rattle.herd_requests.specs.declared.question.Question.TheVariants.{Certificates, Mating, Relationships, Coefficient, Record}
use Rattle.herd_session.specs.declared.scope.Scope.{Scope}
use Rattle.herd_session.specs.declared.scope.Scope.TheVariants.{All, Named}

-- the animals that are named by a question that asks for no others but their ancestors
abbrev pub named_in : Question → Option (List (List ℕ))
named_in (Certificates numbers) = Some numbers.items
named_in (Mating dam sires) = Some (dam ∷ sires.items)
named_in (Relationships numbers) = Some numbers.items
named_in (Coefficient number) = Some (number ∷ [])
named_in (Record number) = Some (number ∷ [])
named_in other = None

-- they are all, or those of these numbers and all their known ancestors
abbrev pub IsScopeOf : List (List ℕ) → Scope → Type 0
IsScopeOf numbers All = Unit {0}
IsScopeOf numbers (Named named) = numbers ≡ named.items

-- a question is answered from these animals as from all
abbrev pub SufficesFor : Question → Scope → Type 0
SufficesFor question All = Unit {0}
SufficesFor question (Named named) = named_in question ≡ Some named.items

-- the frozen rows of a book, or of a part of it that has the named animals
abbrev pub IsReadIn : Scope → Book → List Row → Type 0
IsReadIn All book rows = IsFrozenFrom DEPTH_LIMIT MOST_ANIMALS book rows
IsReadIn (Named numbers) book rows = IsFrozenPart DEPTH_LIMIT MOST_ANIMALS book numbers.items rows
