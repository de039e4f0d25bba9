-- How the program ends for its words and the bytes of a command file.
use Rattle.std.specs.Prelude.{◌≡◌, ◌⊎◌, ℕ, List, [], Option}
use Rattle.clap.specs.Words.{fault_of, subcommand_of}
use Rattle.herd_command_line.specs.CommandLine.{command_line}
use Rattle.herd_command_line.specs.Words.{IsAsked, IsRefused}
use Rattle.herd_command_line.specs.declared.arguments.Request.{Request}
use Rattle.herd_command_line.specs.declared.arguments.WordsFault.{WordsFault}
use Rattle.herdbook.specs.Ending.{Explains}
use Rattle.herdbook.specs.Serving.{CanEndServing, CanRefuse, EndsServing, IsRefusedBy, IsServed}
use Rattle.herdbook.specs.declared.ending.Ending.{Ending}
use Rattle.herdbook.specs.declared.ending.Ending.TheVariants.{Done, Refused, Early}

-- `clap` takes the words, and a fact holds of the request that they make
pub record Asks (words : List (List ℕ)) (Holds : Request → Type 0) : Type 0 where
  pub request : Request
  pub taken : fault_of command_line words ≡ []
  pub asked : IsAsked (subcommand_of command_line words) request
  pub holds : Holds request

-- the words ask for nothing, which the end explains
pub record AsksNothing (words : List (List ℕ)) (ending : Ending) : Type 0 where
  pub fault : WordsFault
  pub refused : IsRefused words fault
  pub explained : Explains fault ending

-- the program did what the words ask for with these bytes, or it ended early, or the words ask for nothing
abbrev pub IsEnded : List (List ℕ) → List ℕ → Option (List ℕ) → Option (List ℕ) → Ending → Type 0
IsEnded words bytes old new Done = Asks words (λ request. IsServed request bytes old new)
IsEnded words bytes old new Refused = Asks words (λ request. IsRefusedBy request bytes old new)
IsEnded words bytes old new (Early fault) =
    Asks words (λ request. EndsServing request bytes old new fault) ⊎ AsksNothing words (Early fault)
IsEnded words bytes old new ending = AsksNothing words ending

-- only what was asked for, and memory that ran out, leave it open whether anything was written
abbrev pub IsUntouchedUnlessAsked : Type 0 → Ending → Type 0
IsUntouchedUnlessAsked Untouched Done = Unit {0}
IsUntouchedUnlessAsked Untouched Refused = Unit {0}
IsUntouchedUnlessAsked Untouched (Early fault) = Unit {0}
IsUntouchedUnlessAsked Untouched ending = Untouched

-- the ends that the words leave open, whatever is read
abbrev pub CanEnd : List (List ℕ) → Ending → Type 0
CanEnd words Done = Asks words (λ _. Unit {0})
CanEnd words Refused = Asks words CanRefuse
CanEnd words (Early fault) =
    Asks words (λ request. CanEndServing request fault) ⊎ AsksNothing words (Early fault)
CanEnd words ending = AsksNothing words ending
