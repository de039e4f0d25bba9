-- Words that ask for nothing.
use Rattle.std.proofs.Common.{◌≡◌, ℕ, List, inr, Option, Some, None}
use Rattle.std.specs.Prelude.{IfSome}
use Rattle.herd_command_line.specs.Words.{IsRefused}
use Rattle.herd_command_line.specs.declared.arguments.WordsFault.{WordsFault}
use Rattle.herd_command_line.specs.declared.arguments.WordsFault.TheVariants as words_fault
use Rattle.herdbook.specs.Ending.{Explains}
use Rattle.herdbook.specs.Program.{IsEnded}
use Rattle.herdbook.specs.declared.ending.Ending.{Ending}
use Rattle.herdbook.specs.declared.ending.Ending.TheVariants.{Done, Shown, Usage, NotText, Number, Misplaced, NotSeal, Refused, Early}

-- words that ask for nothing end the program
pub ended-words : (known : Option (List ℕ)) (words : List (List ℕ)) (old new : Option (List ℕ)) (fault : WordsFault) (ending : Ending)
    → IsRefused words fault → Explains fault ending → IfSome known (λ bytes. IsEnded words bytes old new ending)
ended-words None words old new fault ending refused explained = tt
ended-words (Some bytes) words old new (words_fault.Words error) Done refused explained = absurd explained
ended-words (Some bytes) words old new (words_fault.Number cause) Done refused explained = absurd (cc explained)
ended-words (Some bytes) words old new words_fault.Misplaced Done refused explained = absurd (cc explained)
ended-words (Some bytes) words old new words_fault.NoSeal Done refused explained = absurd (cc explained)
ended-words (Some bytes) words old new (words_fault.Words error) Refused refused explained = absurd explained
ended-words (Some bytes) words old new (words_fault.Number cause) Refused refused explained = absurd (cc explained)
ended-words (Some bytes) words old new words_fault.Misplaced Refused refused explained = absurd (cc explained)
ended-words (Some bytes) words old new words_fault.NoSeal Refused refused explained = absurd (cc explained)
ended-words (Some bytes) words old new fault (Early told) refused explained = inr (record { fault = fault; refused = refused; explained = explained })
ended-words (Some bytes) words old new fault (Shown text) refused explained = record { fault = fault; refused = refused; explained = explained }
ended-words (Some bytes) words old new fault (Usage text) refused explained = record { fault = fault; refused = refused; explained = explained }
ended-words (Some bytes) words old new fault NotText refused explained = record { fault = fault; refused = refused; explained = explained }
ended-words (Some bytes) words old new fault (Number cause) refused explained = record { fault = fault; refused = refused; explained = explained }
ended-words (Some bytes) words old new fault Misplaced refused explained = record { fault = fault; refused = refused; explained = explained }
ended-words (Some bytes) words old new fault NotSeal refused explained = record { fault = fault; refused = refused; explained = explained }
