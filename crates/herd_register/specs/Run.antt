-- What a register of one thread does: the refusal of a command, its step, and the run of commands one after the other.
use Rattle.std.specs.Prelude.{◌≡◌, ℕ, Bool, true, false, List, [], ◌∷◌, ◌++◌, map, length, not, nat_lt, nat_eq, int_lt, is_some, if◌then◌else◌, Option, ℤ}
use Rattle.std.specs.Option.{option_map_or}
use Rattle.herd_frozen.specs.rules.Book.{Book, record_of, is_there, changed, with_parents, with_owner, with_left, has_calved_after}
use Rattle.herd_frozen.specs.rules.ParentFault.{first_that_holds, parent_faults}
use Rattle.herd_frozen.specs.declared.rules.animal.Animal.{Animal}
use Rattle.herd_frozen.specs.declared.TheConstants.{DEPTH_LIMIT}
use Rattle.herd_pedigree.specs.Pedigree.{birth_record}
use Rattle.herd_pedigree.specs.declared.registration.Newborn.{Newborn}
use Rattle.herd_register.specs.declared.command.Command.{Command}
use Rattle.herd_register.specs.declared.command.Command.TheVariants.{Birth, Parents, Transfer, Exit}
use Rattle.herd_register.specs.declared.reply.Refusal.{Refusal}
use Rattle.herd_register.specs.declared.reply.Refusal.TheVariants as refusal
use Rattle.herd_register.specs.declared.reply.Reply.{Reply}
use Rattle.herd_register.specs.declared.reply.Reply.TheVariants.{Accepted, Refused}
use Rattle.herd_register.specs.declared.step.Step.{Step}
use Rattle.herd_register.specs.Limits.{Limits}
use Rattle.herd_register.specs.Refusal.{refusal_of}

-- the faults of a change of parents, as refusals, each with its test
unfoldable pub parent_refusals : Book → List ℕ → ℤ → Option (List ℕ) → Option (List ℕ) → Bool → List (Bool × Refusal)
parent_refusals book number birth sire dam embryo =
    map (λ fault. (fault.0, refusal_of fault.1)) (parent_faults DEPTH_LIMIT book number birth sire dam embryo)

-- whether the record of a number is there and passes a test
abbrev pub has_record : Book → List ℕ → (Animal → Bool) → Bool
has_record book number test = option_map_or test (record_of book number) false

-- the refusals of a birth in the order in which they are asked, each with its test in the book before it
abbrev pub birth_refusals :
    Limits → Book → List ℕ → ℤ → Option (List ℕ) → Option (List ℕ) → Bool → List (Bool × Refusal)
birth_refusals limits book animal day sire dam embryo =
    (is_there book animal, refusal.AlreadyThere)
    ∷ (not (nat_lt (length book) limits.animals), refusal.BookFull)
    ∷ parent_refusals book animal day sire dam embryo

-- those of a correction of parents, which are asked with the animal's own birth day and embryo flag
abbrev pub correction_refusals : Book → List ℕ → Option (List ℕ) → Option (List ℕ) → List (Bool × Refusal)
correction_refusals book animal sire dam =
    option_map_or
    (λ here. parent_refusals book animal here.birth sire dam here.embryo)
    (record_of book animal)
    ((true, refusal.NotRegistered) ∷ [])

-- those of a transfer
abbrev pub transfer_refusals : Book → List ℕ → ℤ → ℕ → ℕ → List (Bool × Refusal)
transfer_refusals book animal day giver taker =
    (not (is_there book animal), refusal.NotRegistered)
    ∷ (has_record book animal (λ here. is_some here.left), refusal.Gone)
    ∷ (has_record book animal (λ here. not (nat_eq here.herd giver)), refusal.NotOwner)
    ∷ (nat_eq giver taker, refusal.SameHerd)
    ∷ (has_record book animal (λ here. int_lt day here.since), refusal.DayTooEarly)
    ∷ []

-- those of an exit
abbrev pub exit_refusals : Book → List ℕ → ℤ → List (Bool × Refusal)
exit_refusals book animal day =
    (not (is_there book animal), refusal.NotRegistered)
    ∷ (has_record book animal (λ here. is_some here.left), refusal.Gone)
    ∷ (has_record book animal (λ here. int_lt day here.since), refusal.DayTooEarly)
    ∷ (has_calved_after book animal day, refusal.CalvedLater)
    ∷ []

-- the refusals of a command
abbrev pub refusals : Limits → Book → Command → List (Bool × Refusal)
refusals limits book (Birth animal day sire dam herd embryo) = birth_refusals limits book animal day sire dam embryo
refusals limits book (Parents animal sire dam) = correction_refusals book animal sire dam
refusals limits book (Transfer animal day giver taker) = transfer_refusals book animal day giver taker
refusals limits book (Exit animal day) = exit_refusals book animal day

-- the first refusal of a command that holds
abbrev pub fault : Limits → Book → Command → Option Refusal
fault limits book command = first_that_holds (refusals limits book command)

-- the animal whose birth a command files
abbrev pub newborn : ℤ → Option (List ℕ) → Option (List ℕ) → ℕ → Bool → Newborn
newborn day sire dam herd embryo = record { birth = day; sire = sire; dam = dam; embryo = embryo; herd = herd }

-- the book with the record of a number: in its place, or at the end where the number is new
abbrev pub with_record : Book → List ℕ → Animal → Book
with_record book number animal =
    if is_there book number then changed book number (λ _. animal) else book ++ (number, animal) ∷ []

-- the book with the record of the command's animal as the command leaves it
abbrev pub set : Book → Command → Book
set book (Birth animal day sire dam herd embryo) =
    with_record book animal (birth_record (newborn day sire dam herd embryo))
set book (Parents animal sire dam) = changed book animal (with_parents sire dam)
set book (Transfer animal day giver taker) = changed book animal (with_owner taker day)
set book (Exit animal day) = changed book animal (with_left day)

-- the reply to a command
abbrev pub answer : Limits → Book → Command → Reply
answer limits book command = option_map_or Refused (fault limits book command) Accepted

-- the book after a command: as it sets it, or as it was where it is refused
abbrev pub next : Limits → Book → Command → Book
next limits book command = if is_some (fault limits book command) then book else set book command

-- the book after commands, one after the other
abbrev pub book_after : Limits → Book → List Command → Book
book_after limits book [] = book
book_after limits book (command ∷ commands) = book_after limits (next limits book command) commands

-- the replies to commands, one after the other
abbrev pub replies_after : Limits → Book → List Command → List Reply
replies_after limits book [] = []
replies_after limits book (command ∷ commands) =
    answer limits book command ∷ replies_after limits (next limits book command) commands

-- the run of commands from the empty book: the book, and the replies
abbrev pub run_book : Limits → List Command → Book
run_book limits commands = book_after limits [] commands

abbrev pub run_replies : Limits → List Command → List Reply
run_replies limits commands = replies_after limits [] commands

-- the commands and the replies of a journal
abbrev pub commands_of : List Step → List Command
commands_of steps = map (λ step. step.command) steps

abbrev pub replies_of : List Step → List Reply
replies_of steps = map (λ step. step.reply) steps

-- the replies of the steps are those of the run of their commands
abbrev pub IsLegal : Limits → List Step → Type 0
IsLegal limits steps = replies_of steps ≡ run_replies limits (commands_of steps)

abbrev pub step_of : ℕ → Command → Reply → Step
step_of desk command reply = record { desk = desk; command = command; reply = reply }
