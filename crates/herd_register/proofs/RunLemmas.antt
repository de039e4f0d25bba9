-- Runs of one command more, and of legal steps, and that their book is lawful.
use Rattle.std.proofs.Common.{◌≡◌, ◌≤◌, List, [], ◌∷◌, ◌++◌, length, Option, None, Some, refl, sym, ap, ◌∙◌, arith}
use Rattle.std.proofs.lemmas.List.{length-append, map-append, same_from_push}
use Rattle.herd_frozen.specs.rules.Book.{Book, with_left, with_owner, with_parents}
use Rattle.herd_frozen.specs.rules.Lawful.{IsLawful}
use Rattle.herd_frozen.specs.declared.TheConstants.{DEPTH_LIMIT, MOST_ANIMALS}
use Rattle.herd_frozen.proofs.lemmas.rules.BookFacts.{length-changed}
use Rattle.herd_pedigree.proofs.lemmas.LawfulChanges.{lawful-birth, lawful-empty, lawful-exit, lawful-owner, lawful-parents}
use Rattle.herd_pedigree.specs.Pedigree.{birth_record}
use Rattle.herd_register.specs.declared.command.Command.{Command}
use Rattle.herd_register.specs.declared.command.Command.TheVariants.{Birth, Parents, Transfer, Exit}
use Rattle.herd_register.specs.Limits.{Limits}
use Rattle.herd_register.specs.declared.reply.Refusal.{Refusal}
use Rattle.herd_register.specs.declared.reply.Reply.TheVariants.{Accepted, Refused}
use Rattle.herd_register.specs.declared.step.Step.{Step}
use Rattle.herd_register.specs.Run.{answer, book_after, commands_of, fault, IsLegal, newborn, next, replies_after, replies_of, run_book, run_replies, set}
use Rattle.herd_register.proofs.FaultFacts.{allowed_of_no_fault, birth_room}

-- a refused command leaves the book, and an accepted one sets the record of its animal
pub next-refused : (limits : Limits) (book : Book) (command : Command) (refusal : Refusal) → fault limits book command ≡ Some refusal → next limits book command ≡ book
next-refused limits book command refusal is = rw is refl

pub next-accepted : (limits : Limits) (book : Book) (command : Command) → fault limits book command ≡ None → next limits book command ≡ set book command
next-accepted limits book command is = rw is refl

pub answer-refused : (limits : Limits) (book : Book) (command : Command) (refusal : Refusal) → fault limits book command ≡ Some refusal → answer limits book command ≡ Refused refusal
answer-refused limits book command refusal is = rw is refl

pub answer-accepted : (limits : Limits) (book : Book) (command : Command) → fault limits book command ≡ None → answer limits book command ≡ Accepted
answer-accepted limits book command is = rw is refl

-- one command after others
pub book_after-append : (limits : Limits) (book : Book) (commands : List Command) (command : Command) → book_after limits book (commands ++ command ∷ []) ≡ next limits (book_after limits book commands) command
book_after-append limits book [] command = refl
book_after-append limits book (first ∷ commands) command = book_after-append limits (next limits book first) commands command

pub replies_after-append : (limits : Limits) (book : Book) (commands : List Command) (command : Command) → replies_after limits book (commands ++ command ∷ []) ≡ replies_after limits book commands ++ answer limits (book_after limits book commands) command ∷ []
replies_after-append limits book [] command = refl
replies_after-append limits book (first ∷ commands) command =
    ap (λ rest. answer limits book first ∷ rest) (replies_after-append limits (next limits book first) commands command)

-- the run of the commands of one step more
pub run_book-append : (limits : Limits) (steps : List Step) (step : Step) → run_book limits (commands_of (steps ++ step ∷ [])) ≡ next limits (run_book limits (commands_of steps)) step.command
run_book-append limits steps step =
    ap (run_book limits) (map-append (λ (s : Step). s.command) steps (step ∷ [])) ∙ book_after-append limits [] (commands_of steps) step.command

run_replies-append : (limits : Limits) (steps : List Step) (step : Step) → run_replies limits (commands_of (steps ++ step ∷ [])) ≡ run_replies limits (commands_of steps) ++ answer limits (run_book limits (commands_of steps)) step.command ∷ []
run_replies-append limits steps step =
    ap (run_replies limits) (map-append (λ (s : Step). s.command) steps (step ∷ [])) ∙ replies_after-append limits [] (commands_of steps) step.command

replies_of-append : (steps : List Step) (step : Step) → replies_of (steps ++ step ∷ []) ≡ replies_of steps ++ step.reply ∷ []
replies_of-append steps step = map-append (λ (s : Step). s.reply) steps (step ∷ [])

-- legal steps and one more that was answered as one thread answers it are legal
pub IsLegal-append : (limits : Limits) (steps : List Step) (step : Step) → IsLegal limits steps → step.reply ≡ answer limits (run_book limits (commands_of steps)) step.command → IsLegal limits (steps ++ step ∷ [])
IsLegal-append limits steps step legal is =
    replies_of-append steps step
    ∙ (ap (λ replies. replies ++ step.reply ∷ []) legal
    ∙ (ap (λ reply. run_replies limits (commands_of steps) ++ reply ∷ []) is
    ∙ sym (run_replies-append limits steps step)))

-- legal steps are legal without the last, which was answered as one thread answers it
pub IsLegal-front : (limits : Limits) (steps : List Step) (step : Step) → IsLegal limits (steps ++ step ∷ []) → IsLegal limits steps × (step.reply ≡ answer limits (run_book limits (commands_of steps)) step.command)
IsLegal-front limits steps step legal =
    same_from_push (replies_of steps) (run_replies limits (commands_of steps)) step.reply (answer limits (run_book limits (commands_of steps)) step.command)
    (sym (replies_of-append steps step) ∙ (legal ∙ run_replies-append limits steps step))

-- a birth that has no fault is of a new number, and finds room
length-set : (limits : Limits) (book : Book) (command : Command) → fault limits book command ≡ None → length book ≤ limits.animals → length (set book command) ≤ limits.animals
length-set limits book (Birth animal day sire dam herd embryo) none few =
    let room = birth_room limits book animal day sire dam herd embryo none in
    rw (room.0, length-append book ((animal, birth_record (newborn day sire dam herd embryo)) ∷ [])) (omega arith)
length-set limits book (Parents animal sire dam) none few = rw (length-changed book animal (with_parents sire dam)) few
length-set limits book (Transfer animal day giver taker) none few = rw (length-changed book animal (with_owner taker day)) few
length-set limits book (Exit animal day) none few = rw (length-changed book animal (with_left day)) few

-- no command takes the book above the limit of animals
length-next : (limits : Limits) (book : Book) (command : Command) → length book ≤ limits.animals → length (next limits book command) ≤ limits.animals
length-next limits book command few = by (fault limits book command) refl where
  by : (o : Option Refusal) → fault limits book command ≡ o → length (next limits book command) ≤ limits.animals
  by None is = rw (next-accepted limits book command is) (length-set limits book command is few)
  by (Some refusal) is = rw (next-refused limits book command refusal is) few

length-book_after : (limits : Limits) (book : Book) (commands : List Command) → length book ≤ limits.animals → length (book_after limits book commands) ≤ limits.animals
length-book_after limits book [] few = few
length-book_after limits book (command ∷ commands) few = length-book_after limits (next limits book command) commands (length-next limits book command few)

pub length-run_book : (limits : Limits) (commands : List Command) → length (run_book limits commands) ≤ limits.animals
length-run_book limits commands = length-book_after limits [] commands (omega arith)

-- a reply that refuses tells that the book stays
pub next-answered : (limits : Limits) (book : Book) (command : Command) (refusal : Refusal) → Refused refusal ≡ answer limits book command → next limits book command ≡ book
next-answered limits book command refusal is = by (fault limits book command) refl where
  by : (o : Option Refusal) → fault limits book command ≡ o → next limits book command ≡ book
  by None none = absurd (cc (is ∙ answer-accepted limits book command none))
  by (Some other) some = next-refused limits book command other some

-- each command that nothing refuses leaves the book lawful
IsLawful-set : (limits : Limits) (book : Book) (command : Command) → limits.animals ≤ MOST_ANIMALS → fault limits book command ≡ None → IsLawful DEPTH_LIMIT MOST_ANIMALS book → IsLawful DEPTH_LIMIT MOST_ANIMALS (set book command)
IsLawful-set limits book (Birth animal day sire dam herd embryo) most none lawful =
    let new = birth_room limits book animal day sire dam herd embryo none in
    rw new.0 (lawful-birth DEPTH_LIMIT MOST_ANIMALS book animal (newborn day sire dam herd embryo) lawful (allowed_of_no_fault limits book (Birth animal day sire dam herd embryo) most none))
IsLawful-set limits book (Parents animal sire dam) most none lawful = lawful-parents DEPTH_LIMIT MOST_ANIMALS book animal sire dam lawful (allowed_of_no_fault limits book (Parents animal sire dam) most none)
IsLawful-set limits book (Transfer animal day giver taker) most none lawful = lawful-owner DEPTH_LIMIT MOST_ANIMALS book animal taker day lawful (allowed_of_no_fault limits book (Transfer animal day giver taker) most none)
IsLawful-set limits book (Exit animal day) most none lawful = lawful-exit DEPTH_LIMIT MOST_ANIMALS book animal day lawful (allowed_of_no_fault limits book (Exit animal day) most none)

IsLawful-next : (limits : Limits) (book : Book) (command : Command) → limits.animals ≤ MOST_ANIMALS → IsLawful DEPTH_LIMIT MOST_ANIMALS book → IsLawful DEPTH_LIMIT MOST_ANIMALS (next limits book command)
IsLawful-next limits book command most lawful = by (fault limits book command) refl where
  by : (o : Option Refusal) → fault limits book command ≡ o → IsLawful DEPTH_LIMIT MOST_ANIMALS (next limits book command)
  by None none = rw (next-accepted limits book command none) (IsLawful-set limits book command most none lawful)
  by (Some refusal) some = rw (next-refused limits book command refusal some) lawful

IsLawful-book_after : (limits : Limits) (book : Book) (commands : List Command) → limits.animals ≤ MOST_ANIMALS → IsLawful DEPTH_LIMIT MOST_ANIMALS book → IsLawful DEPTH_LIMIT MOST_ANIMALS (book_after limits book commands)
IsLawful-book_after limits book [] most lawful = lawful
IsLawful-book_after limits book (command ∷ commands) most lawful = IsLawful-book_after limits (next limits book command) commands most (IsLawful-next limits book command most lawful)

-- the book of commands is lawful
pub IsLawful-run_book : (limits : Limits) (commands : List Command) → limits.animals ≤ MOST_ANIMALS → IsLawful DEPTH_LIMIT MOST_ANIMALS (run_book limits commands)
IsLawful-run_book limits commands most = IsLawful-book_after limits [] commands most (lawful-empty DEPTH_LIMIT MOST_ANIMALS)
