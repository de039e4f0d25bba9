-- What a step that was answered makes of the records.
use Rattle.std.proofs.Common.{◌≡◌, ℕ, ◌<◌, ◌≤◌, ◌-◌, zero, suc, true, false, List, [], ◌∷◌, ◌++◌, length, get_or, set, slice_get, Option, Some, None, refl, sym, ap, ◌∙◌, subst, arith, ⊎_elim}
use Rattle.std.specs.Str.{bytes_eq}
use Rattle.std.specs.List.{IsDistinct}
use Rattle.std.specs.Map.{keys_of}
use Rattle.std.proofs.lemmas.Bool.{cases_Bool}
use Rattle.std.proofs.lemmas.List.{get_or_push, length-append}
use Rattle.herd_frozen.specs.declared.rules.animal.Animal.{Animal}
use Rattle.herd_frozen.specs.declared.TheConstants.{DEPTH_LIMIT, MOST_ANIMALS}
use Rattle.herd_frozen.specs.rules.Book.{Book, changed, record_of}
use Rattle.herd_frozen.specs.rules.Lawful.{IsLawful}
use Rattle.herd_pedigree.specs.store.Records.{set_value_at}
use Rattle.herd_frozen.proofs.lemmas.ListFacts.{all_at}
use Rattle.herd_frozen.proofs.lemmas.rules.BookFacts.{bytes_itself, bytes_turned, keys-changed}
use Rattle.herd_register.specs.declared.command.Command.{Command}
use Rattle.herd_register.specs.declared.reply.Refusal.{Refusal}
use Rattle.herd_register.specs.declared.reply.Reply.TheVariants.{Accepted, Refused}
use Rattle.herd_register.specs.declared.step.Step.{Step}
use Rattle.herd_register.specs.Limits.{Limits}
use Rattle.herd_register.specs.Run as run
use Rattle.herd_register.specs.Run.{answer, commands_of, fault, IsLegal, next, run_book}
use Rattle.herd_register.proofs.RunLemmas.{answer-refused, IsLegal-front, next-accepted, next-answered, run_book-append}

-- the record of a number that was changed, set in its place
set-changed : (book : Book) (number : List ℕ) (becomes : Animal → Animal) (place : ℕ) (animal : Animal) → IsDistinct bytes_eq (keys_of book) → slice_get (keys_of book) place ≡ Some number → record_of (changed book number becomes) number ≡ Some animal → set_value_at book place animal ≡ changed book number becomes
unfolding IsDistinct
set-changed [] number becomes place animal once at here = absurd (cc (at))
set-changed (entry ∷ book) number becomes zero animal once at here =
    let same : entry.0 ≡ number = cc (at) in
    let found : bytes_eq number entry.0 ≡ true = subst (λ (n : List ℕ). bytes_eq number n ≡ true) (sym same) (bytes_itself number) in
    let told : Some (becomes entry.1) ≡ Some animal = rw (found, found) at here in
    let is : becomes entry.1 ≡ animal = cc (told) in
    rw found (ap (λ (a : Animal). (entry.0, a) ∷ book) (sym is))
set-changed (entry ∷ book) number becomes (suc place) animal once at here =
    let other : bytes_eq number entry.0 ≡ false = bytes_turned entry.0 number (all_at (λ z. bytes_eq entry.0 z ≡ false) (keys_of book) place number once.0 at) in
    rw other (ap (λ (b : Book). entry ∷ b) (set-changed book number becomes place animal once.1 at (rw (other, other) at here)))

-- so the changed book is made from the one before it
pub set_in_place : (before now : Book) (number : List ℕ) (becomes : Animal → Animal) (place : ℕ) (animal : Animal) → IsLawful DEPTH_LIMIT MOST_ANIMALS now → slice_get (keys_of now) place ≡ Some number → record_of now number ≡ Some animal → now ≡ changed before number becomes → set_value_at before place animal ≡ now
set_in_place before now number becomes place animal lawful at here is =
    let keys : keys_of now ≡ keys_of before = ap keys_of is ∙ keys-changed before number becomes in
    set-changed before number becomes place animal
    (subst (IsDistinct bytes_eq) keys lawful.once)
    (subst (λ (ks : List (List ℕ)). slice_get ks place ≡ Some number) keys at)
    (subst (λ (b : Book). record_of b number ≡ Some animal) is here)
    ∙ sym is

-- another record written at a place is that of the animal there
pub set-at : (book : Book) (place : ℕ) (animal : Animal) → place < length book → (entry : List ℕ × Animal) → entry ≡ get_or book place entry → set book place (entry.0, animal) ≡ set_value_at book place animal
set-at [] place animal within entry is = absurd (omega arith)
set-at (first ∷ book) zero animal within entry is = ap (λ (n : List ℕ × Animal). (n.0, animal) ∷ book) is
set-at (first ∷ book) (suc place) animal within entry is = ap (λ (b : Book). first ∷ b) (set-at book place animal (omega arith) entry is)

-- and nothing is where no animal is
pub set-beyond : (book : Book) (place : ℕ) (animal : Animal) → length book ≤ place → set_value_at book place animal ≡ book
set-beyond [] place animal beyond = refl
set-beyond (first ∷ book) zero animal beyond = absurd (omega arith)
set-beyond (first ∷ book) (suc place) animal beyond = ap (λ (b : Book). first ∷ b) (set-beyond book place animal (omega arith))

-- a change of a number that isn't there changes nothing
changed-absent : (book : Book) (number : List ℕ) (becomes : Animal → Animal) → record_of (changed book number becomes) number ≡ None → changed book number becomes ≡ book
changed-absent [] number becomes absent = refl
changed-absent (entry ∷ book) number becomes absent =
    ⊎_elim
    (λ (found : bytes_eq number entry.0 ≡ true). let told : Some (becomes entry.1) ≡ None = rw (found, found) at absent in absurd (cc (told)))
    (λ (other : bytes_eq number entry.0 ≡ false). rw other (ap (λ (b : Book). entry ∷ b) (changed-absent book number becomes (rw (other, other) at absent))))
    (cases_Bool (bytes_eq number entry.0))

pub nothing_set : (before now : Book) (number : List ℕ) (becomes : Animal → Animal) → record_of now number ≡ None → now ≡ changed before number becomes → before ≡ now
nothing_set before now number becomes absent is =
    sym (changed-absent before number becomes (subst (λ (b : Book). record_of b number ≡ None) is absent)) ∙ sym is

-- what is accepted has no fault, and sets its record
pub of_accepted : (limits : Limits) (book : Book) (command : Command) → Accepted ≡ answer limits book command → (fault limits book command ≡ None) × (next limits book command ≡ run.set book command)
of_accepted limits book command is = by (fault limits book command) refl where
  by : (o : Option Refusal) → fault limits book command ≡ o → (fault limits book command ≡ None) × (next limits book command ≡ run.set book command)
  by None none = (none, next-accepted limits book command none)
  by (Some refusal) some = absurd (cc (is ∙ answer-refused limits book command refusal some))

-- the last of legal steps, as it made the book
pub last_accepted : (limits : Limits) (earlier : List Step) (last : Step) → IsLegal limits (earlier ++ last ∷ []) → last.reply ≡ Accepted → (fault limits (run_book limits (commands_of earlier)) last.command ≡ None) × (run_book limits (commands_of (earlier ++ last ∷ [])) ≡ run.set (run_book limits (commands_of earlier)) last.command)
last_accepted limits earlier last legal accepted =
    let before = run_book limits (commands_of earlier) in
    let told = of_accepted limits before last.command (sym accepted ∙ (IsLegal-front limits earlier last legal).1) in
    (told.0, run_book-append limits earlier last ∙ told.1)

pub last_refused : (limits : Limits) (earlier : List Step) (last : Step) (refusal : Refusal) → IsLegal limits (earlier ++ last ∷ []) → last.reply ≡ Refused refusal → run_book limits (commands_of earlier) ≡ run_book limits (commands_of (earlier ++ last ∷ []))
last_refused limits earlier last refusal legal refused =
    let before = run_book limits (commands_of earlier) in
    sym (run_book-append limits earlier last ∙ next-answered limits before last.command refusal (sym refused ∙ (IsLegal-front limits earlier last legal).1))

pub last_of : (steps earlier : List Step) (last found : Step) → steps ≡ earlier ++ last ∷ [] → found ≡ get_or steps (length steps - 1) found → found ≡ last
last_of steps earlier last found whole at =
    at ∙ (ap (λ (s : List Step). get_or s (length s - 1) found) whole ∙ get_or_push earlier last found (length (earlier ++ last ∷ []) - 1) (omega (arith, length-append earlier (last ∷ []))))
