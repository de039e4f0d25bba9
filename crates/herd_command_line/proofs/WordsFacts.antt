-- What the getters of `clap` tell of the words.
use Rattle.std.proofs.Common.{◌≡◌, ℕ, ◌+◌, ◌<◌, ◌≤◌, ◌^◌, inl, inr, List, [], Option, Some, None, option_map, unwrap_or, Bor, Result, slice_get, get_or, length, map, true, refl, subst, sym, ◌∙◌, ap, arith, Ok, Err}
use Rattle.std.specs.Fmt.{digits}
use Rattle.std.specs.Str.Parse.{ParsesUnsigned, ExplainsUnsignedError, HasUnsignedDigitsIfOk, digits_value, without_leading_plus}
use Rattle.std.specs.declared.num.ParseIntError.{ParseIntError}
use Rattle.std.specs.Prelude.{IfErr, IfOk, IsErrAnd, IsSomeAnd}
use Rattle.std.proofs.lemmas.Bool.{cases_order}
use Rattle.std.proofs.lemmas.Option.{slice_get-get_or, slice_get-map}
use Rattle.clap.specs.Words.{ReadsOne, Text, first_value, is_simple, is_simple_and_free, matched_of, raw_values, rows_of, subcommand_of}
use Rattle.clap.specs.declared.parser.matches.Found as matches
use Rattle.clap.proofs.WalkLemmas.{first_value-rows, raw_values-rows}
use Rattle.herd_animal.specs.AnimalNumber.{IsAnimalNumber}
use Rattle.herd_animal.specs.declared.number.NumberFault.{NumberFault}
use Rattle.herd_command_line.specs.declared.arguments.WordsFault.{WordsFault}
use Rattle.herd_command_line.specs.declared.arguments.WordsFault.TheVariants.{Words, Number, Misplaced, NoSeal}
use Rattle.herd_command_line.specs.Words.{Found, IsMisplaced, IsNoSeal, IsNumberOr, IsRefused, IsUnread, IsUnreadOf, IsWrongNumber, text_of, texts_of}
use Rattle.herd_command_line.specs.CommandLine.{certificate_line, check_line, clerks_line, command_line, file_line, inbreeding_line, inverse_line, mating_line, pedigree_line, records_line, relationships_line, runs_line, seal_line, sealed_line, session_line}

text_or : (found : Option (Bor Text)) (other : Bor Text) → other.now ≡ [] → unwrap_or (option_map (λ text. text.now) found) [] ≡ (unwrap_or found other).now
text_or None other none = sym none
text_or (Some text) other none = refl

-- the text that `get_str` gives, and an empty one where it gives none
pub text_of-found : (given : matches.Found) (id : Text) (found : Option (Bor Text)) (other : Bor Text) → option_map (λ text. text.now) found ≡ first_value given id → other.now ≡ [] → text_of id (rows_of given) ≡ (unwrap_or found other).now
text_of-found given id found other same none =
    ap (λ text. unwrap_or text []) (sym (first_value-rows given id) ∙ sym same) ∙ text_or found other none

-- what `parse` gives at `u32`
abbrev pub Parses : Text → Result ℕ ParseIntError → Type 0
Parses text result = ParsesUnsigned 32 10 text result × ExplainsUnsignedError 10 text result × HasUnsignedDigitsIfOk text result

-- the number that `get_one` gives, where it lies in the range
pub IsNumberOr-given : (least most other number : ℕ) (text : Option Text) → (text ≡ None → Some number ≡ None) → ((t : Text) → text ≡ Some t → ReadsOne Parses t (Some number)) → least ≤ number → number ≤ most → IsNumberOr least most other text number
IsNumberOr-given least most other number None none some low high = absurd (cc (none refl))
IsNumberOr-given least most other number (Some text) none some low high =
    let read = some text refl in
    inl (record { numeral = read.0.0.0; value = sym read.0.1; low = low; high = high })

-- another, where it doesn't
pub IsNumberOr-beyond : (least most other number : ℕ) (text : Option Text) → ((t : Text) → text ≡ Some t → ReadsOne Parses t (Some number)) → (least ≤ number → number ≤ most → ⊥) → IsNumberOr least most other text other
IsNumberOr-beyond least most other number None some out = refl
IsNumberOr-beyond least most other number (Some text) some out =
    let is : number ≡ digits_value 10 (without_leading_plus text) = (some text refl).0.1 in
    inr (λ n written. out (omega (arith, is, written.value, written.low)) (omega (arith, is, written.value, written.high)), refl)

-- and where it gives none
pub IsNumberOr-none : (least most other : ℕ) (text : Option Text) → most < 2 ^ 32 → ((t : Text) → text ≡ Some t → ReadsOne Parses t None) → IsNumberOr least most other text other
IsNumberOr-none least most other None fits some = refl
IsNumberOr-none least most other (Some text) fits some =
    inr (λ n written. (some text refl).1.0 (written.numeral, omega (arith, written.value, written.high, fits)), refl)

texts_or : (found : Option (Bor (List (Bor Text)))) (other : Bor (List (Bor Text))) → other.now ≡ [] → unwrap_or (option_map (λ texts. map (λ text. text.now) texts.now) found) [] ≡ map (λ text. text.now) (unwrap_or found other).now
texts_or None other none = ap (map (λ text. text.now)) (sym none)
texts_or (Some texts) other none = refl

-- the texts that `get_strs` gives, and none where it gives none
pub texts_of-found : (given : matches.Found) (id : Text) (found : Option (Bor (List (Bor Text)))) (other : Bor (List (Bor Text))) → option_map (λ texts. map (λ text. text.now) texts.now) found ≡ option_map raw_values (matched_of given id) → other.now ≡ [] → texts_of id (rows_of given) ≡ map (λ text. text.now) (unwrap_or found other).now
texts_of-found given id found other same none =
    ap (λ texts. unwrap_or texts []) (sym (raw_values-rows given id) ∙ sym same) ∙ texts_or found other none

-- a fault that `?` hands on is told
pub IsUnread-number : {T : Type 0} (result : Result T WordsFault) (cause : NumberFault) (P : NumberFault → Type 0) → IsErrAnd result (λ fault. fault ≡ Number cause) → P cause → IfErr result (IsUnread P)
IsUnread-number (Ok value) cause P told wrong = tt
IsUnread-number (Err fault) cause P told wrong = rw told wrong

-- one text more is a number
pub right_more : (texts : List Text) (i : ℕ) (text : Text) → slice_get texts i ≡ Some text → IsAnimalNumber text
    → ((earlier : ℕ) (other : Text) → earlier < i → slice_get texts earlier ≡ Some other → IsAnimalNumber other)
    → (earlier : ℕ) (other : Text) → earlier < i + 1 → slice_get texts earlier ≡ Some other → IsAnimalNumber other
right_more texts i text there right before earlier other below here =
    elim (cases_order earlier i) [
      | inl same ↦ let one : Some other ≡ Some text = sym here ∙ (ap (slice_get texts) same ∙ there) in let is : other ≡ text = cc in rw is right
      | inr (inl less) ↦ before earlier other less here
      | inr (inr more) ↦ absurd (omega arith)
    ]

pub IsSomeAnd-is : {T : Type 0} (found : Option T) (value : T) → IsSomeAnd found (λ v. v ≡ value) → found ≡ Some value
IsSomeAnd-is None value is = absurd is
IsSomeAnd-is (Some v) value is = ap Some is

-- the text that a loop reads
pub text_at : (texts : List (Bor Text)) (i : ℕ) (other : Bor Text) (text : Text) → i < length texts → text ≡ (get_or texts i other).now → slice_get (map (λ t. t.now) texts) i ≡ Some text
text_at texts i other text within is =
    slice_get-map (λ t. t.now) texts i ∙ ap (option_map (λ t. t.now)) (slice_get-get_or texts i other within) ∙ ap Some (sym is)

-- a request of a book that isn't read is one that isn't read
pub IsUnreadOf-book : (found : Found) (fault : WordsFault) → IsUnread (IsWrongNumber found) fault → IsUnreadOf found fault
IsUnreadOf-book found (Words error) unread = unread
IsUnreadOf-book found (Number cause) unread = unread
IsUnreadOf-book found Misplaced unread = absurd unread
IsUnreadOf-book found NoSeal unread = absurd unread

-- a request that isn't read is refused
pub IsRefused-unread : (words : List Text) (found : Found) (fault : WordsFault) → found ≡ subcommand_of command_line words → IsUnreadOf found fault → IsRefused words fault
IsRefused-unread words found (Words error) same unread = inl unread
IsRefused-unread words found (Number cause) same unread = subst (λ f. IsWrongNumber f cause) same unread
IsRefused-unread words found Misplaced same unread = subst IsMisplaced same unread
IsRefused-unread words found NoSeal same unread = subst IsNoSeal same unread

-- the matches of the command line are exact
pub is_simple-command_line : is_simple command_line ≡ true
unfolding digits command_line runs_line file_line inverse_line inbreeding_line certificate_line mating_line relationships_line records_line seal_line sealed_line check_line pedigree_line clerks_line session_line
is_simple-command_line = refl

-- and so are its faults
pub is_free-command_line : is_simple_and_free command_line ≡ true
unfolding digits command_line runs_line file_line inverse_line inbreeding_line certificate_line mating_line relationships_line records_line seal_line sealed_line check_line pedigree_line clerks_line session_line
is_free-command_line = refl

pub IfOk-all : {T E : Type 0} (result : Result T E) (P : Type 0) → P → IfOk result (λ _. P)
IfOk-all (Ok value) P holds = holds
IfOk-all (Err fault) P holds = tt
