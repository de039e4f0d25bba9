-- The lines of relationships, and the animals that they are of.
use Rattle.std.proofs.Common.{◌≡◌, ◌∙◌, ℕ, ◌+◌, ◌-◌, ◌*◌, ◌<◌, ◌^◌, Bool, true, false, List, [], ◌∷◌, ◌++◌, All}
use Rattle.std.proofs.Common.{Contains, codes, length, drop, slice_get, take, Option, Some, option_map, refl, ap}
use Rattle.std.proofs.Common.{subst, sym, arith}
use Rattle.std.specs.List.{filter}
use Rattle.std.proofs.lemmas.List.{append-nil, drop-map, drop_more, length-drop, map-append}
use Rattle.std.proofs.Math.Seq.{take-length}
use Rattle.std.proofs.lemmas.List.Elements.{All-contains_itself, All-filter, All-get_or, All-nil, All-push}
use Rattle.std.proofs.lemmas.List.Elements.{filter-append}
use Rattle.std.proofs.lemmas.Option.{get_or_from_slice_get, slice_get-map, slice_get_within}
use Rattle.herd_frozen.specs.declared.TheConstants.{DEPTH_LIMIT}
use Rattle.herd_frozen.specs.declared.freezing.frozen.Row.{Row}
use Rattle.herd_frozen.specs.freezing.Frozen.{book_of, numbers_of}
use Rattle.herd_frozen.specs.rules.Book.{Book, is_there}
use Rattle.herd_advice.specs.FrozenAncestry.{book_ancestry}
use Rattle.herd_kinship.specs.Fraction.{fraction_text, halved}
use Rattle.herd_kinship.specs.Table.{entry}
use Rattle.herd_advice.proofs.lemmas.FrozenFacts.{length-numbers_of}
use Rattle.herd_report.proofs.lemmas.writing.CertificateFacts.{number_is_there}
use Rattle.herd_text.proofs.lemmas.TextFacts.{Holds, front_waiting, holds_passed, holds_piece, passes_nothing}
use Rattle.herd_text.proofs.lemmas.TextFacts.{some_after, some_before}
use Rattle.herd_report.specs.declared.writing.relationship_list.Asked.{Asked}
use Rattle.herd_text.specs.CoefficientText.{value_line_end}
use Rattle.herd_report.specs.writing.RelationshipList.{AreAsked, IsAsked, absent_line, lines_with, names_of, pair_lines}
use Rattle.herd_report.specs.writing.RelationshipList.{partners_of, relationship_line}
use Rattle.herd_text.specs.Text.{AppendsFront, PassesOn}

-- ---- how their text grows

-- what waits was made first, and the rest isn't made yet
pub holds_made : (known : Option (List ℕ)) (waiting rest : List ℕ) → Holds known known (waiting ++ rest) waiting rest
holds_made known waiting rest = record { passed = passes_nothing known (waiting ++ rest) }

-- a piece joined what waits, and of both some was passed on
pub holds_grown : {old now new : Option (List ℕ)} {text waiting rest left : List ℕ} (piece after : List ℕ)
    → Holds old now text waiting rest → rest ≡ piece ++ after → PassesOn now new (waiting ++ piece) left
    → Holds old new text left after
holds_grown {waiting = waiting} piece after held split passed =
    holds_passed (holds_piece {pushed = waiting ++ piece} piece after held split refl) passed

-- ---- numbers that are in the book, and others

-- one more number that is there
pub asked_more : (rows : List Row) (numbers : List (List ℕ)) (asked : List Asked) (one : Asked) → IsAsked rows one
    → AreAsked rows numbers asked
    → AreAsked rows (numbers ++ one.number ∷ []) (asked ++ one ∷ [])
asked_more rows numbers asked one is are =
    let test = is_there (book_of rows) in
    let there : test one.number ≡ true = number_is_there rows one.rank one.number is in
    let kept : filter test (one.number ∷ []) ≡ one.number ∷ [] = rw there refl in
    record {
      names =
          map-append (λ (animal : Asked). animal.number) asked (one ∷ [])
          ∙ ap (λ names. names ++ one.number ∷ []) are.names
          ∙ ap (λ more. filter test numbers ++ more) (sym kept) ∙ sym (filter-append test numbers (one.number ∷ []));
      each = All-push (IsAsked rows) asked one are.each is;
    }

-- the number of the animal at a place
pub names-at : (asked : List Asked) (place : ℕ) (one : Asked) → slice_get asked place ≡ Some one
    → slice_get (names_of asked) place ≡ Some one.number
names-at asked place one there =
    slice_get-map (λ (animal : Asked). animal.number) asked place
    ∙ ap (option_map (λ (animal : Asked). animal.number)) there

-- each of them is one of the numbers
pub asked_named : (rows : List Row) (numbers : List (List ℕ)) (asked : List Asked) (place : ℕ) (one : Asked)
    → AreAsked rows numbers asked
    → slice_get asked place ≡ Some one → Contains numbers one.number
asked_named rows numbers asked place one are there =
    let each : All (Contains numbers) (names_of asked) =
    subst (λ names. All (Contains numbers) names) (sym are.names)
    (All-filter (is_there (book_of rows)) (Contains numbers) numbers (All-contains_itself numbers)) in
    let at : slice_get (names_of asked) place ≡ Some one.number = names-at asked place one there in
    subst (λ name. Contains numbers name) (get_or_from_slice_get (names_of asked) place one.number one.number at)
    (All-get_or (Contains numbers) (names_of asked) place one.number
    (slice_get_within (names_of asked) place one.number at) each)

-- none of no numbers
pub asked_nothing : (rows : List Row) (asked : List Asked) → asked ≡ [] → AreAsked rows [] asked
asked_nothing rows asked none = rw none (record { names = refl; each = All-nil (IsAsked rows) })

-- nothing is added for a number that is there
pub absent_line-there : (book : Book) (number text : List ℕ) → is_there book number ≡ true
    → text ≡ text ++ absent_line book number
absent_line-there book number text there = rw there (sym (append-nil text))

-- ---- lines of pairs

-- a line isn't empty
pub some_relationship_line : (x y : List ℕ) (numerator : ℕ) → 0 < length (relationship_line x y numerator)
some_relationship_line x y numerator =
    let value = halved false numerator (2 ^ (2 * DEPTH_LIMIT)) in
    some_after (x ++ codes "," ++ y ++ codes ",") (value_line_end value)
    (some_after (fraction_text value) (codes "\n") (omega arith))

-- nor are those with some partners
pub some_lines_with : (book : Book) (x : List ℕ) (partners : List (List ℕ)) → 0 < length partners
    → 0 < length (lines_with book x partners)
some_lines_with book x [] some = absurd (omega arith)
some_lines_with book x (y ∷ partners) some =
    some_before (relationship_line x y (entry (book_ancestry book) (2 * DEPTH_LIMIT) (Some x) (Some y)))
    (lines_with book x partners)
    (some_relationship_line x y (entry (book_ancestry book) (2 * DEPTH_LIMIT) (Some x) (Some y)))

-- the partners are the same where a part of a list is its end
pub partners_are : (among among' : Bool) (others others' asked asked' partners : List Asked) (place : ℕ)
    → among' ≡ among → others' ≡ others → asked' ≡ asked
    → partners ≡ partners_of among' others' (take (length asked' - place) (drop place asked'))
    → partners ≡ partners_of among others (drop place asked)
partners_are among among' others others' asked asked' partners place a o l are =
    let all : take (length asked - place) (drop place asked) ≡ drop place asked =
    rw (← length-drop place asked) (take-length (drop place asked)) in
    are ∙ rw (a, o, l) (ap (partners_of among others) all)

-- their numbers are the partners of the numbers
partners-names : (among : Bool) (others asked : List Asked) (place : ℕ)
    → names_of (partners_of among others (drop place asked))
    ≡ partners_of among (names_of others) (drop place (names_of asked))
partners-names true others asked place = sym (drop-map (λ (animal : Asked). animal.number) place asked)
partners-names false others asked place = refl

-- the lines of the first that is left, and those of the rest
pub pair_lines-next : (book : Book) (among : Bool) (others asked : List Asked) (place : ℕ) (first : Asked)
    → slice_get asked place ≡ Some first
    → pair_lines book among (names_of others) (drop place (names_of asked))
    ≡ lines_with book first.number (names_of (partners_of among others (drop place asked)))
    ++ pair_lines book among (names_of others) (drop (place + 1) (names_of asked))
pair_lines-next book among others asked place first there =
    let names = names_of asked in
    let rest = drop (place + 1) names in
    let at : slice_get names place ≡ Some first.number = names-at asked place first there in
    let split : drop place names ≡ first.number ∷ rest =
    drop_more names place first.number (slice_get_within names place first.number at)
    ∙ ap (λ name. name ∷ rest) (get_or_from_slice_get names place first.number first.number at) in
    let partners : names_of (partners_of among others (drop place asked))
    ≡ partners_of among (names_of others) (first.number ∷ rest) =
    partners-names among others asked place ∙ ap (partners_of among (names_of others)) split in
    rw (split, partners) refl

-- an animal's rank is one of the book
pub asked-within : (rows : List Row) (one : Asked) → IsAsked rows one → one.rank < length rows
asked-within rows one is =
    omega (arith, slice_get_within (numbers_of rows) one.rank one.number is, length-numbers_of rows)

-- each of some animals is asked about
pub asked-at : (rows : List Row) (asked : List Asked) (place : ℕ) (one : Asked) → All (IsAsked rows) asked
    → slice_get asked place ≡ Some one → IsAsked rows one
asked-at rows asked place one all there =
    subst (IsAsked rows) (get_or_from_slice_get asked place one one there)
    (All-get_or (IsAsked rows) asked place one (slice_get_within asked place one there) all)

-- the line with the partner that is next, and those with the partners after it
pub lines_with-next : (book : Book) (x : List ℕ) (partners : List Asked) (place : ℕ) (partner : Asked)
    → slice_get partners place ≡ Some partner
    → lines_with book x (names_of (drop place partners))
    ≡ relationship_line x partner.number
    (entry (book_ancestry book) (2 * DEPTH_LIMIT) (Some x) (Some partner.number))
    ++ lines_with book x (names_of (drop (place + 1) partners))
lines_with-next book x partners place partner there =
    let rest = drop (place + 1) partners in
    let split : drop place partners ≡ partner ∷ rest =
    drop_more partners place partner (slice_get_within partners place partner there)
    ∙ ap (λ one. one ∷ rest) (get_or_from_slice_get partners place partner partner there) in
    rw split refl

-- ---- the whole text

-- the lines of the first that is left, with these partners, and those of the rest
pub pairs_split : (book : Book) (among : Bool) (others asked : List Asked) (place : ℕ) (first : Asked)
    (partners : List Asked)
    → slice_get asked place ≡ Some first → partners ≡ partners_of among others (drop place asked)
    → pair_lines book among (names_of others) (drop place (names_of asked))
    ≡ lines_with book first.number (names_of partners)
    ++ pair_lines book among (names_of others) (drop (place + 1) (names_of asked))
pairs_split book among others asked place first partners there are =
    let rest : List ℕ = pair_lines book among (names_of others) (drop (place + 1) (names_of asked)) in
    pair_lines-next book among others asked place first there
    ∙ ap (λ found. lines_with book first.number (names_of found) ++ rest) (sym are)

-- a piece was to join what waits, and a front of both was written, and no more
pub front_grown : {old now new : Option (List ℕ)} {text waiting rest : List ℕ} (piece after : List ℕ)
    → Holds old now text waiting rest → rest ≡ piece ++ after → AppendsFront now new (waiting ++ piece)
    → AppendsFront old new text
front_grown {waiting = waiting} piece after held split front =
    front_waiting (holds_piece {pushed = waiting ++ piece} piece after held split refl) front
