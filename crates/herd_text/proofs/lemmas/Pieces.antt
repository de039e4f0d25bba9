-- A text that is made piece by piece, one from each element of a list.
use Rattle.std.proofs.Common.{◌≡◌, ◌∙◌, ℕ, ◌+◌, ◌<◌, List, ◌++◌, length, drop, slice_get, Option, Some, ap, refl}
use Rattle.std.specs.List.{flat_map}
use Rattle.std.proofs.lemmas.List.{drop_more}
use Rattle.std.proofs.lemmas.Option.{slice_get_within, get_or_from_slice_get}
use Rattle.herd_text.proofs.lemmas.TextFacts.{Holds, front_waiting, holds_passed, holds_piece, passes_nothing, some_before}
use Rattle.herd_text.specs.Text.{AppendsFront, PassesOn}

-- the piece of the element at a rank, and those after it
pub flat_map-drop : {X A : Type 0} (f : X → List A) (xs : List X) (rank : ℕ) (x : X) → slice_get xs rank ≡ Some x
    → flat_map f (drop rank xs) ≡ f x ++ flat_map f (drop (rank + 1) xs)
flat_map-drop {X} f xs rank x there =
    ap (flat_map f) (drop_more xs rank x (slice_get_within xs rank x there))
    ∙ ap (λ (y : X). f y ++ flat_map f (drop (rank + 1) xs)) (get_or_from_slice_get xs rank x x there)

-- the piece of the element at a rank joined what waits
pub holds_element : {X : Type 0} {old now : Option (List ℕ)} {text waiting pushed : List ℕ} (f : X → List ℕ) (xs : List X) (rank : ℕ) (x : X)
    → Holds old now text waiting (flat_map f (drop rank xs)) → slice_get xs rank ≡ Some x → pushed ≡ waiting ++ f x
    → Holds old now text pushed (flat_map f (drop (rank + 1) xs))
holds_element f xs rank x held there joined =
    holds_piece (f x) (flat_map f (drop (rank + 1) xs)) held (flat_map-drop f xs rank x there) joined

-- the piece of the element at a rank is still to be made
pub some_left : {X : Type 0} (f : X → List ℕ) (xs : List X) (rank : ℕ) (x : X) → slice_get xs rank ≡ Some x → 0 < length (f x)
    → 0 < length (flat_map f (drop rank xs))
some_left f xs rank x there some = rw (flat_map-drop f xs rank x there) (some_before (f x) (flat_map f (drop (rank + 1) xs)) some)

-- ---- pieces of which some was passed on while they were made

-- what waits was made first, and the rest isn't made yet
pub holds_made : (known : Option (List ℕ)) (waiting rest : List ℕ) → Holds known known (waiting ++ rest) waiting rest
holds_made known waiting rest = record { passed = passes_nothing known (waiting ++ rest) }

-- a piece joined what waits, and of both some was passed on
pub holds_grown : {old now new : Option (List ℕ)} {text waiting rest left : List ℕ} (piece after : List ℕ)
    → Holds old now text waiting rest → rest ≡ piece ++ after → PassesOn now new (waiting ++ piece) left → Holds old new text left after
holds_grown {waiting = waiting} piece after held split passed = holds_passed (holds_piece {pushed = waiting ++ piece} piece after held split refl) passed

-- a piece was to join what waits, and a front of both was written, and no more
pub front_grown : {old now new : Option (List ℕ)} {text waiting rest : List ℕ} (piece after : List ℕ)
    → Holds old now text waiting rest → rest ≡ piece ++ after → AppendsFront now new (waiting ++ piece) → AppendsFront old new text
front_grown {waiting = waiting} piece after held split front = front_waiting (holds_piece {pushed = waiting ++ piece} piece after held split refl) front
