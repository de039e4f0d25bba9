-- Texts of several pieces.
use Rattle.std.proofs.Common.{◌≡◌, ◌∙◌, ℕ, zero, suc, ◌<◌, List, [], ◌∷◌, ◌++◌, drop, ap, sym, refl, arith, append_assoc, get_or, length, take, Bor, Option, Result, Ok, Err, subst}
use Rattle.std.proofs.KnownBytes.{Appends-trans}
use Rattle.std.proofs.lemmas.List.{append-nil}
use Rattle.std.specs.List.{flat_map}
use Rattle.std.specs.Prelude.{OnOk}
use Rattle.std.specs.Io.KnownBytes.{Appends}
use Rattle.herd_text.proofs.lemmas.TextFacts.{passes_before}
use Rattle.herd_text.specs.Text.{AppendsFront, PassesOn}

-- pieces before a place, the one there, and those behind it are all
pieces_split : (pieces : List (Bor (List ℕ))) (place : ℕ) (other : Bor (List ℕ)) → place < length pieces
    → flat_map (λ piece. piece.now) (take place pieces)
    ++ ((get_or pieces place other).now ++ flat_map (λ piece. piece.now) (drop (suc place) pieces))
    ≡ flat_map (λ piece. piece.now) pieces
pieces_split [] place other within = absurd (omega arith)
pieces_split (piece ∷ more) zero other within = refl
pieces_split (piece ∷ more) (suc place) other within =
    let text : Bor (List ℕ) → List ℕ = λ p. p.now in
    append_assoc piece.now (flat_map text (take place more)) ((get_or more place other).now ++ flat_map text (drop (suc place) more))
    ∙ ap (λ l. piece.now ++ l) (pieces_split more place other (omega arith))

-- a text that was written was passed on
pub passed_whole : (old new : Option (List ℕ)) (text : List ℕ) → Appends old new text → PassesOn old new text []
passed_whole old new text written = record { front = text; split = append-nil text; written = written }

-- what is passed on behind a text that was written
pub passed_behind : (old now new : Option (List ℕ)) (one other rest : List ℕ) → Appends old now one
    → PassesOn now new other rest → PassesOn old new (one ++ other) rest
passed_behind old now new one other rest written passed = record {
  front = one ++ passed.front;
  split = append_assoc one passed.front rest ∙ ap (λ l. one ++ l) passed.split;
  written = Appends-trans old now new one passed.front written passed.written;
}

-- pieces were written up to one of which a front was
pub passed_within : (old now new : Option (List ℕ)) (pieces : List (Bor (List ℕ))) (place : ℕ) (other : Bor (List ℕ))
    → place < length pieces → Appends old now (flat_map (λ piece. piece.now) (take place pieces))
    → AppendsFront now new (get_or pieces place other).now
    → (rest : List ℕ) × PassesOn old new (flat_map (λ piece. piece.now) pieces) rest
passed_within old now new pieces place other within written front =
    let text : Bor (List ℕ) → List ℕ = λ p. p.now in
    let after = flat_map text (drop (suc place) pieces) in
    let whole = passed_behind old now new (flat_map text (take place pieces)) ((get_or pieces place other).now ++ after) (front.rest ++ after)
    written (passes_before after front.passed) in
    (front.rest ++ after, subst (λ l. PassesOn old new l (front.rest ++ after)) (pieces_split pieces place other within) whole)

-- what holds anyway holds where a call was right
pub on_ok : {T E P : Type 0} (result : Result T E) → P → OnOk result P
on_ok (Ok value) holds = holds
on_ok (Err fault) holds = tt

-- four texts, joined from either end
pub joined_four : (one two three four : List ℕ) → one ++ (two ++ (three ++ four)) ≡ one ++ two ++ three ++ four
joined_four one two three four = sym (append_assoc (one ++ two) three four ∙ append_assoc one two (three ++ four))
