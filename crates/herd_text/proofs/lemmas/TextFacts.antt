-- How a text goes to a writer, a part at a time.
use Rattle.std.proofs.Common.{◌≡◌, ◌∙◌, ℕ, ◌-◌, ◌<◌, ◌≤◌, List, [], ◌++◌, length, take, drop, Option, refl, ap, sym, subst, append_assoc, length-append, arith}
use Rattle.std.proofs.KnownBytes.{Appends-nil, Appends-trans}
use Rattle.std.proofs.Math.Seq.{take-length}
use Rattle.std.proofs.lemmas.List.{append-nil, length-drop, take-append-drop}
use Rattle.std.specs.Io.KnownBytes.{Appends}
use Rattle.herd_text.specs.Text.{AppendsFront, PassesOn}

-- nothing is written yet
pub passes_nothing : (known : Option (List ℕ)) (text : List ℕ) → PassesOn known known text text
passes_nothing known text = record { front = []; split = refl; written = Appends-nil known }

-- a writer that passed on a front of the text passes on a front of the rest
pub passes_more : {old now new : Option (List ℕ)} {text rest left : List ℕ} → PassesOn old now text rest → PassesOn now new rest left
    → PassesOn old new text left
passes_more {old} {now} {new} {text} {rest} {left} first second = record {
  front = first.front ++ second.front;
  split = append_assoc first.front second.front left ∙ ap (λ l. first.front ++ l) second.split ∙ first.split;
  written = Appends-trans old now new first.front second.front first.written second.written;
}

-- what follows the text is left with the rest
pub passes_before : {now new : Option (List ℕ)} {text rest : List ℕ} (after : List ℕ) → PassesOn now new text rest
    → PassesOn now new (text ++ after) (rest ++ after)
passes_before {now} {new} {text} {rest} after passed = record {
  front = passed.front;
  split = sym (append_assoc passed.front rest after) ∙ ap (λ l. l ++ after) passed.split;
  written = passed.written;
}

-- a front of the text was passed on, its end still waits, and the rest of the text isn't made yet
pub record Holds (old now : Option (List ℕ)) (text waiting rest : List ℕ) : Type 0 where
  pub passed : PassesOn old now text (waiting ++ rest)

-- nothing is made yet
pub holds_nothing : (known : Option (List ℕ)) (text : List ℕ) → Holds known known text [] text
holds_nothing known text = record { passed = passes_nothing known text }

-- a piece joined what waits
pub holds_piece : {old now : Option (List ℕ)} {text waiting rest pushed : List ℕ} (piece after : List ℕ)
    → Holds old now text waiting rest → rest ≡ piece ++ after → pushed ≡ waiting ++ piece → Holds old now text pushed after
holds_piece {old} {now} {text} {waiting} {rest} {pushed} piece after held split joined =
    let whole : waiting ++ rest ≡ pushed ++ after =
    ap (λ l. waiting ++ l) split ∙ sym (append_assoc waiting piece after) ∙ ap (λ l. l ++ after) (sym joined) in
    record { passed = subst (PassesOn old now text) whole held.passed }

-- some of what waits was passed on
pub holds_passed : {old now new : Option (List ℕ)} {text waiting rest left : List ℕ} → Holds old now text waiting rest
    → PassesOn now new waiting left → Holds old new text left rest
holds_passed {rest = rest} held passed = record { passed = passes_more held.passed (passes_before rest passed) }

-- a text is longer than nothing where a part of it is
pub some_before : (x y : List ℕ) → 0 < length x → 0 < length (x ++ y)
some_before x y some = omega (arith, length-append x y)

pub some_after : (x y : List ℕ) → 0 < length y → 0 < length (x ++ y)
some_after x y some = omega (arith, length-append x y)

-- what was passed on is a front of the text, where some of it isn't made yet
pub front_passed : {old now : Option (List ℕ)} {text waiting rest : List ℕ} → Holds old now text waiting rest → 0 < length rest
    → AppendsFront old now text
front_passed {waiting = waiting} {rest = rest} held some =
    record { rest = waiting ++ rest; left = some_after waiting rest some; passed = held.passed }

-- and so is nothing
pub front_nothing : (known : Option (List ℕ)) (text : List ℕ) → 0 < length text → AppendsFront known known text
front_nothing known text some = front_passed (holds_nothing known text) some

-- with a front of what waits it is one too
pub front_waiting : {old now new : Option (List ℕ)} {text waiting rest : List ℕ} → Holds old now text waiting rest
    → AppendsFront now new waiting → AppendsFront old new text
front_waiting {rest = rest} held front =
    record { rest = front.rest ++ rest; left = some_before front.rest rest front.left; passed = (holds_passed held front.passed).passed }

-- the whole text is made, and what waited was written
pub appends_waiting : {old now : Option (List ℕ)} {text waiting : List ℕ} (new : Option (List ℕ)) → Holds old now text waiting []
    → Appends now new waiting → Appends old new text
appends_waiting {old} {now} {text} {waiting} new held written =
    let whole : held.passed.front ++ waiting ≡ text =
    ap (λ l. held.passed.front ++ l) (sym (append-nil waiting)) ∙ held.passed.split in
    subst (Appends old new) whole (Appends-trans old now new held.passed.front waiting held.passed.written written)

-- of the bytes that are left, so many more were written
pub passes_count : {old now new : Option (List ℕ)} {bytes rest : List ℕ} (count : ℕ) → count ≤ length rest → PassesOn old now bytes rest
    → Appends now new (take count rest) → PassesOn old new bytes (take (length rest - count) (drop count rest))
passes_count {old} {now} {new} {bytes} {rest} count within held written =
    let all : take (length rest - count) (drop count rest) ≡ drop count rest =
    rw (← length-drop count rest) (take-length (drop count rest)) in
    rw all (passes_more held (record { front = take count rest; split = take-append-drop count rest; written = written }))
