-- What is read to its end, and what is printed row by row.
use Rattle.std.proofs.Common.{◌≡◌, ◌∙◌, ℕ, ◌+◌, ◌≤◌, List, [], ◌++◌, length, drop, take, slice_get, min}
use Rattle.std.proofs.Common.{Bool, true, false, Option, Some, None, IfSome, Result, Ok, Err, ap, sym, subst, arith, append_assoc}
use Rattle.std.proofs.lemmas.List.{length-take, take_all}
use Rattle.std.specs.List.{flat_map}
use Rattle.std.specs.Io.Take.{take_inner, take_limit, take_remaining}
use Rattle.std.specs.declared.io.traits.Take.{Take}
use Rattle.herd_text.proofs.lemmas.Pieces.{flat_map-drop}
use Rattle.std.specs.Option.{option_map}
use Rattle.std.specs.Prelude.{IfOk, OnOk}
use Rattle.herd_seal.specs.Answer.{IsReasoned, IsRefusedFor, refused_text}
use Rattle.herd_seal.specs.declared.check_fault.CheckFault.{CheckFault}

-- a text that is shorter than what is taken is the whole
whole_taken : (bytes items : List ℕ) (n : ℕ) → items ≡ take (n + 1) bytes → length items ≤ n → items ≡ bytes
whole_taken bytes items n is short =
    let long : length items ≡ min (n + 1) (length bytes) = ap length is ∙ length-take (n + 1) bytes in
    is ∙ take_all (n + 1) bytes (omega (arith, long, short))

known_whole : (known : Option (List ℕ)) (items : List ℕ) (n : ℕ) → length items ≤ n
    → IfSome (option_map (take (n + 1)) known) (λ (xs : List ℕ). items ≡ xs) → IfSome known (λ bytes. items ≡ bytes)
known_whole None items n short is = tt
known_whole (Some bytes) items n short is = whole_taken bytes items n is short

pub whole_read : {R : Type 0} (remaining : R → Option (List ℕ)) (t : Take R) (reader : R) (start items : List ℕ) (n : ℕ)
    → take_limit t ≡ n + 1 → take_inner t ≡ reader → start ≡ [] → length items ≤ n
    → IfSome (take_remaining remaining t) (λ (xs : List ℕ). items ≡ start ++ xs) → IfSome (remaining reader) (λ bytes. items ≡ bytes)
whole_read {R} remaining t reader start items n limit inner none short is =
    let bare : IfSome (take_remaining remaining t) (λ (xs : List ℕ). items ≡ xs) = subst (λ (l : List ℕ). IfSome (take_remaining remaining t) (λ (xs : List ℕ). items ≡ l ++ xs)) none is in
    let limited : IfSome (option_map (take (n + 1)) (remaining t.inner)) (λ (xs : List ℕ). items ≡ xs) =
    subst (λ (k : ℕ). IfSome (option_map (take k) (remaining t.inner)) (λ (xs : List ℕ). items ≡ xs)) limit bare in
    subst (λ (r : R). IfSome (remaining r) (λ bytes. items ≡ bytes)) inner (known_whole (remaining t.inner) items n short limited)

-- what follows for any bytes follows for those that are known
pub if_known_too : (P Q : List ℕ → Type 0) (known : Option (List ℕ)) → ((bytes : List ℕ) → P bytes → Q bytes)
    → IfSome known P → IfSome known Q
if_known_too P Q None more is = tt
if_known_too P Q (Some bytes) more is = more bytes is

-- where a fault is printed it is told why
pub refused_why : {E : Type 0} (seal bytes printed : List ℕ) (fault : CheckFault) (result : Result Bool E)
    → OnOk result (printed ≡ refused_text fault) → IsRefusedFor seal bytes fault
    → IfOk result (λ accepted. IsReasoned seal bytes accepted printed)
refused_why seal bytes printed fault (Ok true) text why = tt
refused_why seal bytes printed fault (Ok false) text why = (fault, why, text)
refused_why seal bytes printed fault (Err e) text why = tt

-- one piece more
pub piece_more : {X : Type 0} (f : X → List ℕ) (xs : List X) (rank : ℕ) (x : X) (text new whole : List ℕ) → slice_get xs rank ≡ Some x
    → text ++ flat_map f (drop rank xs) ≡ whole → new ≡ text ++ f x → new ++ flat_map f (drop (rank + 1) xs) ≡ whole
piece_more f xs rank x text new whole there so_far grown =
    ap (λ (l : List ℕ). l ++ flat_map f (drop (rank + 1) xs)) grown ∙ append_assoc text (f x) (flat_map f (drop (rank + 1) xs))
    ∙ ap (λ (l : List ℕ). text ++ l) (sym (flat_map-drop f xs rank x there)) ∙ so_far
