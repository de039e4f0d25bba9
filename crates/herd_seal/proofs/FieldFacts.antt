-- The places that a row tells are those that were written.
use Rattle.std.proofs.Common.{◌≡◌, ◌∙◌, ℕ, suc, ◌+◌, ◌<◌, ◌^◌, not, List, [], ◌∷◌, ◌++◌, length, take, drop, decimal, Option, Some, None, refl, sym, ap, arith, append_assoc, length-append, take_at, drop_at, get_or}
use Rattle.std.specs.List.{All}
use Rattle.std.specs.Option.{ForSome}
use Rattle.std.proofs.lemmas.Bool.{cond-true, cond-false, ne_eqb}
use Rattle.std.proofs.lemmas.Fmt.{decimal_is_IsNumeral, decimal_nonempty}
use Rattle.std.proofs.lemmas.Grind.{get_or_default_zero}
use Rattle.std.proofs.lemmas.List.Elements.{All-head, All-tail, All-nil}
use Rattle.std.proofs.lemmas.Str.Parse.{digit_at}
use Rattle.herd_frozen.specs.declared.rules.animal.Animal.{Animal}
use Rattle.herd_record_line.specs.RecordLine.{comma_place, field_text, record_text}
use Rattle.herd_seal.specs.Seal.{place_text, row_text}
use Rattle.herd_seal.specs.Certificate.{behind_field, dam_told, first_field, place_in, sire_told}

abbrev HasNoComma : List ℕ → Type 0
HasNoComma text = All (λ c. c ≡ 44 → ⊥) text

comma_behind : (front rest : List ℕ) → HasNoComma front → comma_place (front ++ (44 ∷ rest)) ≡ length front
comma_behind [] rest none = refl
comma_behind (c ∷ front) rest none =
    let one_more : 1 + comma_place (front ++ (44 ∷ rest)) ≡ suc (comma_place (front ++ (44 ∷ rest))) = omega arith in
    cond-true _ _ _ (ap not (ne_eqb c 44 (All-head (λ x. x ≡ 44 → ⊥) c front none))) ∙ one_more
    ∙ ap (λ (n : ℕ). suc n) (comma_behind front rest (All-tail (λ x. x ≡ 44 → ⊥) c front none))

first_is : (front rest : List ℕ) → HasNoComma front → first_field (front ++ (44 ∷ rest)) ≡ front
first_is front rest none = ap (λ (n : ℕ). take n (front ++ (44 ∷ rest))) (comma_behind front rest none) ∙ take_at front (44 ∷ rest) (length front) refl

behind_is : (front rest : List ℕ) → HasNoComma front → behind_field (front ++ (44 ∷ rest)) ≡ rest
behind_is front rest none =
    ap (λ (n : ℕ). drop (n + 1) (front ++ (44 ∷ rest))) (comma_behind front rest none)
    ∙ ap (λ (l : List ℕ). drop (length front + 1) l) (sym (append_assoc front (44 ∷ []) rest))
    ∙ drop_at (front ++ (44 ∷ [])) rest (length front + 1) (length-append front (44 ∷ []))

decimal_plain : (n : ℕ) → n < 2 ^ 64 → HasNoComma (decimal n)
decimal_plain n small = λ k d within e.
    let range = digit_at (decimal n) k (decimal_is_IsNumeral n small).0.1 within in
    let same : get_or (decimal n) k 0 ≡ 44 = sym (get_or_default_zero (decimal n) k d within) ∙ e in
    absurd (omega (arith, range, same))

place_plain : (place : Option ℕ) → ForSome place (λ p. p < 2 ^ 64) → HasNoComma (place_text place)
place_plain None small = All-nil (λ c. c ≡ 44 → ⊥)
place_plain (Some p) small = decimal_plain p (small p refl)

place_again : (place : Option ℕ) → ForSome place (λ p. p < 2 ^ 64) → place_in (place_text place) ≡ place
place_again None small = refl
place_again (Some p) small =
    let low = small p refl in
    let some = decimal_nonempty p low in
    cond-false _ _ _ (ne_eqb (length (decimal p)) 0 (λ e. absurd (omega (arith, some, e)))) ∙ ap (λ (n : ℕ). Some n) (decimal_is_IsNumeral p low).1

row_parts : (sire dam : Option ℕ) (number : List ℕ) (animal : Animal)
    → row_text sire dam number animal ≡ place_text sire ++ (44 ∷ (place_text dam ++ (44 ∷ record_text number animal)))
unfolding row_text field_text
row_parts sire dam number animal =
    let s = place_text sire in
    let d = place_text dam in
    let r = record_text number animal in
    append_assoc (s ++ (44 ∷ [])) (d ++ (44 ∷ [])) r
    ∙ append_assoc s (44 ∷ []) ((d ++ (44 ∷ [])) ++ r)
    ∙ ap (λ (l : List ℕ). s ++ (44 ∷ l)) (append_assoc d (44 ∷ []) r)

pub sire_again : (sire dam : Option ℕ) (number : List ℕ) (animal : Animal) → ForSome sire (λ p. p < 2 ^ 64) → sire_told (row_text sire dam number animal) ≡ sire
unfolding sire_told
sire_again sire dam number animal small =
    ap (λ (l : List ℕ). place_in (first_field l)) (row_parts sire dam number animal)
    ∙ ap (λ (l : List ℕ). place_in l) (first_is (place_text sire) _ (place_plain sire small))
    ∙ place_again sire small

pub dam_again : (sire dam : Option ℕ) (number : List ℕ) (animal : Animal) → ForSome sire (λ p. p < 2 ^ 64) → ForSome dam (λ p. p < 2 ^ 64) → dam_told (row_text sire dam number animal) ≡ dam
unfolding dam_told
dam_again sire dam number animal small_sire small_dam =
    ap (λ (l : List ℕ). place_in (first_field (behind_field l))) (row_parts sire dam number animal)
    ∙ ap (λ (l : List ℕ). place_in (first_field l)) (behind_is (place_text sire) _ (place_plain sire small_sire))
    ∙ ap (λ (l : List ℕ). place_in l) (first_is (place_text dam) _ (place_plain dam small_dam))
    ∙ place_again dam small_dam
