-- A field, and what stands behind its comma.
use Rattle.std.proofs.Common.{◌≡◌, ◌∙◌, ℕ, List, [], ◌∷◌, ◌++◌, Option, Some, None, IfNone, refl, ap, sym, subst}
use Rattle.std.proofs.Common.{append_assoc}
use Rattle.std.proofs.lemmas.List.Elements.{All-head, All-tail}
use Rattle.herd_record_line.specs.RecordLine.{HasField, HasNo, field_text}

pub field_joined : (before behind : List ℕ) → field_text before ++ behind ≡ before ++ 44 ∷ behind
unfolding field_text
field_joined before behind = append_assoc before (44 ∷ []) behind

-- a text is cut in one way at the first of a character
pub same_cut : (character : ℕ) (a b c d : List ℕ) → HasNo character a → HasNo character c
    → a ++ character ∷ b ≡ c ++ character ∷ d
    → (a ≡ c) × (b ≡ d)
same_cut n [] b [] d pa pc e = (refl, cc)
same_cut n [] b (y ∷ c) d pa pc e = let y_is : y ≡ n = cc in absurd (All-head (λ x. x ≡ n → ⊥) y c pc y_is)
same_cut n (x ∷ a) b [] d pa pc e = let x_is : x ≡ n = cc in absurd (All-head (λ z. z ≡ n → ⊥) x a pa x_is)
same_cut n (x ∷ a) b (y ∷ c) d pa pc e =
    let rest : a ++ n ∷ b ≡ c ++ n ∷ d = cc in
    let first : x ≡ y = cc in
    let same = same_cut n a b c d (All-tail (λ z. z ≡ n → ⊥) x a pa) (All-tail (λ z. z ≡ n → ⊥) y c pc) rest in
    (ap (λ (l : List ℕ). x ∷ l) same.0 ∙ ap (λ (z : ℕ). z ∷ c) first, same.1)

-- what is cut off is the field that the text has
pub field_is : {F B : List ℕ → Type 0} (before behind text : List ℕ) → before ++ 44 ∷ behind ≡ text
    → HasNo 44 before → HasField F B text → F before
field_is {F} {B} before behind text joined plain has =
    let same = same_cut 44 before behind has.field has.behind plain has.plain (joined
    ∙ sym (sym (field_joined has.field has.behind) ∙ has.joined)) in
    subst F (sym same.0) has.is_field

pub behind_is : {F B : List ℕ → Type 0} (before behind text : List ℕ) → before ++ 44 ∷ behind ≡ text
    → HasNo 44 before → HasField F B text → B behind
behind_is {F} {B} before behind text joined plain has =
    let same = same_cut 44 before behind has.field has.behind plain has.plain (joined
    ∙ sym (sym (field_joined has.field has.behind) ∙ has.joined)) in
    subst B (sym same.1) has.is_behind

comma_in : (before behind : List ℕ) → HasNo 44 (before ++ 44 ∷ behind) → ⊥
comma_in [] behind none = All-head (λ z. z ≡ 44 → ⊥) 44 behind none refl
comma_in (x ∷ before) behind none = comma_in before behind (All-tail (λ z. z ≡ 44 → ⊥) x (before ++ 44 ∷ behind) none)

-- a text with a field has a comma
pub has_comma : {F B : List ℕ → Type 0} (text : List ℕ) → HasNo 44 text → HasField F B text → ⊥
has_comma text none has =
    comma_in has.field has.behind (subst (HasNo 44) (sym (sym (field_joined has.field has.behind) ∙ has.joined)) none)

-- it holds whatever the result is
pub if_none : {X : Type 0} (o : Option X) (P : Type 0) → P → IfNone o P
if_none None P p = p
if_none (Some x) P p = tt
