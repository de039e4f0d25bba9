-- Texts of nineteen characters are equal where their first eight, next eight and last eight characters are.
use Rattle.std.proofs.Common.{◌≡◌, ℕ, ◌+◌, ◌-◌, ◌<◌, ◌≤◌, List, take, drop, get_or, arith, refl, subst, sym, ap, ◌∙◌, ⊎_elim}
use Rattle.std.specs.Int.{w64, to_le_bytes}
use Rattle.std.proofs.lemmas.Bool.{cases_lt, cases_eq}
use Rattle.std.proofs.lemmas.List.{ext_get_or, get_or-take, get_or-drop, get_or_past, length-take, length-drop}
use Rattle.std.proofs.lemmas.Nat.{le_bytes_8}
use Rattle.herd_animal.specs.AnimalNumber.{IsAnimalNumber}
use Rattle.herd_animal.specs.Pieces.{piece}

-- a character is a byte
byte : (text : List ℕ) → IsAnimalNumber text → (i : ℕ) → i < 19 → get_or text i 0 < 256
byte text is i low =
    let right = is.right i (let l = is.long in omega (arith, l)) in
    ⊎_elim
    (λ (letter : i < 6). let l = right.letter letter in omega (arith, l.0, l.1))
    (λ (later : 6 ≤ i).
    ⊎_elim
    (λ (sex : i ≡ 6). ⊎_elim (λ m. omega (arith, m)) (λ f. omega (arith, f)) (right.sex sex))
    (λ (other : i ≡ 6 → ⊥).
    ⊎_elim (λ l. omega (arith, l.0, l.1)) (λ d. omega (arith, d.0, d.1)) (right.own (omega (arith, other))))
    (cases_eq i 6))
    (cases_lt i 6)

module _ (a b : List ℕ) (first : IsAnimalNumber a) (second : IsAnimalNumber b) where
  -- eight characters are told by their number
  eight : (text : List ℕ) → IsAnimalNumber text → (place : ℕ) → place ≤ 11 → to_le_bytes w64 (piece place text) ≡ take 8 (drop place text)
  eight text is place low =
      le_bytes_8 (take 8 (drop place text)) (piece place text) (let l = is.long in rw (length-take, length-drop) omega (arith, l))
      (λ i. ⊎_elim
      (λ (near : i < 8). rw (get_or-take 8 (drop place text) i 0 near, get_or-drop place text i 0) (byte text is (place + i) (omega arith)))
      (λ (far : 8 ≤ i). rw (get_or_past (take 8 (drop place text)) i 0 (let l = is.long in rw (length-take, length-drop) omega (arith, l))) (omega arith))
      (cases_lt i 8))
      refl

  within : (place : ℕ) → place ≤ 11 → piece place a ≡ piece place b → (i : ℕ) → i < 8 → get_or a (place + i) 0 ≡ get_or b (place + i) 0
  within place low same i near =
      let lists : take 8 (drop place a) ≡ take 8 (drop place b) =
      sym (eight a first place low) ∙ (ap (to_le_bytes w64) same ∙ eight b second place low) in
      sym (get_or-take 8 (drop place a) i 0 near ∙ get_or-drop place a i 0)
      ∙ (ap (λ text. get_or text i 0) lists ∙ (get_or-take 8 (drop place b) i 0 near ∙ get_or-drop place b i 0))

  -- the same, by the place in the text
  there : (place : ℕ) → place ≤ 11 → piece place a ≡ piece place b → (i : ℕ) → place ≤ i → i < place + 8 → get_or a i 0 ≡ get_or b i 0
  there place low same i from near =
      let e : place + (i - place) ≡ i = omega arith in
      subst (λ v. get_or a v 0 ≡ get_or b v 0) e (within place low same (i - place) (omega arith))

  pub same-pieces : piece 0 a ≡ piece 0 b → piece 8 a ≡ piece 8 b → piece 11 a ≡ piece 11 b → a ≡ b
  same-pieces front middle last =
      ext_get_or 0 a b (first.long ∙ sym second.long)
      (λ i low.
      ⊎_elim
      (λ (near : i < 8). there 0 (omega arith) front i (omega arith) near)
      (λ (far : 8 ≤ i).
      ⊎_elim
      (λ (near : i < 16). there 8 (omega arith) middle i far near)
      (λ (far : 16 ≤ i). let l = first.long in there 11 (omega arith) last i (omega (arith, far)) (omega (arith, l, low)))
      (cases_lt i 16))
      (cases_lt i 8))
