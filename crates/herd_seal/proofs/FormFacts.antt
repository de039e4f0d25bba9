-- A certificate has one form: its text is read, and is that of no other.
use Rattle.std.proofs.Common.{◌≡◌, ◌≢◌, ◌⊎◌, ◌∙◌, inl, inr, ℕ, ◌<◌, ◌/◌, ◌%◌, ◌^◌, Bool}
use Rattle.std.proofs.Common.{true, false}
use Rattle.std.proofs.Common.{not, ◌&&◌, eqb, List, [], ◌∷◌, ◌++◌, length, decimal, slice_index, codes, Option}
use Rattle.std.proofs.Common.{Some, None, Result, Ok, refl, sym, ap, subst, arith, append_assoc, append-nil}
use Rattle.std.proofs.Common.{length-append}
use Rattle.std.specs.List.{All, flat_map}
use Rattle.std.specs.Option.{ForSome}
use Rattle.std.proofs.lemmas.Bool.{and_parts, eq-eqb}
use Rattle.std.proofs.lemmas.Fmt.{decimal_injective, decimal_nonempty}
use Rattle.std.proofs.lemmas.List.Elements.{All-cons, All-head, All-nil, All-tail}
use Rattle.hex.specs.Hex.{encode_lower, encode_with, hex_digit_value, lower_digits}
use Rattle.hex.specs.declared.error.FromHexError.{FromHexError}
use Rattle.hex.proofs.HexLemmas.{IsDigits-lower_digits}
use Rattle.merkle_tree.specs.Tree.{IsBytes, IsDigest}
use Rattle.herd_frozen.specs.declared.rules.animal.Animal.{Animal}
use Rattle.herd_record_line.specs.RecordLine.{HasField, HasNo, field_text, record_text}
use Rattle.herd_record_line.proofs.CutFacts.{field_joined, has_comma, same_cut}
use Rattle.herd_record_line.proofs.RecordFacts.{decimal_plain, joined_plain, number_plain, record-is_text, record-same}
use Rattle.herd_record_line.proofs.RecordFacts.{record_plain}
use Rattle.herd_seal.specs.CertificateText.{certificate_text, digest_line, header_line, place_line, row_line}
use Rattle.herd_seal.specs.CheckCause.{no_memory}
use Rattle.herd_seal.specs.CheckFaults.{IsUnread}
use Rattle.herd_seal.specs.Reading.{HasComma, HasLine, IsDigestText, IsHeaderText, IsNoDigestBehind, IsNoRowText}
use Rattle.herd_seal.specs.Reading.{IsParentText, IsRowText, IsTextOf, IsUnreadBehind, IsWrittenHeader}
use Rattle.herd_seal.specs.Reading.{IsWrittenRow, Parts}
use Rattle.herd_seal.specs.Seal.{place_text, row_text}
use Rattle.herd_seal.specs.declared.certificate.CertifiedRow.{CertifiedRow}
use Rattle.herd_seal.specs.declared.certificate.Claim.{Claim}
use Rattle.herd_seal.specs.declared.check_fault.CheckFault.{CheckFault}
use Rattle.herd_seal.proofs.ReadingFacts.{decoded, first_line}

-- ---- fields

-- a test whether a text lacks a character
lacks : ℕ → List ℕ → Bool
lacks character [] = true
lacks character (x ∷ xs) = not (eqb x character) && lacks character xs

not_true : (b : Bool) → not b ≡ true → b ≡ true → ⊥
not_true true is other = absurd (cc)
not_true false is other = absurd (cc)

lacks-no : (character : ℕ) (text : List ℕ) → lacks character text ≡ true → HasNo character text
unfolding lacks
lacks-no character [] is = All-nil (λ c. c ≢ character)
lacks-no character (x ∷ xs) is =
    let parts = and_parts (not (eqb x character)) (lacks character xs) is in
    All-cons (λ c. c ≢ character) x xs (λ e. not_true (eqb x character) parts.0 (eq-eqb x character e))
    (lacks-no character xs parts.1)

-- no digit is below 48
high_digit : (c d character : ℕ) → character < 48 → hex_digit_value c ≡ Some d → c ≢ character
high_digit c d character low is = λ same.
    let small : c < 48 = omega (arith, same, low) in absurd (grind (arith, is, small))

hex_plain_bytes : (character : ℕ) (bytes : List ℕ) → character < 48 → IsBytes bytes
    → HasNo character (encode_lower bytes)
unfolding encode_with
hex_plain_bytes character [] low all = All-nil (λ c. c ≢ character)
hex_plain_bytes character (b ∷ bytes) low all =
    let small = All-head (λ x. x < 256) b bytes all in
    let one = b / 16 in
    let two = b % 16 in
    let high = high_digit (slice_index lower_digits one) one character low
    (IsDigits-lower_digits one (omega (arith, small))) in
    let rest = high_digit (slice_index lower_digits two) two character low (IsDigits-lower_digits two (omega arith)) in
    All-cons (λ c. c ≢ character) (slice_index lower_digits one) (slice_index lower_digits two ∷ encode_lower bytes)
    high
    (All-cons (λ c. c ≢ character) (slice_index lower_digits two) (encode_lower bytes) rest
    (hex_plain_bytes character bytes low (All-tail (λ x. x < 256) b bytes all)))

hex_plain : (character : ℕ) (digest : List ℕ) → character < 48 → IsDigest digest
    → HasNo character (encode_lower digest)
hex_plain character digest low is = hex_plain_bytes character digest low is.0

hex_same : (a b : List ℕ) → IsDigest a → IsDigest b → encode_lower a ≡ encode_lower b → a ≡ b
hex_same a b is_a is_b e =
    let one = decoded (encode_lower a) (a, is_a, refl) in
    let two = decoded (encode_lower a) (b, is_b, sym e) in
    let both : ◌≡◌ {A = Result (List ℕ) FromHexError} (Ok a) (Ok b) = sym one ∙ two in
    cc

wide : (n : ℕ) → n < 2 ^ 32 → n < 2 ^ 64
wide n small = omega (arith, small)

number_same : (m n : ℕ) → m < 2 ^ 32 → n < 2 ^ 32 → decimal m ≡ decimal n → m ≡ n
number_same m n small_m small_n e = decimal_injective m n (wide m small_m) (wide n small_n) e

place_plain : (character : ℕ) (place : Option ℕ) → character < 48 → ForSome place (λ p. p < 2 ^ 32)
    → HasNo character (place_text place)
place_plain character None low small = All-nil (λ c. c ≢ character)
place_plain character (Some p) low small = decimal_plain character p (wide p (small p refl)) low

place_same : (a b : Option ℕ) → ForSome a (λ p. p < 2 ^ 32) → ForSome b (λ p. p < 2 ^ 32)
    → place_text a ≡ place_text b → a ≡ b
place_same None None small_a small_b e = refl
place_same None (Some q) small_a small_b e =
    let some = decimal_nonempty q (wide q (small_b q refl)) in
    let same = ap length e in
    absurd (omega (arith, some, same))
place_same (Some p) None small_a small_b e =
    let some = decimal_nonempty p (wide p (small_a p refl)) in
    let same = ap length e in
    absurd (omega (arith, some, same))
place_same (Some p) (Some q) small_a small_b e =
    ap (λ (n : ℕ). Some n) (number_same p q (small_a p refl) (small_b q refl) e)

field_of : {F B : List ℕ → Type 0} (field behind : List ℕ) → HasNo 44 field → F field → B behind
    → HasField F B (field ++ 44 ∷ behind)
field_of field behind plain is_field is_behind = record {
  field = field;
  behind = behind;
  joined = field_joined field behind;
  plain = plain;
  is_field = is_field;
  is_behind = is_behind;
}

parent-text : (place : Option ℕ) → ForSome place (λ p. p < 2 ^ 32) → IsParentText (place_text place)
parent-text None small = inl refl
parent-text (Some p) small = inr (p, small p refl, refl)

-- ---- the line of a row, without its end

abbrev row_told : CertifiedRow → List ℕ
row_told row =
    decimal row.place
    ++ 44 ∷ (place_text row.sire ++ 44 ∷ (place_text row.dam ++ 44 ∷ record_text row.record.number row.record.animal))

row_is : (row : CertifiedRow) → row_line row ≡ row_told row ++ (10 ∷ [])
unfolding place_line row_text field_text
row_is row = simp append_assoc

row_plain : (row : CertifiedRow) → IsWrittenRow row → HasNo 10 (row_told row)
row_plain row is =
    joined_plain 10 (decimal row.place) _ (omega arith)
    (decimal_plain 10 row.place (wide row.place is.place) (omega arith))
    (joined_plain 10 (place_text row.sire) _ (omega arith) (place_plain 10 row.sire (omega arith) is.sire)
    (joined_plain 10 (place_text row.dam) _ (omega arith) (place_plain 10 row.dam (omega arith) is.dam)
    (record_plain 10 row.record.number row.record.animal (omega arith) is.told)))

row-text : (row : CertifiedRow) → IsWrittenRow row → IsRowText (row_told row)
row-text row is =
    field_of (decimal row.place) _ (decimal_plain 44 row.place (wide row.place is.place) (omega arith))
    (row.place, is.place, refl)
    (field_of (place_text row.sire) _ (place_plain 44 row.sire (omega arith) is.sire) (parent-text row.sire is.sire)
    (field_of (place_text row.dam) _ (place_plain 44 row.dam (omega arith) is.dam) (parent-text row.dam is.dam)
    (record-is_text row.record.number row.record.animal is.told)))

row_has_comma : (row : CertifiedRow) → IsWrittenRow row → HasComma (row_told row)
row_has_comma row is = λ none. has_comma (row_told row) none (row-text row is)

abbrev made_row : ℕ → Option ℕ → Option ℕ → List ℕ → Animal → CertifiedRow
made_row place sire dam number animal =
    record { place = place; sire = sire; dam = dam; «record» = record { number = number; animal = animal } }

row_same : (x y : CertifiedRow) → IsWrittenRow x → IsWrittenRow y → row_told x ≡ row_told y → x ≡ y
row_same x y is_x is_y e =
    let c1 = same_cut 44 (decimal x.place) _ (decimal y.place) _
    (decimal_plain 44 x.place (wide x.place is_x.place) (omega arith))
    (decimal_plain 44 y.place (wide y.place is_y.place) (omega arith)) e in
    let c2 = same_cut 44 (place_text x.sire) _ (place_text y.sire) _ (place_plain 44 x.sire (omega arith) is_x.sire)
    (place_plain 44 y.sire (omega arith) is_y.sire) c1.1 in
    let c3 = same_cut 44 (place_text x.dam) _ (place_text y.dam) _ (place_plain 44 x.dam (omega arith) is_x.dam)
    (place_plain 44 y.dam (omega arith) is_y.dam) c2.1 in
    let place = number_same x.place y.place is_x.place is_y.place c1.0 in
    let sire = place_same x.sire y.sire is_x.sire is_y.sire c2.0 in
    let dam = place_same x.dam y.dam is_x.dam is_y.dam c3.0 in
    let told = record-same x.record.number y.record.number x.record.animal y.record.animal is_x.told is_y.told c3.1 in
    ap (λ (p : ℕ). made_row p x.sire x.dam x.record.number x.record.animal) place
    ∙ ap (λ (p : Option ℕ). made_row y.place p x.dam x.record.number x.record.animal) sire
    ∙ ap (λ (p : Option ℕ). made_row y.place y.sire p x.record.number x.record.animal) dam
    ∙ ap (λ (n : List ℕ). made_row y.place y.sire y.dam n x.record.animal) told.0
    ∙ ap (λ (a : Animal). made_row y.place y.sire y.dam y.record.number a) told.1

-- ---- the header, without its end

abbrev kind : List ℕ
kind = codes "herdbook-certificate-1"

kind_line : HasNo 10 kind
unfolding lacks
kind_line = lacks-no 10 kind refl

no_comma_in_kind : HasNo 44 kind
unfolding lacks
no_comma_in_kind = lacks-no 44 kind refl

abbrev header_told : List ℕ → Claim → List ℕ → List ℕ
header_told seal claim coefficient =
    kind ++ 44 ∷ (encode_lower seal ++ 44 ∷ (decimal claim.steps ++ 44 ∷ (decimal claim.animals
    ++ 44 ∷ (decimal claim.place ++ 44 ∷ (claim.number ++ 44 ∷ coefficient)))))

header_is : (seal : List ℕ) (claim : Claim) (coefficient : List ℕ)
    → header_line seal claim coefficient ≡ header_told seal claim coefficient ++ (10 ∷ [])
unfolding header_line field_text
header_is seal claim coefficient = simp append_assoc

header_plain : (seal : List ℕ) (claim : Claim) (coefficient : List ℕ) → IsWrittenHeader seal claim coefficient
    → HasNo 10 (header_told seal claim coefficient)
header_plain seal claim coefficient is =
    joined_plain 10 kind _ (omega arith) kind_line
    (joined_plain 10 (encode_lower seal) _ (omega arith) (hex_plain 10 seal (omega arith) is.digest)
    (joined_plain 10 (decimal claim.steps) _ (omega arith) (decimal_plain 10 claim.steps is.steps (omega arith))
    (joined_plain 10 (decimal claim.animals) _ (omega arith)
    (decimal_plain 10 claim.animals (wide claim.animals is.animals) (omega arith))
    (joined_plain 10 (decimal claim.place) _ (omega arith)
    (decimal_plain 10 claim.place (wide claim.place is.place) (omega arith))
    (joined_plain 10 claim.number coefficient (omega arith) (number_plain 10 claim.number (omega arith) is.number)
    is.one_line)))))

header-text : (seal : List ℕ) (claim : Claim) (coefficient : List ℕ) → IsWrittenHeader seal claim coefficient
    → IsHeaderText (header_told seal claim coefficient)
header-text seal claim coefficient is =
    field_of kind _ no_comma_in_kind refl
    (field_of (encode_lower seal) _ (hex_plain 44 seal (omega arith) is.digest) (seal, is.digest, refl)
    (field_of (decimal claim.steps) _ (decimal_plain 44 claim.steps is.steps (omega arith))
    (claim.steps, is.steps, refl)
    (field_of (decimal claim.animals) _ (decimal_plain 44 claim.animals (wide claim.animals is.animals) (omega arith))
    (claim.animals, is.animals, refl)
    (field_of (decimal claim.place) _ (decimal_plain 44 claim.place (wide claim.place is.place) (omega arith))
    (claim.place, is.place, refl)
    (field_of claim.number coefficient (number_plain 44 claim.number (omega arith) is.number) is.number tt)))))

abbrev made_claim : ℕ → ℕ → ℕ → List ℕ → Claim
made_claim steps animals place number = record { steps = steps; animals = animals; place = place; number = number }

header_same : (s t : List ℕ) (x y : Claim) (c d : List ℕ) → IsWrittenHeader s x c → IsWrittenHeader t y d
    → header_told s x c ≡ header_told t y d → (s ≡ t) × (x ≡ y) × (c ≡ d)
header_same s t x y c d is_x is_y e =
    let c1 = same_cut 44 kind _ kind _ no_comma_in_kind no_comma_in_kind e in
    let c2 = same_cut 44 (encode_lower s) _ (encode_lower t) _ (hex_plain 44 s (omega arith) is_x.digest)
    (hex_plain 44 t (omega arith) is_y.digest) c1.1 in
    let c3 = same_cut 44 (decimal x.steps) _ (decimal y.steps) _ (decimal_plain 44 x.steps is_x.steps (omega arith))
    (decimal_plain 44 y.steps is_y.steps (omega arith)) c2.1 in
    let c4 = same_cut 44 (decimal x.animals) _ (decimal y.animals) _
    (decimal_plain 44 x.animals (wide x.animals is_x.animals) (omega arith))
    (decimal_plain 44 y.animals (wide y.animals is_y.animals) (omega arith)) c3.1 in
    let c5 = same_cut 44 (decimal x.place) _ (decimal y.place) _
    (decimal_plain 44 x.place (wide x.place is_x.place) (omega arith))
    (decimal_plain 44 y.place (wide y.place is_y.place) (omega arith)) c4.1 in
    let c6 = same_cut 44 x.number c y.number d (number_plain 44 x.number (omega arith) is_x.number)
    (number_plain 44 y.number (omega arith) is_y.number) c5.1 in
    let steps = decimal_injective x.steps y.steps is_x.steps is_y.steps c3.0 in
    let animals = number_same x.animals y.animals is_x.animals is_y.animals c4.0 in
    let place = number_same x.place y.place is_x.place is_y.place c5.0 in (
      hex_same s t is_x.digest is_y.digest c2.0,
      ap (λ (n : ℕ). made_claim n x.animals x.place x.number) steps
          ∙ ap (λ (n : ℕ). made_claim y.steps n x.place x.number) animals
          ∙ ap (λ (n : ℕ). made_claim y.steps y.animals n x.number) place
          ∙ ap (λ (n : List ℕ). made_claim y.steps y.animals y.place n) c6.0,
      c6.1,
    )

-- ---- lines

line_cut : (one two b d : List ℕ) → HasNo 10 one → HasNo 10 two
    → (one ++ (10 ∷ [])) ++ b ≡ (two ++ (10 ∷ [])) ++ d → (one ≡ two) × (b ≡ d)
line_cut one two b d plain_one plain_two e =
    same_cut 10 one b two d plain_one plain_two
    (sym (append_assoc one (10 ∷ []) b) ∙ e ∙ append_assoc two (10 ∷ []) d)

row_cut : (x y : CertifiedRow) (b d : List ℕ) → IsWrittenRow x → IsWrittenRow y → row_line x ++ b ≡ row_line y ++ d
    → (x ≡ y) × (b ≡ d)
row_cut x y b d is_x is_y e =
    let same = line_cut (row_told x) (row_told y) b d (row_plain x is_x) (row_plain y is_y)
    (ap (λ (l : List ℕ). l ++ b) (sym (row_is x)) ∙ e ∙ ap (λ (l : List ℕ). l ++ d) (row_is y)) in
    (row_same x y is_x is_y same.0, same.1)

digest_is : (digest : List ℕ) → digest_line digest ≡ encode_lower digest ++ (10 ∷ [])
unfolding digest_line
digest_is digest = refl

digest_cut : (x y b d : List ℕ) → IsDigest x → IsDigest y → digest_line x ++ b ≡ digest_line y ++ d → (x ≡ y) × (b ≡ d)
digest_cut x y b d is_x is_y e =
    let same = line_cut (encode_lower x) (encode_lower y) b d (hex_plain 10 x (omega arith) is_x)
    (hex_plain 10 y (omega arith) is_y)
    (ap (λ (l : List ℕ). l ++ b) (sym (digest_is x)) ∙ e ∙ ap (λ (l : List ℕ). l ++ d) (digest_is y)) in
    (hex_same x y is_x is_y same.0, same.1)

-- the text begins with such a line
abbrev Begins : {X : Type 0} → (X → List ℕ) → (X → Type 0) → List ℕ → Type 0
Begins {X} f P text = (x : X) × (more : List ℕ) × P x × (f x ++ more ≡ text)

-- two texts of lines and what is behind: they have the same lines, or one goes on where the other's lines end
abbrev ArePeeled : {X : Type 0} → (X → List ℕ) → (X → Type 0) → List X → List X → List ℕ → List ℕ → Type 0
ArePeeled f P xs ys b d = ((xs ≡ ys) × (b ≡ d)) ⊎ (Begins f P b ⊎ Begins f P d)

module _ {X : Type 0} (f : X → List ℕ) (P : X → Type 0)
    (cut : (x y : X) (b d : List ℕ) → P x → P y → f x ++ b ≡ f y ++ d → (x ≡ y) × (b ≡ d)) where
  peeled : (xs ys : List X) (b d : List ℕ) → All P xs → All P ys → flat_map f xs ++ b ≡ flat_map f ys ++ d
      → ArePeeled f P xs ys b d
  peeled [] [] b d all_x all_y e = inl (refl, e)
  peeled [] (y ∷ ys) b d all_x all_y e =
      inr (inl (y, flat_map f ys ++ d, All-head P y ys all_y, sym (e ∙ append_assoc (f y) (flat_map f ys) d)))
  peeled (x ∷ xs) [] b d all_x all_y e =
      inr (inr (x, flat_map f xs ++ b, All-head P x xs all_x, sym (sym e ∙ append_assoc (f x) (flat_map f xs) b)))
  peeled (x ∷ xs) (y ∷ ys) b d all_x all_y e =
      let same = cut x y (flat_map f xs ++ b) (flat_map f ys ++ d) (All-head P x xs all_x) (All-head P y ys all_y)
      (sym (append_assoc (f x) (flat_map f xs) b) ∙ e ∙ append_assoc (f y) (flat_map f ys) d) in
      elim (peeled xs ys b d (All-tail P x xs all_x) (All-tail P y ys all_y) same.1) [
        | inl rest ↦ inl (ap (λ (l : List X). x ∷ l) rest.0 ∙ ap (λ (z : X). z ∷ ys) same.0, rest.1)
        | inr ends ↦ inr ends
      ]

-- a row's line is no digest's, nor a rest without a comma in its first line
row_line_of : (text : List ℕ) → Begins row_line IsWrittenRow text → HasLine HasComma text
row_line_of text begins = record {
  line = row_told begins.0;
  behind = begins.1;
  joined = ap (λ (l : List ℕ). l ++ begins.1) (sym (row_is begins.0)) ∙ begins.3;
  plain = row_plain begins.0 begins.2;
  is_line = row_has_comma begins.0 begins.2;
}

row_first : {P : List ℕ → Type 0} (text : List ℕ) (begins : Begins row_line IsWrittenRow text) → HasLine P text
    → P (row_told begins.0)
row_first text begins has =
    first_line (row_told begins.0) begins.1 text
    (ap (λ (l : List ℕ). l ++ begins.1) (sym (row_is begins.0)) ∙ begins.3) (row_plain begins.0 begins.2) has

digest_line_of : (text : List ℕ) → Begins digest_line IsDigest text → HasLine IsDigestText text
digest_line_of text begins = record {
  line = encode_lower begins.0;
  behind = begins.1;
  joined = ap (λ (l : List ℕ). l ++ begins.1) (sym (digest_is begins.0)) ∙ begins.3;
  plain = hex_plain 10 begins.0 (omega arith) begins.2;
  is_line = (begins.0, begins.2, refl);
}

digest_first : {P : List ℕ → Type 0} (d : List ℕ) (ds : List (List ℕ)) (rest : List ℕ) → IsDigest d
    → HasLine P (flat_map digest_line (d ∷ ds) ++ rest) → P (encode_lower d)
digest_first d ds rest is has =
    first_line (encode_lower d) (flat_map digest_line ds ++ rest) _
    (ap (λ (l : List ℕ). l ++ (flat_map digest_line ds ++ rest)) (sym (digest_is d))
    ∙ sym (append_assoc (digest_line d) (flat_map digest_line ds) rest)) (hex_plain 10 d (omega arith) is) has

no_row : (ds : List (List ℕ)) (rest : List ℕ) → All IsDigest ds → (ds ≡ [] → ¬ (HasLine HasComma rest))
    → ¬ (HasLine HasComma (flat_map digest_line ds ++ rest))
no_row [] rest all none = none refl
no_row (d ∷ ds) rest all none = λ has.
    let is = All-head IsDigest d ds all in
    digest_first d ds rest is has (hex_plain 44 d (omega arith) is)

nothing : {P : List ℕ → Type 0} → ¬ (HasLine P [])
nothing = λ has.
    let long = ap length has.joined in
    let parts = length-append (has.line ++ (10 ∷ [])) has.behind in
    let line = length-append has.line (10 ∷ []) in
    absurd (omega (arith, long, parts, line))

-- no comma stands in the first line of digests
digests_only : (ds : List (List ℕ)) → All IsDigest ds → ¬ (HasLine HasComma (flat_map digest_line ds))
digests_only ds all = λ has.
    no_row ds [] all (λ none. nothing)
    (subst (λ (l : List ℕ). HasLine HasComma l) (sym (append-nil (flat_map digest_line ds))) has)

-- ---- the whole

abbrev body_of : Parts → List ℕ
body_of c = flat_map row_line c.rows ++ flat_map digest_line c.digests

abbrev head_of : Parts → List ℕ
head_of c = header_told c.seal c.claim c.coefficient

whole_is : (c : Parts) (text : List ℕ) → IsTextOf c text → (head_of c ++ (10 ∷ [])) ++ body_of c ≡ text
unfolding certificate_text
whole_is c text is =
    ap (λ (l : List ℕ). l ++ body_of c) (sym (header_is c.seal c.claim c.coefficient))
    ∙ sym (append_assoc (header_line c.seal c.claim c.coefficient) (flat_map row_line c.rows)
    (flat_map digest_line c.digests))
    ∙ is.joined

abbrev made : List ℕ → Claim → List ℕ → List CertifiedRow → List (List ℕ) → Parts
made seal claim coefficient rows digests =
    record { seal = seal; claim = claim; coefficient = coefficient; rows = rows; digests = digests }

rows_same : (c d : List CertifiedRow) (x y : List (List ℕ)) → All IsWrittenRow c → All IsWrittenRow d
    → All IsDigest x → All IsDigest y
    → flat_map row_line c ++ flat_map digest_line x ≡ flat_map row_line d ++ flat_map digest_line y
    → (c ≡ d) × (flat_map digest_line x ≡ flat_map digest_line y)
rows_same c d x y are_c are_d are_x are_y e =
    elim (peeled row_line IsWrittenRow row_cut c d (flat_map digest_line x) (flat_map digest_line y) are_c are_d e) [
      | inl same ↦ same
      | inr ends ↦ elim ends [
        | inl one ↦ absurd (digests_only x are_x (row_line_of _ one))
        | inr two ↦ absurd (digests_only y are_y (row_line_of _ two))
      ]
    ]

digests_same : (x y : List (List ℕ)) → All IsDigest x → All IsDigest y
    → flat_map digest_line x ≡ flat_map digest_line y → x ≡ y
digests_same x y are_x are_y e =
    elim (peeled digest_line IsDigest digest_cut x y [] [] are_x are_y
    (append-nil (flat_map digest_line x) ∙ e ∙ sym (append-nil (flat_map digest_line y)))) [
      | inl same ↦ same.0
      | inr ends ↦ elim ends [
        | inl one ↦ absurd (nothing (digest_line_of [] one))
        | inr two ↦ absurd (nothing (digest_line_of [] two))
      ]
    ]

-- a text is that of one certificate
pub one_form : (c d : Parts) (text : List ℕ) → IsTextOf c text → IsTextOf d text → c ≡ d
one_form c d text is_c is_d =
    let lines = line_cut (head_of c) (head_of d) (body_of c) (body_of d)
    (header_plain c.seal c.claim c.coefficient is_c.written.header)
    (header_plain d.seal d.claim d.coefficient is_d.written.header)
    (whole_is c text is_c ∙ sym (whole_is d text is_d)) in
    let header = header_same c.seal d.seal c.claim d.claim c.coefficient d.coefficient is_c.written.header
    is_d.written.header lines.0 in
    let rows = rows_same c.rows d.rows c.digests d.digests is_c.written.rows is_d.written.rows is_c.written.digests
    is_d.written.digests lines.1 in
    let digests = digests_same c.digests d.digests is_c.written.digests is_d.written.digests rows.1 in
    ap (λ (s : List ℕ). made s c.claim c.coefficient c.rows c.digests) header.0
    ∙ ap (λ (k : Claim). made d.seal k c.coefficient c.rows c.digests) header.1
    ∙ ap (λ (t : List ℕ). made d.seal d.claim t c.rows c.digests) header.2
    ∙ ap (λ (r : List CertifiedRow). made d.seal d.claim d.coefficient r c.digests) rows.0
    ∙ ap (λ (l : List (List ℕ)). made d.seal d.claim d.coefficient d.rows l) digests

module _ (c : Parts) (text : List ℕ) (is : IsTextOf c text) where
  header_there : HasLine IsHeaderText text
  header_there = record {
    line = head_of c;
    behind = body_of c;
    joined = whole_is c text is;
    plain = header_plain c.seal c.claim c.coefficient is.written.header;
    is_line = header-text c.seal c.claim c.coefficient is.written.header;
  }

  -- its lines behind the header are these
  behind : {R : List ℕ → Type 0} (rows : List CertifiedRow) (digests : List (List ℕ))
      (has : IsUnreadBehind text rows digests R)
      → flat_map row_line c.rows ++ flat_map digest_line c.digests
      ≡ flat_map row_line rows ++ (flat_map digest_line digests ++ has.rest)
  behind rows digests has =
      let lines = line_cut (head_of c) has.header (body_of c) _
      (header_plain c.seal c.claim c.coefficient is.written.header) has.plain (whole_is c text is ∙ sym has.joined) in
      lines.1

  rows_read : (rows : List CertifiedRow) → ¬ (IsUnreadBehind text rows [] (HasLine IsNoRowText))
  rows_read rows = λ has.
      let digests = flat_map digest_line c.digests in
      elim (peeled row_line IsWrittenRow row_cut c.rows rows digests has.rest is.written.rows has.rows_written
      (behind rows [] has)) [
        | inl same ↦
            let line = subst (λ (l : List ℕ). HasLine IsNoRowText l) (sym same.1) has.is_rest in
            digests_only c.digests is.written.digests (weaker line)
        | inr ends ↦ elim ends [
          | inl one ↦ digests_only c.digests is.written.digests (row_line_of digests one)
          | inr two ↦ (row_first has.rest two has.is_rest).1 (row-text two.0 two.2)
        ]
      ]
    where
      weaker : {l : List ℕ} → HasLine IsNoRowText l → HasLine HasComma l
      weaker {l} has = record {
        line = has.line;
        behind = has.behind;
        joined = has.joined;
        plain = has.plain;
        is_line = has.is_line.0;
      }

  digests_read : (rows : List CertifiedRow) (digests : List (List ℕ))
      → ¬ (IsUnreadBehind text rows digests (IsNoDigestBehind digests))
  digests_read rows digests = λ has.
      let shown = flat_map digest_line c.digests in
      let others = flat_map digest_line digests ++ has.rest in
      elim (peeled row_line IsWrittenRow row_cut c.rows rows shown others is.written.rows has.rows_written
      (behind rows digests has)) [
        | inl same ↦ elim (peeled digest_line IsDigest digest_cut c.digests digests [] has.rest is.written.digests
            has.digests_written (append-nil shown ∙ same.1)) [
              | inl all ↦ has.is_rest.some (sym all.1)
              | inr ends ↦ elim ends [
                | inl one ↦ nothing (digest_line_of [] one)
                | inr two ↦ has.is_rest.none (digest_line_of has.rest two)
              ]
            ]
        | inr ends ↦ elim ends [
          | inl one ↦ digests_only c.digests is.written.digests (row_line_of shown one)
          | inr two ↦ no_row digests has.rest has.digests_written has.is_rest.rows_end (row_line_of others two)
        ]
      ]

  -- it is read, but that memory runs out
  pub read : (fault : CheckFault) → IsUnread text fault → fault ≡ no_memory
  read fault unread =
      elim unread [
        | inl memory ↦ memory
        | inr later ↦ elim later [
          | inl header ↦ absurd (header.1 header_there)
          | inr behind ↦ elim behind [
            | inl row ↦ absurd (rows_read row.0 row.2)
            | inr digest ↦ absurd (digests_read digest.0 digest.1 digest.3)
          ]
        ]
      ]
