-- What isn't read has no such text.
use Rattle.std.proofs.Common.{◌≡◌, ◌≢◌, ◌⊎◌, ◌∙◌, inl, inr, ℕ, zero, suc, ◌+◌, ◌<◌, ◌≤◌, ◌^◌, Bool, true, false}
use Rattle.std.proofs.Common.{cond, List, [], ◌∷◌, ◌++◌, length, drop, decimal, get_or, Option, Some, None}
use Rattle.std.proofs.Common.{Result, Ok, Err, IsTrue, Contains, refl, sym, ap, subst, arith, append_assoc}
use Rattle.std.specs.List.{All, IsAnyAnswer, flat_map}
use Rattle.std.specs.Prelude.{IfNone, IfSome}
use Rattle.std.specs.Cmp.Lexicographic.{pointwise}
use Rattle.std.specs.Result.{result_ok}
use Rattle.std.proofs.Common.{eqb}
use Rattle.std.proofs.lemmas.Bool.{eq-eqb}
use Rattle.std.specs.Str.{IsUtf8}
use Rattle.std.specs.Str.Parse.{IsNumeral, ParsesUnsigned, digits_value, without_leading_plus}
use Rattle.std.proofs.lemmas.Bool.{ne_eqb}
use Rattle.std.proofs.lemmas.Fmt.{IsAscii-decimal, decimal_injective, decimal_is_IsNumeral, decimal_nonempty}
use Rattle.std.proofs.lemmas.List.Elements.{All-head, All-nil, All-tail}
use Rattle.std.proofs.lemmas.Str.{IsUtf8-from_ascii}
use Rattle.std.proofs.lemmas.Str.Parse.{digit_at}
use Rattle.hex.specs.Hex.{decode_sized, encode_lower}
use Rattle.hex.specs.declared.error.FromHexError.{FromHexError}
use Rattle.hex.proofs.HexLemmas.{decode_sized-encode_lower}
use Rattle.merkle_tree.specs.Tree.{IsDigest}
use Rattle.herd_record_line.specs.RecordLine.{HasField, HasNo}
use Rattle.herd_record_line.proofs.CutFacts.{field_joined, same_cut}
use Rattle.herd_seal.specs.CheckCause.{no_memory}
use Rattle.herd_seal.specs.CheckFaults.{IsUnread, at_row, at_whole}
use Rattle.herd_seal.specs.CertificateText.{digest_line, row_line}
use Rattle.herd_seal.specs.Reading.{HasComma, HasLine, IsDigestText, IsHeaderText, IsNoRowText}
use Rattle.herd_seal.specs.Reading.{IsNumberText, IsParentText, IsWrittenRow}
use Rattle.herd_seal.specs.declared.certificate.CertifiedRow.{CertifiedRow}
use Rattle.herd_seal.specs.declared.check_fault.CheckCause.TheVariants.{Digests, Header, Row}
use Rattle.herd_seal.specs.declared.check_fault.CheckFault.{CheckFault}

-- ---- numbers

pub not_utf8 : (text : List ℕ) → ¬ (IsUtf8 text) → ¬ (IsNumberText (2 ^ 64) text)
not_utf8 text other = λ is. other (subst IsUtf8 is.2 (IsUtf8-from_ascii (decimal is.0) (IsAscii-decimal is.0 is.1)))

no_plus : (n : ℕ) → n < 2 ^ 64 → without_leading_plus (decimal n) ≡ decimal n
no_plus n small =
    let some = decimal_nonempty n small in
    let digit = digit_at (decimal n) 0 (decimal_is_IsNumeral n small).0.1 some in
    ap (λ (b : Bool). drop (cond b 1 0) (decimal n)) (ne_eqb (get_or (decimal n) 0 0) 43 (λ e. absurd (omega (
      arith,
      digit,
      e,
    ))))

parses : (text : List ℕ) → IsNumberText (2 ^ 64) text
    → IsNumeral 10 (without_leading_plus text) × (digits_value 10 (without_leading_plus text) < 2 ^ 64)
parses text is =
    let numeral = decimal_is_IsNumeral is.0 is.1 in
    let same : decimal is.0 ≡ without_leading_plus text =
    sym (no_plus is.0 is.1) ∙ ap (λ (l : List ℕ). without_leading_plus l) is.2 in (
      subst (λ (l : List ℕ). IsNumeral 10 l) same numeral.0,
      (let value : digits_value 10 (without_leading_plus text) ≡ is.0 =
          ap (λ (l : List ℕ). digits_value 10 l) (sym same) ∙ numeral.1 in
          let small = is.1 in
          omega (arith, value, small)),
    )

no_number : {E : Type 0} (text : List ℕ) (r : Result ℕ E) → ParsesUnsigned 64 10 text r
    → IfNone (result_ok r) (¬ (IsNumberText (2 ^ 64) text))
no_number text (Ok number) parsed = tt
no_number text (Err e) parsed = λ is. parsed (parses text is)

a_number : {E : Type 0} (text : List ℕ) (r : Result ℕ E) → ParsesUnsigned 64 10 text r
    → IfSome (result_ok r) (λ number. number ≡ digits_value 10 (without_leading_plus text))
a_number text (Ok number) parsed = parsed.1
a_number text (Err e) parsed = tt

pub parsed_none : {E : Type 0} (text digits : List ℕ) (r : Result ℕ E) (o : Option ℕ) → digits ≡ text
    → ParsesUnsigned 64 10 digits r
    → o ≡ result_ok r → IfNone o (¬ (IsNumberText (2 ^ 64) text))
parsed_none text digits r o same parsed is =
    subst (λ (x : Option ℕ). IfNone x (¬ (IsNumberText (2 ^ 64) text))) (sym is)
    (no_number text r (subst (λ (l : List ℕ). ParsesUnsigned 64 10 l r) same parsed))

pub parsed_some : {E : Type 0} (text digits : List ℕ) (r : Result ℕ E) (o : Option ℕ) → digits ≡ text
    → ParsesUnsigned 64 10 digits r
    → o ≡ result_ok r → IfSome o (λ number. number ≡ digits_value 10 (without_leading_plus text))
parsed_some text digits r o same parsed is =
    subst (λ (x : Option ℕ). IfSome x (λ number. number ≡ digits_value 10 (without_leading_plus text))) (sym is)
    (a_number text r (subst (λ (l : List ℕ). ParsesUnsigned 64 10 l r) same parsed))

pub not_written : (text : List ℕ) (number : ℕ) → number ≡ digits_value 10 (without_leading_plus text)
    → decimal number ≢ text
    → ¬ (IsNumberText (2 ^ 64) text)
not_written text number value other = λ is.
    let numeral = decimal_is_IsNumeral is.0 is.1 in
    let same : without_leading_plus text ≡ decimal is.0 =
    ap (λ (l : List ℕ). without_leading_plus l) (sym is.2) ∙ no_plus is.0 is.1 in
    let its : number ≡ is.0 = value ∙ ap (λ (l : List ℕ). digits_value 10 l) same ∙ numeral.1 in
    other (ap (λ (n : ℕ). decimal n) its ∙ is.2)

pub not_both : (b : Bool) → IsTrue b → b ≡ false → ⊥
not_both true is other = absurd (cc)
not_both false is other = absurd (cc)

-- texts that differ
itself : (xs : List ℕ) → pointwise eqb xs xs ≡ true
itself [] = refl
itself (x ∷ xs) = rw (eq-eqb x x refl) (itself xs)

pub unlike : (xs ys : List ℕ) → pointwise eqb xs ys ≡ false → xs ≢ ys
unlike xs ys apart = λ same.
    not_both (pointwise eqb xs ys) (subst (λ (l : List ℕ). pointwise eqb xs l ≡ true) same (itself xs)) apart

pub not_small : (text : List ℕ) → ¬ (IsNumberText (2 ^ 64) text) → ¬ (IsNumberText (2 ^ 32) text)
not_small text other = λ is. other (is.0, (let small = is.1 in omega (arith, small)), is.2)

pub too_large : (text : List ℕ) (number : ℕ) → decimal number ≡ text → number < 2 ^ 64 → 2 ^ 32 ≤ number
    → ¬ (IsNumberText (2 ^ 32) text)
too_large text number told fits large = λ is.
    let small = is.1 in
    let same = decimal_injective is.0 number (omega (arith, small)) fits (is.2 ∙ sym told) in
    absurd (omega (arith, same, small, large))

pub no_parent : (text : List ℕ) → text ≢ [] → ¬ (IsNumberText (2 ^ 32) text) → ¬ (IsParentText text)
no_parent text some other = λ is. elim is [
  | inl none ↦ some none
  | inr number ↦ other number
]

-- ---- digests

hex_bytes : (xs : List ℕ) → All (λ b. b < 256) xs → (i : ℕ) → get_or xs i 0 < 256
hex_bytes [] all i = omega arith
hex_bytes (x ∷ xs) all zero = All-head (λ b. b < 256) x xs all
hex_bytes (x ∷ xs) all (suc i) = hex_bytes xs (All-tail (λ b. b < 256) x xs all) i

pub decoded : (text : List ℕ) (is : IsDigestText text) → decode_sized text 32 ≡ Ok is.0
decoded text is =
    ap (λ (l : List ℕ). decode_sized l 32) (sym is.2)
    ∙ decode_sized-encode_lower is.0 32 is.1.1 (hex_bytes is.0 is.1.0)

pub not_decoded : (text : List ℕ) (e : FromHexError) → Err e ≡ decode_sized text 32 → ¬ (IsDigestText text)
not_decoded text e failed = λ is. let both : Err e ≡ Ok is.0 = failed ∙ decoded text is in absurd (cc)

pub other_letters : (text digest : List ℕ) → Ok digest ≡ decode_sized text 32 → encode_lower digest ≢ text
    → ¬ (IsDigestText text)
other_letters text digest right other = λ is.
    let both : Ok digest ≡ Ok is.0 = right ∙ decoded text is in
    let same : digest ≡ is.0 = cc in
    other (ap (λ (d : List ℕ). encode_lower d) same ∙ is.2)

decoded_none : (text : List ℕ) (r : Result (List ℕ) FromHexError) → r ≡ decode_sized text 32 → result_ok r ≡ None
    → ¬ (IsDigestText text)
decoded_none text (Ok digest) is none = absurd (cc)
decoded_none text (Err e) is none = not_decoded text e is

pub no_digest : (text : List ℕ) (r : Result (List ℕ) FromHexError) (o : Option (List ℕ))
    → r ≡ decode_sized text 32 → o ≡ result_ok r
    → o ≡ None → ¬ (IsDigestText text)
no_digest text r o is told none = decoded_none text r is (sym told ∙ none)

decoded_other : (text digest : List ℕ) (r : Result (List ℕ) FromHexError) → r ≡ decode_sized text 32
    → result_ok r ≡ Some digest
    → encode_lower digest ≢ text → ¬ (IsDigestText text)
decoded_other text digest (Ok d) is some other =
    let same : d ≡ digest = cc in
    other_letters text digest (ap (λ (x : List ℕ). Ok x) (sym same) ∙ is) other
decoded_other text digest (Err e) is some other = absurd (cc)

pub other_digest : (text digest : List ℕ) (r : Result (List ℕ) FromHexError) (o : Option (List ℕ))
    → r ≡ decode_sized text 32
    → o ≡ result_ok r → o ≡ Some digest → encode_lower digest ≢ text → ¬ (IsDigestText text)
other_digest text digest r o is told some other = decoded_other text digest r is (sym told ∙ some) other

-- ---- fields

pub field_here : {F B : List ℕ → Type 0} (before behind text : List ℕ) → before ++ 44 ∷ behind ≡ text
    → HasNo 44 before → F before → B behind
    → HasField F B text
field_here before behind text joined plain is_field is_behind = record {
  field = before;
  behind = behind;
  joined = field_joined before behind ∙ joined;
  plain = plain;
  is_field = is_field;
  is_behind = is_behind;
}

plain_behind : (character x : ℕ) (before behind : List ℕ) → HasNo character (before ++ x ∷ behind)
    → HasNo character behind
plain_behind character x [] behind plain = All-tail (λ c. c ≢ character) x behind plain
plain_behind character x (y ∷ before) behind plain =
    plain_behind character x before behind (All-tail (λ c. c ≢ character) y (before ++ x ∷ behind) plain)

pub plain_rest : (character x : ℕ) (before behind text : List ℕ) → before ++ x ∷ behind ≡ text
    → HasNo character text → HasNo character behind
plain_rest character x before behind text joined plain =
    plain_behind character x before behind (subst (HasNo character) (sym joined) plain)

-- ---- lines

-- a text has one first line
pub first_line : {P : List ℕ → Type 0} (line behind text : List ℕ) → (line ++ (10 ∷ [])) ++ behind ≡ text
    → HasNo 10 line
    → HasLine P text → P line
first_line {P} line behind text joined plain has =
    let same = same_cut 10 line behind has.line has.behind plain has.plain
    (sym (append_assoc line (10 ∷ []) behind) ∙ joined ∙ sym has.joined ∙ append_assoc has.line (10 ∷ []) has.behind) in
    subst P (sym same.0) has.is_line

end_in : (line behind : List ℕ) → ¬ (HasNo 10 (line ++ 10 ∷ behind))
end_in [] behind = λ none. All-head (λ c. c ≢ 10) 10 behind none refl
end_in (x ∷ line) behind = λ none. end_in line behind (All-tail (λ c. c ≢ 10) x (line ++ 10 ∷ behind) none)

-- and none without an end
pub no_line : {P : List ℕ → Type 0} (text : List ℕ) → HasNo 10 text → ¬ (HasLine P text)
no_line text none = λ has.
    end_in has.line has.behind (subst (HasNo 10) (sym (sym (append_assoc has.line (10 ∷ []) has.behind)
    ∙ has.joined)) none)

pub comma_there : (line : List ℕ) → Contains line 44 → HasComma line
comma_there line there = λ none. none there.0 44 there.1 there.2

pub no_comma : (line : List ℕ) (b : Bool) → IsAnyAnswer (λ y t. eqb y 44 ≡ t) line b → b ≡ false → HasNo 44 line
no_comma line true answer none = absurd (cc)
no_comma line false answer none = λ k d within is.
    let other : eqb (get_or line k d) 44 ≡ false = answer k d (omega arith) within in
    not_both (eqb (get_or line k d) 44) (eq-eqb (get_or line k d) 44 is) other

-- ---- what wasn't read

pub unread_header : (text : List ℕ) (fault : CheckFault) → fault ≡ at_whole Header → ¬ (HasLine IsHeaderText text)
    → IsUnread text fault
unread_header text fault is other = inr (inl (is, other))

pub unread_row : (text header body : List ℕ) (fault : CheckFault) → (header ++ (10 ∷ [])) ++ body ≡ text
    → HasNo 10 header → IsHeaderText header
    → (fault ≡ no_memory) ⊎ ((read : List CertifiedRow) × (rest : List ℕ) × (fault ≡ at_row Row (length read)) × All
    IsWrittenRow read
    × (flat_map row_line read ++ rest ≡ body) × HasLine IsNoRowText rest)
    → IsUnread text fault
unread_row text header body fault joined plain is_header why =
    elim why [
      | inl memory ↦ inl memory
      | inr row ↦ inr (inr (inl (
        row.0,
        row.2,
        record {
          header = header;
          rest = row.1;
          plain = plain;
          is_header = is_header;
          rows_written = row.3;
          digests_written = All-nil IsDigest;
          joined = ap (λ (l : List ℕ). (header ++ (10 ∷ [])) ++ l) row.4 ∙ joined;
          is_rest = row.5;
        },
      )))
    ]

lines_end : (digests : List (List ℕ)) (rest end : List ℕ) → flat_map digest_line digests ++ end ≡ rest → digests ≡ []
    → ¬ (HasLine HasComma rest) → ¬ (HasLine HasComma end)
lines_end [] rest end joined none other = subst (λ (l : List ℕ). ¬ (HasLine HasComma l)) (sym joined) other
lines_end (d ∷ digests) rest end joined none other = absurd (cc)

pub unread_digest : (text header body rest : List ℕ) (rows : List CertifiedRow) (n : ℕ) (fault : CheckFault)
    → (header ++ (10 ∷ [])) ++ body ≡ text → HasNo 10 header → IsHeaderText header
    → flat_map row_line rows ++ rest ≡ body → All IsWrittenRow rows → n ≡ length rows → ¬ (HasLine HasComma rest)
    → (fault ≡ no_memory) ⊎ ((read : List (List ℕ)) × (end : List ℕ) × (fault ≡ at_row Digests (n + length read)) ×
    All IsDigest read
    × (flat_map digest_line read ++ end ≡ rest) × (end ≢ []) × ¬ (HasLine IsDigestText end))
    → IsUnread text fault
unread_digest text header body rest rows n fault joined plain is_header rows_are written long ends why =
    elim why [
      | inl memory ↦ inl memory
      | inr digest ↦ inr (inr (inr (
        rows,
        digest.0,
        digest.2
            ∙ ap (λ (m : ℕ). at_row Digests (m + length digest.0)) long,
        record {
          header = header;
          rest = digest.1;
          plain = plain;
          is_header = is_header;
          rows_written = written;
          digests_written = digest.3;
          joined =
              ap (λ (l : List ℕ). (header ++ (10 ∷ [])) ++ (flat_map row_line rows ++ l)) digest.4
              ∙ ap (λ (l : List ℕ). (header ++ (10 ∷ [])) ++ l) rows_are ∙ joined;
          is_rest = record {
            some = digest.5;
            none = digest.6;
            rows_end = λ none. lines_end digest.0 rest digest.1
                digest.4 none ends;
          };
        },
      )))
    ]
