-- The text that is written is that of a certificate, and is read as this certificate.
use Rattle.std.proofs.Common.{◌≡◌, ◌≢◌, ◌∙◌, inl, inr, ℕ, ◌+◌, ◌-◌, ◌*◌, ◌/◌, ◌%◌, ◌<◌, ◌^◌, ◌==◌}
use Rattle.std.proofs.Common.{Bool, true, false, if◌then◌else◌, List, [], ◌∷◌, ◌++◌, take, decimal, get_or, codes}
use Rattle.std.proofs.Common.{slice_get, Some, refl, sym, subst, arith}
use Rattle.std.specs.List.{All}
use Rattle.std.specs.Option.{option_map, option_to_list}
use Rattle.std.proofs.Math.Nat.{div-le_self}
use Rattle.std.proofs.lemmas.Fmt.{decimal_is_IsNumeral_wide}
use Rattle.std.proofs.lemmas.Grind.{flat_map-append, get_or_default_zero}
use Rattle.std.proofs.lemmas.List.Elements.{All-append, All-cons, All-nil}
use Rattle.std.proofs.lemmas.Str.Parse.{digit_at}
use Rattle.merkle_tree.specs.Tree.{IsDigest, digests_of, row_digest}
use Rattle.merkle_tree.proofs.lemmas.Digests.{digest-is}
use Rattle.merkle_tree.proofs.lemmas.Whole.{beside_are_digests}
use Rattle.herd_animal.specs.AnimalNumber.{IsAnimalNumber}
use Rattle.herd_frozen.specs.declared.freezing.frozen.Row.{Row}
use Rattle.herd_kinship.specs.Fraction.{fraction_text, halved, halvings, hundredths_of}
use Rattle.herd_lineage.specs.declared.TheConstants.{DEPTH_LIMIT}
use Rattle.herd_record_line.specs.RecordLine.{HasNo}
use Rattle.herd_text.specs.CoefficientText.{coefficient_text, percentage_text}
use Rattle.herd_seal.specs.CheckFaults.{IsPartsFault}
use Rattle.herd_seal.specs.Reading.{IsTextOf, IsWrittenHeader, IsWrittenRow, Parts as TextParts}
use Rattle.herd_seal.specs.Seal.{rows_of, seal_of}
use Rattle.herd_seal.specs.declared.certificate.CertifiedRow.{CertifiedRow}
use Rattle.herd_seal.specs.declared.certificate.Claim.{Claim}
use Rattle.herd_seal.proofs.FormFacts.{one_form, read}
use Rattle.herd_certificate.specs.Faultless.{IsFaultless, IsFaultlessText}
use Rattle.herd_certificate.specs.Parts.{ArePartsAt}
use Rattle.herd_certificate.specs.Sealed.{certified, claim_at, parts_at, places_shown, rows_at, sealed_at}
use Rattle.herd_certificate.specs.declared.parts.Parts.{Parts}
use Rattle.herd_certificate.proofs.PartFacts.{take_next}
use Rattle.herd_certificate.proofs.ShownFacts.{one_at}

-- ---- a coefficient is on one line

digits_plain : (n : ℕ) → n < 10 ^ 64 → HasNo 10 (decimal n)
digits_plain n small = λ k d within is.
    let digit = digit_at (decimal n) k (decimal_is_IsNumeral_wide n small).0.1 within in
    let at : get_or (decimal n) k 0 ≡ 10 = sym (get_or_default_zero (decimal n) k d within) ∙ is in
    absurd (omega (arith, digit, at))

-- a part of a small number
part_plain : (n k : ℕ) → n < 10 ^ 64 → HasNo 10 (decimal (n / k))
part_plain n k small = digits_plain (n / k) (let least = div-le_self n k in omega (arith, least, small))

one_plain : (c : ℕ) (text : List ℕ) → 10 < c → HasNo 10 text → HasNo 10 (c ∷ text)
one_plain c text high plain = All-cons (λ x. x ≢ 10) c text (λ e. absurd (omega (arith, high, e))) plain

both_plain : (front behind : List ℕ) → HasNo 10 front → HasNo 10 behind → HasNo 10 (front ++ behind)
both_plain front behind one two = All-append (λ x. x ≢ 10) front behind one two

none_plain : HasNo 10 []
none_plain = All-nil (λ x. x ≢ 10)

below_plain : (whole : Bool) (n k : ℕ) → n < 10 ^ 64 → HasNo 10 (if whole then [] else codes "/" ++ decimal (n / k))
below_plain true n k small = none_plain
below_plain false n k small = one_plain 47 (decimal (n / k)) (omega arith) (part_plain n k small)

fraction_plain : (n d : ℕ) → n < 10 ^ 64 → d < 10 ^ 64 → HasNo 10 (fraction_text (halved false n d))
fraction_plain n d small_n small_d =
    both_plain ([] ++ decimal (n / 2 ^ halvings n d)) _
    (part_plain n (2 ^ halvings n d) small_n)
    (below_plain (d / 2 ^ halvings n d == 1) d (2 ^ halvings n d) small_d)

percentage_plain : (h : ℕ) → h < 10 ^ 64 → HasNo 10 (percentage_text h)
percentage_plain h small =
    both_plain (decimal (h / 100) ++ codes ".") _
    (both_plain (decimal (h / 100)) (codes ".") (part_plain h 100 small) (one_plain 46 [] (omega arith) none_plain))
    (one_plain (48 + h % 100 / 10) ((48 + h % 100 % 10) ∷ []) (omega arith)
    (one_plain (48 + h % 100 % 10) [] (omega arith) none_plain))

pub coefficient_plain : (n : ℕ) → n < 2 ^ (2 * DEPTH_LIMIT) → HasNo 10 (coefficient_text (codes ",") n)
unfolding coefficient_text
coefficient_plain n small =
    both_plain (fraction_text (halved false n (2 ^ (2 * DEPTH_LIMIT))) ++ codes ",") _
    (both_plain (fraction_text (halved false n (2 ^ (2 * DEPTH_LIMIT)))) (codes ",")
    (fraction_plain n (2 ^ (2 * DEPTH_LIMIT)) (omega (arith, small)) (omega arith))
    (one_plain 44 [] (omega arith) none_plain))
    (percentage_plain (hundredths_of DEPTH_LIMIT n)
    (let least = div-le_self (10000 * n + 2 ^ (2 * DEPTH_LIMIT - 1)) (2 ^ (2 * DEPTH_LIMIT)) in
    omega (arith, least, small)))

-- ---- rows that were told

pub first_rows : (rows : List Row) → All IsWrittenRow (rows_at rows [])
first_rows rows = All-nil IsWrittenRow

abbrev row_at : List Row → ℕ → List CertifiedRow
row_at rows place = option_to_list (option_map (certified place) (slice_get rows place))

pub next_rows : (rows : List Row) (places : List ℕ) (place : ℕ) (row : Row) → slice_get rows place ≡ Some row
    → All IsWrittenRow (rows_at rows places) → IsWrittenRow (certified place row)
    → All IsWrittenRow (rows_at rows (places ++ (place ∷ [])))
next_rows rows places place row at told one =
    subst (λ (l : List CertifiedRow). All IsWrittenRow l) (sym (flat_map-append (row_at rows) places (place ∷ [])))
    (All-append IsWrittenRow (rows_at rows places) (rows_at rows (place ∷ [])) told
    (subst (λ (l : List CertifiedRow). All IsWrittenRow l) (sym (one_at rows place [] row at))
    (All-cons IsWrittenRow (certified place row) [] one (All-nil IsWrittenRow))))

-- and one place more
pub told_next : (rows : List Row) (places : List ℕ) (n place : ℕ) (row : Row) → slice_get places n ≡ Some place
    → slice_get rows place ≡ Some row → All IsWrittenRow (rows_at rows (take n places))
    → IsWrittenRow (certified place row) → All IsWrittenRow (rows_at rows (take (n + 1) places))
told_next rows places n place row there at told one =
    subst (λ (l : List ℕ). All IsWrittenRow (rows_at rows l))
    (take_next places n place (take n places) (take n places ++ (place ∷ [])) refl there refl)
    (next_rows rows (take n places) place row at told one)

-- ---- the text

digests_are : (texts : List (List ℕ)) → All IsDigest (digests_of texts)
digests_are [] = All-nil IsDigest
digests_are (text ∷ texts) =
    All-cons IsDigest (row_digest text) (digests_of texts) (digest-is _) (digests_are texts)

seal-is : (steps : ℕ) (texts : List (List ℕ)) → IsDigest (seal_of steps texts)
unfolding seal_of
seal-is steps texts = digest-is _

-- what push_header tells of the numbers
pub record IsToldHeader (claim : Claim) (numerator : ℕ) : Type 0 where
  pub steps : claim.steps < 2 ^ 64
  pub animals : claim.animals < 2 ^ 32
  pub place : claim.place < 2 ^ 32
  pub number : IsAnimalNumber claim.number
  pub below_one : numerator < 2 ^ (2 * DEPTH_LIMIT)

written_header : (seal : List ℕ) (claim : Claim) (numerator : ℕ) → IsDigest seal → IsToldHeader claim numerator
    → IsWrittenHeader seal claim (coefficient_text (codes ",") numerator)
written_header seal claim numerator digest told = record {
  digest = digest;
  steps = told.steps;
  animals = told.animals;
  place = told.place;
  number = told.number;
  one_line = coefficient_plain numerator told.below_one;
}

pub text_is : {A : Type 0} (rows : List Row) (steps place : ℕ) (parts : Parts A) → ArePartsAt rows steps place parts
    → IsToldHeader parts.claim parts.coefficient.numerator → All IsWrittenRow (rows_at rows parts.places.items)
    → IsTextOf (parts_at rows steps place) (sealed_at rows steps place)
unfolding sealed_at
text_is rows steps place parts are told shown =
    let claim = subst (λ (c : Claim). IsToldHeader c parts.coefficient.numerator) are.claim told in
    let numerator = subst (λ (n : ℕ). IsToldHeader (claim_at rows steps place) n) are.coefficient claim in
    record {
      written = record {
        header = written_header (seal_of steps (rows_of rows)) (claim_at rows steps place) _
            (seal-is steps (rows_of rows)) numerator;
        rows = subst (λ (l : List ℕ). All IsWrittenRow (rows_at rows l)) are.places shown;
        digests = beside_are_digests (digests_of (rows_of rows)) (places_shown rows place)
            (digests_are (rows_of rows));
      };
      joined = refl;
    }

-- a text in whose certificate nothing is wrong has no fault
pub faultless_text : (seal : List ℕ) (c : TextParts) (text : List ℕ) → IsTextOf c text → IsFaultless seal c
    → IsFaultlessText seal text
faultless_text seal c text is none = λ fault wrong.
    elim wrong [
      | inl unread ↦ read c text is fault unread
      | inr other ↦
          none fault (subst (λ (d : TextParts). IsPartsFault seal d fault.cause fault.line)
          (sym (one_form c other.0 text is other.1)) other.2)
    ]
