-- What a certificate is made of, and its text.
use Rattle.std.proofs.Common.{◌≡◌, ◌∙◌, ℕ, zero, suc, ◌+◌, ◌<◌, List, [], ◌∷◌, ◌++◌, codes, decimal, length, take, slice_get, Option, Some, None, refl, sym, ap, subst, arith, append_assoc}
use Rattle.std.specs.List.{flat_map}
use Rattle.std.specs.Option.{option_map, option_map_or, option_to_list}
use Rattle.herd_frozen.specs.declared.freezing.frozen.Row.{Row}
use Rattle.hex.specs.Hex.{encode_lower}
use Rattle.merkle_tree.specs.Shown.{beside}
use Rattle.merkle_tree.specs.Tree.{digests_of}
use Rattle.herd_record_line.specs.RecordLine.{field_text}
use Rattle.herd_text.proofs.lemmas.TextFacts.{Holds, passes_nothing, some_after, some_before}
use Rattle.herd_text.specs.Text.{PassesOn}
use Rattle.herd_text.specs.CoefficientText.{coefficient_text}
use Rattle.herd_seal.specs.Certificate.{row_bytes}
use Rattle.herd_seal.specs.CertificateText.{certificate_text, digest_line, header_line, place_line, row_line}
use Rattle.herd_seal.specs.Seal.{rows_of, seal_of}
use Rattle.herd_seal.specs.declared.certificate.CertifiedRow.{CertifiedRow}
use Rattle.herd_seal.specs.declared.certificate.Claim.{Claim}
use Rattle.herd_certificate.specs.Parts.{ArePartsAt}
use Rattle.herd_certificate.specs.Sealed.{certified, claim_at, coefficient_told, line_at, places_shown, rows_at, seal_line, sealed_at}
use Rattle.herd_certificate.specs.declared.parts.Parts.{Parts}

one_line : (place : ℕ) (found : Option Row) (more : List CertifiedRow)
    → flat_map row_line (option_to_list (option_map (certified place) found) ++ more) ≡ option_map_or (λ (row : Row). row_line (certified place row)) found [] ++ flat_map row_line more
one_line place None more = refl
one_line place (Some row) more = refl

-- the lines of the rows at some places
lines_are : (rows : List Row) (places : List ℕ) → flat_map row_line (rows_at rows places) ≡ flat_map (line_at rows) places
lines_are rows [] = refl
lines_are rows (place ∷ places) =
    one_line place (slice_get rows place) (rows_at rows places) ∙ ap (λ (l : List ℕ). line_at rows place ++ l) (lines_are rows places)

-- the line of the row there
pub line_is : (rows : List Row) (place : ℕ) (row : Row) → slice_get rows place ≡ Some row → row_line (certified place row) ≡ line_at rows place
line_is rows place row there = ap (λ (found : Option Row). option_map_or (λ (r : Row). row_line (certified place r)) found []) (sym there)

-- it isn't empty
pub some_line : (rows : List Row) (place : ℕ) (row : Row) → slice_get rows place ≡ Some row → 0 < length (line_at rows place)
unfolding place_line
some_line rows place row there =
    let front = field_text (decimal place) ++ row_bytes (certified place row) in
    let some : 0 < length (row_line (certified place row)) = some_after front (codes "\n") (omega arith) in
    subst (λ (line : List ℕ). 0 < length line) (line_is rows place row there) some

pub some_digest_line : (digest : List ℕ) → 0 < length (digest_line digest)
unfolding digest_line
some_digest_line digest = some_after (encode_lower digest) (codes "\n") (omega arith)

pub some_seal_line : (seal : List ℕ) (steps animals : ℕ) → 0 < length (seal_line seal steps animals)
unfolding seal_line
some_seal_line seal steps animals = some_after (field_text (encode_lower seal) ++ field_text (decimal steps) ++ decimal animals) (codes "\n") (omega arith)

some_header : (seal : List ℕ) (claim : Claim) (told : List ℕ) → 0 < length (header_line seal claim told)
unfolding header_line
some_header seal claim told =
    some_after
    (field_text (codes "herdbook-certificate-1") ++ field_text (encode_lower seal) ++ field_text (decimal claim.steps) ++ field_text (decimal claim.animals)
    ++ field_text (decimal claim.place) ++ field_text claim.number ++ told)
    (codes "\n") (omega arith)

-- the header, and then the lines of the rows and of the digests, are the certificate
pub certificate_made : {A : Type 0} (rows : List Row) (steps place : ℕ) (parts : Parts A) → ArePartsAt rows steps place parts
    → header_line parts.seal parts.claim (coefficient_text (codes ",") parts.coefficient.numerator)
    ++ (flat_map (line_at rows) parts.places.items ++ flat_map digest_line parts.beside.items) ≡ sealed_at rows steps place
unfolding sealed_at certificate_text
certificate_made rows steps place parts are =
    let header = header_line (seal_of steps (rows_of rows)) (claim_at rows steps place) (coefficient_told rows place) in
    let shown = flat_map (line_at rows) (places_shown rows place) in
    let others = flat_map digest_line (beside (digests_of (rows_of rows)) (places_shown rows place)) in
    rw (are.seal, are.claim, are.coefficient, are.places, are.beside, lines_are rows (places_shown rows place)) (sym (append_assoc header shown others))

-- it isn't empty
pub some_certificate : (rows : List Row) (steps place : ℕ) → 0 < length (sealed_at rows steps place)
unfolding sealed_at certificate_text
some_certificate rows steps place =
    let header = header_line (seal_of steps (rows_of rows)) (claim_at rows steps place) (coefficient_told rows place) in
    let shown = flat_map row_line (rows_at rows (places_shown rows place)) in
    let others = flat_map digest_line (beside (digests_of (rows_of rows)) (places_shown rows place)) in
    some_before (header ++ shown) others (some_before header shown (some_header (seal_of steps (rows_of rows)) (claim_at rows steps place) (coefficient_told rows place)))

-- what is written first waits, before the lines of the rows and of the digests
pub holds_header : {known : Option (List ℕ)} {text waiting : List ℕ} (header shown others : List ℕ) → header ++ (shown ++ others) ≡ text → waiting ≡ [] ++ header
    → Holds known known text waiting (shown ++ others)
holds_header {known} {text} {waiting} header shown others made is =
    record { passed = subst (λ (t : List ℕ). PassesOn known known t (waiting ++ (shown ++ others))) (ap (λ (l : List ℕ). l ++ (shown ++ others)) is ∙ made) (passes_nothing known (waiting ++ (shown ++ others))) }

-- one more element
pub take_next : {Y : Type 0} (zs : List Y) (n : ℕ) (y : Y) (old new : List Y) → old ≡ take n zs → slice_get zs n ≡ Some y → new ≡ old ++ (y ∷ []) → new ≡ take (n + 1) zs
take_next {Y} zs n y old new is at grown = grown ∙ ap (λ (l : List Y). l ++ (y ∷ [])) is ∙ one_more zs n y at
  where
    one_more : (zs : List Y) (n : ℕ) (y : Y) → slice_get zs n ≡ Some y → take n zs ++ (y ∷ []) ≡ take (n + 1) zs
    one_more [] n y e = absurd (cc)
    one_more (z ∷ zs) zero y e = let same : z ≡ y = cc in ap (λ (x : Y). x ∷ []) (sym same)
    one_more (z ∷ zs) (suc n) y e =
        let next : suc n + 1 ≡ suc (n + 1) = omega arith in
        ap (λ (l : List Y). z ∷ l) (one_more zs n y e) ∙ ap (λ (m : ℕ). take m (z ∷ zs)) (sym next)
