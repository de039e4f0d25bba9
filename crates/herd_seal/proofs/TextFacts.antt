-- What is read of a certificate's text, joined again.
use Rattle.std.proofs.Common.{◌≡◌, ◌∙◌, ℕ, List, [], ◌∷◌, ◌++◌, codes, decimal, ap, append_assoc, append-nil, Option}
use Rattle.std.specs.List.{flat_map}
use Rattle.std.proofs.lemmas.Grind.{flat_map-append}
use Rattle.hex.specs.Hex.{encode_lower}
use Rattle.herd_frozen.specs.declared.rules.animal.Animal.{Animal}
use Rattle.herd_record_line.specs.RecordLine.{field_text, record_text}
use Rattle.herd_record_line.proofs.CutFacts.{field_joined}
use Rattle.herd_seal.specs.Seal.{place_text, row_text}
use Rattle.herd_seal.specs.CertificateText.{certificate_text, digest_line, header_line, place_line}
use Rattle.herd_seal.specs.declared.certificate.Claim.{Claim}
use Rattle.herd_seal.specs.declared.certificate.CertifiedRow.{CertifiedRow}
use Rattle.herd_seal.specs.CertificateText.{row_line}

-- one field more of a line
one_more : (done field rest behind line : List ℕ) → field ++ 44 ∷ rest ≡ behind → done ++ behind ≡ line → (done ++ field_text field) ++ rest ≡ line
one_more done field rest behind line joined so_far = append_assoc done (field_text field) rest ∙ ap (λ (l : List ℕ). done ++ l) (field_joined field rest ∙ joined) ∙ so_far

pub digest_joined : (digest line behind text : List ℕ) → encode_lower digest ≡ line → (line ++ (10 ∷ [])) ++ behind ≡ text → digest_line digest ++ behind ≡ text
unfolding digest_line
digest_joined digest line behind text is joined = ap (λ (l : List ℕ). (l ++ (10 ∷ [])) ++ behind) is ∙ joined

pub row_joined : (line place sire dam told r1 r2 : List ℕ) (at : ℕ) (its_sire its_dam : Option ℕ) (number : List ℕ) (animal : Animal)
    → place ++ 44 ∷ r1 ≡ line → sire ++ 44 ∷ r2 ≡ r1 → dam ++ 44 ∷ told ≡ r2
    → decimal at ≡ place → place_text its_sire ≡ sire → place_text its_dam ≡ dam → record_text number animal ≡ told
    → place_line at (row_text its_sire its_dam number animal) ≡ line ++ (10 ∷ [])
unfolding place_line row_text
row_joined line place sire dam told r1 r2 at its_sire its_dam number animal p1 p2 p3 q1 q2 q3 q4 =
    rw (q1, q2, q3, q4)
    (ap (λ (l : List ℕ). l ++ (10 ∷ []))
    (ap (λ (l : List ℕ). field_text place ++ l) (one_more (field_text sire) dam told r2 r1 p3 (field_joined sire r2 ∙ p2)) ∙ field_joined place r1 ∙ p1))

pub header_joined : (line kind seal steps animals place number told r1 r2 r3 r4 r5 : List ℕ) (digest : List ℕ) (claim : Claim)
    → kind ++ 44 ∷ r1 ≡ line → seal ++ 44 ∷ r2 ≡ r1 → steps ++ 44 ∷ r3 ≡ r2 → animals ++ 44 ∷ r4 ≡ r3 → place ++ 44 ∷ r5 ≡ r4 → number ++ 44 ∷ told ≡ r5
    → codes "herdbook-certificate-1" ≡ kind → encode_lower digest ≡ seal → decimal claim.steps ≡ steps → decimal claim.animals ≡ animals
    → decimal claim.place ≡ place → claim.number ≡ number
    → header_line digest claim told ≡ line ++ (10 ∷ [])
unfolding header_line
header_joined line kind seal steps animals place number told r1 r2 r3 r4 r5 digest claim p1 p2 p3 p4 p5 p6 q1 q2 q3 q4 q5 q6 =
    rw (q2, q3, q4, q5, q6)
    (ap (λ (l : List ℕ). l ++ (10 ∷ []))
    (one_more _ number told r5 line p6 (one_more _ place r5 r4 line p5 (one_more _ animals r4 r3 line p4 (one_more _ steps r3 r2 line p3
    (one_more _ seal r2 r1 line p2 (ap (λ (l : List ℕ). field_text l ++ r1) q1 ∙ field_joined kind r1 ∙ p1)))))))

-- one line more of several
lines_more : {X : Type 0} (f : X → List ℕ) (xs : List X) (x : X) (behind rest text : List ℕ) → flat_map f xs ++ rest ≡ text → f x ++ behind ≡ rest
    → flat_map f (xs ++ (x ∷ [])) ++ behind ≡ text
lines_more f xs x behind rest text whole next =
    ap (λ (l : List ℕ). l ++ behind) (flat_map-append f xs (x ∷ []) ∙ ap (λ (l : List ℕ). flat_map f xs ++ l) (append-nil (f x)))
    ∙ append_assoc (flat_map f xs) (f x) behind ∙ ap (λ (l : List ℕ). flat_map f xs ++ l) next ∙ whole

pub rows_more : (rows new : List CertifiedRow) (row : CertifiedRow) (line behind rest text : List ℕ) → flat_map row_line rows ++ rest ≡ text
    → (line ++ (10 ∷ [])) ++ behind ≡ rest → row_line row ≡ line ++ (10 ∷ []) → new ≡ rows ++ (row ∷ []) → flat_map row_line new ++ behind ≡ text
rows_more rows new row line behind rest text whole joined is grown =
    ap (λ (l : List CertifiedRow). flat_map row_line l ++ behind) grown
    ∙ lines_more row_line rows row behind rest text whole (ap (λ (l : List ℕ). l ++ behind) is ∙ joined)

pub digests_more : (digests new : List (List ℕ)) (digest line behind rest text : List ℕ) → flat_map digest_line digests ++ rest ≡ text
    → (line ++ (10 ∷ [])) ++ behind ≡ rest → encode_lower digest ≡ line → new ≡ digests ++ (digest ∷ []) → flat_map digest_line new ++ behind ≡ text
digests_more digests new digest line behind rest text whole joined is grown =
    ap (λ (l : List (List ℕ)). flat_map digest_line l ++ behind) grown
    ∙ lines_more digest_line digests digest behind rest text whole (digest_joined digest line behind rest is joined)

pub whole_joined : (seal : List ℕ) (claim : Claim) (told : List ℕ) (rows : List CertifiedRow) (digests : List (List ℕ)) (line body rest text : List ℕ)
    → (line ++ (10 ∷ [])) ++ body ≡ text → header_line seal claim told ≡ line ++ (10 ∷ []) → flat_map row_line rows ++ rest ≡ body → flat_map digest_line digests ≡ rest
    → certificate_text seal claim told rows digests ≡ text
unfolding certificate_text
whole_joined seal claim told rows digests line body rest text joined header rows_are digests_are =
    ap (λ (l : List ℕ). (header_line seal claim told ++ flat_map row_line rows) ++ l) digests_are
    ∙ append_assoc (header_line seal claim told) (flat_map row_line rows) rest
    ∙ ap (λ (l : List ℕ). header_line seal claim told ++ l) rows_are
    ∙ ap (λ (l : List ℕ). l ++ body) header ∙ joined
