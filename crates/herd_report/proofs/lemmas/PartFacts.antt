-- Certificates, coefficients, records, matings and relationships of named animals ask for no others but their ancestors.
use Rattle.std.proofs.Common.{ap₂, ◌&&◌, ◌||◌, ◌≡◌, ◌++◌, ◌∙◌, ◌*◌, ◌-◌, ℕ, zero, suc, arith, true, false, if◌then◌else◌, not, inl, inr, ⊎_elim, List, [], ◌∷◌, All, Option, Some, None, Contains, ap, map, refl, sym}
use Rattle.std.specs.Prelude.{is_some}
use Rattle.std.specs.List.{filter, flat_map}
use Rattle.std.proofs.lemmas.List.Elements.{All-head, All-tail, filter_passes}
use Rattle.std.specs.Map.{keys_of}
use Rattle.std.specs.Option.{option_and_then, option_map, option_map_or}
use Rattle.herd_frozen.specs.declared.rules.animal.Animal.{Animal}
use Rattle.herd_frozen.specs.declared.freezing.frozen.Row.{Row}
use Rattle.herd_frozen.specs.declared.TheConstants.{DEPTH_LIMIT, MOST_ANIMALS}
use Rattle.herd_frozen.specs.freezing.Frozen.{IsFrozenFrom, book_of}
use Rattle.herd_animal.specs.Sex.{is_male}
use Rattle.herd_frozen.specs.rules.Book.{Book, dam_of, is_there, parentage_of, record_of, sire_of}
use Rattle.herd_frozen.specs.rules.ParentFault.{first_that_holds}
use Rattle.herd_frozen.specs.rules.Paths.{has_path}
use Rattle.herd_frozen.proofs.lemmas.ListFacts.{option_cases}
use Rattle.herd_frozen.proofs.lemmas.rules.PermutedFacts.{record_of-permuted}
use Rattle.herd_kinship.specs.Table.{coefficient, entry}
use Rattle.herd_kinship.proofs.lemmas.ancestry.LawfulAncestry.{IsIncluded, IsLawful}
use Rattle.herd_kinship.proofs.lemmas.ancestry.Depth.{known_some}
use Rattle.herd_kinship.proofs.lemmas.ancestry.Renamed.{coefficient-included, entry-included}
use Rattle.herd_kinship.proofs.lemmas.ancestry.Table.{entry-none_left}
use Rattle.herd_advice.specs.FrozenAncestry.{ancestry_of}
use Rattle.herd_advice.specs.Mating.{mating_fault}
use Rattle.herd_advice.specs.declared.mating_advice.MatingFault.{MatingFault}
use Rattle.herd_advice.specs.declared.mating_advice.MatingFault.TheVariants.{SireMissing, DamMissing, SireNotMale, DamNotFemale, TooDeep}
use Rattle.herd_advice.proofs.lemmas.BookFacts.{number_there, record_there}
use Rattle.herd_advice.proofs.lemmas.FrozenFacts.{frozen-lawful}
use Rattle.herd_pedigree.specs.Part.{IsFrozenPart}
use Rattle.herd_record_line.specs.RecordLine.{known_text, record_line}
use Rattle.herd_report.specs.declared.writing.ancestors.Parent.{Parent}
use Rattle.herd_report.specs.declared.writing.ancestors.Parent.TheVariants.{Sire, Dam}
use Rattle.herd_report.specs.writing.Ancestors.{ancestor_of, letter_of, three_generations}
use Rattle.herd_report.specs.writing.Certificate.{ancestors_text, animal_text, certificate_of, certificates_of, labelled_line}
use Rattle.herd_report.specs.writing.CoefficientLine.{coefficient_line}
use Rattle.herd_report.specs.writing.MatingList.{mating_line, mating_text, refused_line}
use Rattle.herd_report.specs.writing.RecordList.{records_text}
use Rattle.herd_report.specs.writing.RefusedText.{refused_line_end}
use Rattle.herd_report.specs.writing.Registered.{are_there}
use Rattle.herd_report.specs.writing.RelationshipList.{absent_line, lines_with, pair_lines, relationship_line, relationships_text}

map-itself : (o : Option (List ℕ)) → option_map (λ x. x) o ≡ o
map-itself None = refl
map-itself (Some x) = refl

further : {X : Type 0} (y x : X) (xs : List X) → Contains xs x → Contains (y ∷ xs) x
further y x xs has = (suc has.0, (let low = has.1 in omega (arith, low)), has.2)

-- whether the animals are there is told by the part
are_there-same : (book : Book) (rows : List Row) (list : List (List ℕ)) → ((x : List ℕ) → Contains list x → record_of (book_of rows) x ≡ record_of book x) → are_there (book_of rows) list ≡ are_there book list
are_there-same book rows [] same = refl
are_there-same book rows (x ∷ list) same =
    ap₂ (λ a b. a && b) (ap is_some (same x (zero, omega arith, refl))) (are_there-same book rows list (λ y has. same y (further x y list has)))

pub are_there-part : (book : Book) (numbers : List (List ℕ)) (rows : List Row) → IsFrozenPart DEPTH_LIMIT MOST_ANIMALS book numbers rows → are_there (book_of rows) numbers ≡ are_there book numbers
are_there-part book numbers rows part = are_there-same book rows numbers part.named

module _ (book : Book) (numbers : List (List ℕ)) (rows whole : List Row) (part : IsFrozenPart DEPTH_LIMIT MOST_ANIMALS book numbers rows) (frozen : IsFrozenFrom DEPTH_LIMIT MOST_ANIMALS book whole) where
  in-whole : (x : List ℕ) → record_of (book_of whole) x ≡ record_of book x
  in-whole x = record_of-permuted book (book_of whole) part.lawful.once frozen.same x

  -- an animal of the part has its record
  record-same : (x : List ℕ) → Contains (keys_of (book_of rows)) x → record_of (book_of whole) x ≡ record_of (book_of rows) x
  record-same x has = let a = record_there (book_of rows) x has in in-whole x ∙ part.same x a.0 a.1 ∙ sym a.1

  sire-same : (x : List ℕ) → Contains (keys_of (book_of rows)) x → sire_of (book_of whole) x ≡ sire_of (book_of rows) x
  sire-same x has = ap (λ found. option_and_then (λ animal. animal.sire) found) (record-same x has)

  dam-same : (x : List ℕ) → Contains (keys_of (book_of rows)) x → dam_of (book_of whole) x ≡ dam_of (book_of rows) x
  dam-same x has = ap (λ found. option_and_then (λ animal. animal.dam) found) (record-same x has)

  lawful : IsLawful (ancestry_of rows)
  lawful = frozen-lawful DEPTH_LIMIT MOST_ANIMALS rows part.frozen

  included : IsIncluded (ancestry_of rows) (ancestry_of whole) (λ x. x)
  included = record {
    same = λ x y cx cy. refl;
    before = λ x y cx cy. rw (record-same x cx, record-same y cy) refl;
    sire = λ x cx. sire-same x cx ∙ sym (map-itself (sire_of (book_of rows) x));
    dam = λ x cx. dam-same x cx ∙ sym (map-itself (dam_of (book_of rows) x));
  }

  coefficient-same : (x : List ℕ) → Contains (keys_of (book_of rows)) x → coefficient (ancestry_of whole) DEPTH_LIMIT x ≡ coefficient (ancestry_of rows) DEPTH_LIMIT x
  coefficient-same x has = coefficient-included (ancestry_of rows) (ancestry_of whole) (λ x. x) lawful included DEPTH_LIMIT x has

  -- so have its ancestors
  through : (path : List Parent) (parent : Option (List ℕ)) → ((x : List ℕ) → Contains (keys_of (book_of rows)) x → ancestor_of (book_of whole) x path ≡ ancestor_of (book_of rows) x path)
      → ((p : List ℕ) → parent ≡ Some p → Contains (keys_of (book_of rows)) p)
      → option_and_then (λ known. ancestor_of (book_of whole) known path) parent ≡ option_and_then (λ known. ancestor_of (book_of rows) known path) parent
  through path None rest there = refl
  through path (Some p) rest there = rest p (there p refl)

  ancestor-same : (path : List Parent) (x : List ℕ) → Contains (keys_of (book_of rows)) x → ancestor_of (book_of whole) x path ≡ ancestor_of (book_of rows) x path
  ancestor-same [] x has = refl
  ancestor-same (Sire ∷ path) x has =
      ap (λ parent. option_and_then (λ known. ancestor_of (book_of whole) known path) parent) (sire-same x has)
      ∙ through path (sire_of (book_of rows) x) (ancestor-same path) (λ p is. (lawful.parents p x has (inl is)).0)
  ancestor-same (Dam ∷ path) x has =
      ap (λ parent. option_and_then (λ known. ancestor_of (book_of whole) known path) parent) (dam-same x has)
      ∙ through path (dam_of (book_of rows) x) (ancestor-same path) (λ p is. (lawful.parents p x has (inr is)).0)

  ancestors-same : (x : List ℕ) → Contains (keys_of (book_of rows)) x → ancestors_text (book_of whole) x ≡ ancestors_text (book_of rows) x
  unfolding ancestors_text
  ancestors-same x has = λ i. flat_map (λ path. labelled_line (map letter_of path) (known_text (ancestor-same path x has i))) three_generations

  certificate-same : (x : List ℕ) → Contains numbers x → certificate_of whole x ≡ certificate_of rows x
  certificate-same x named =
      let found : record_of (book_of whole) x ≡ record_of (book_of rows) x = in-whole x ∙ sym (part.named x named) in
      ⊎_elim
      (λ (none : record_of (book_of rows) x ≡ None). rw (found, none) refl)
      (λ some.
      let has : Contains (keys_of (book_of rows)) x = number_there (book_of rows) x some.0 some.1 in
      λ i. option_map_or (λ animal. animal_text x animal (coefficient-same x has i) ++ ancestors-same x has i) (found i) [])
      (option_cases (record_of (book_of rows) x))

  each-same : (list : List (List ℕ)) → ((x : List ℕ) → Contains list x → Contains numbers x) → certificates_of whole list ≡ certificates_of rows list
  each-same [] named = refl
  each-same (x ∷ list) named =
      ap₂ (λ a b. a ++ b) (certificate-same x (named x (zero, omega arith, refl))) (each-same list (λ y has. named y (further x y list has)))

  -- the certificates of the whole book are those of the part
  pub certificates-part : certificates_of whole numbers ≡ certificates_of rows numbers
  certificates-part = each-same numbers (λ x has. has)

  -- a named animal has its record, if there is one
  record-part : (x : List ℕ) → Contains numbers x → record_of (book_of whole) x ≡ record_of (book_of rows) x
  record-part x named = in-whole x ∙ sym (part.named x named)

  pub records-part : (x : List ℕ) → Contains numbers x → records_text whole (x ∷ []) ≡ records_text rows (x ∷ [])
  records-part x named = ap (λ found. option_map_or (record_line x) found [] ++ []) (record-part x named)

  -- an animal that isn't there has no parents
  coefficient-absent : (list : List Row) (x : List ℕ) → record_of (book_of list) x ≡ None → coefficient (ancestry_of list) DEPTH_LIMIT x ≡ 0
  unfolding coefficient
  coefficient-absent list x none =
      ap (λ found. entry (ancestry_of list) (2 * DEPTH_LIMIT - 1) (option_and_then (λ animal. animal.sire) found) (dam_of (book_of list) x)) none
      ∙ entry-none_left (ancestry_of list) (2 * DEPTH_LIMIT - 1) (dam_of (book_of list) x)

  -- and its coefficient
  pub coefficient-part : (x : List ℕ) → Contains numbers x → coefficient (ancestry_of whole) DEPTH_LIMIT x ≡ coefficient (ancestry_of rows) DEPTH_LIMIT x
  coefficient-part x named =
      ⊎_elim
      (λ (none : record_of (book_of rows) x ≡ None). coefficient-absent whole x (record-part x named ∙ none) ∙ sym (coefficient-absent rows x none))
      (λ some. coefficient-same x (number_there (book_of rows) x some.0 some.1))
      (option_cases (record_of (book_of rows) x))

  -- paths of known parents are the same from an animal of the part
  path-through : (n : ℕ) (parent : Option (List ℕ)) → ((p : List ℕ) → Contains (keys_of (book_of rows)) p → has_path (parentage_of (book_of whole)) n p ≡ has_path (parentage_of (book_of rows)) n p)
      → ((p : List ℕ) → parent ≡ Some p → Contains (keys_of (book_of rows)) p)
      → option_map_or (has_path (parentage_of (book_of whole)) n) parent false ≡ option_map_or (has_path (parentage_of (book_of rows)) n) parent false
  path-through n None rest there = refl
  path-through n (Some p) rest there = rest p (there p refl)

  path-same : (n : ℕ) (x : List ℕ) → Contains (keys_of (book_of rows)) x → has_path (parentage_of (book_of whole)) n x ≡ has_path (parentage_of (book_of rows)) n x
  unfolding has_path
  path-same zero x has = ap is_some (record-same x has)
  path-same (suc n) x has =
      let here = ap is_some (record-same x has) in
      let sires = ap (λ parent. option_map_or (has_path (parentage_of (book_of whole)) n) parent false) (sire-same x has)
      ∙ path-through n (sire_of (book_of rows) x) (path-same n) (λ p is. (lawful.parents p x has (inl is)).0) in
      let dams = ap (λ parent. option_map_or (has_path (parentage_of (book_of whole)) n) parent false) (dam-same x has)
      ∙ path-through n (dam_of (book_of rows) x) (path-same n) (λ p is. (lawful.parents p x has (inr is)).0) in
      λ i. here i && (sires i || dams i)

  path-absent : (list : List Row) (n : ℕ) (x : List ℕ) → record_of (book_of list) x ≡ None → has_path (parentage_of (book_of list)) n x ≡ false
  unfolding has_path
  path-absent list zero x none = ap is_some none
  path-absent list (suc n) x none =
      ap (λ found. is_some found && (option_map_or (has_path (parentage_of (book_of list)) n) (sire_of (book_of list) x) false || option_map_or (has_path (parentage_of (book_of list)) n) (dam_of (book_of list) x) false)) none

  path-part : (n : ℕ) (x : List ℕ) → Contains numbers x → has_path (parentage_of (book_of whole)) n x ≡ has_path (parentage_of (book_of rows)) n x
  path-part n x named =
      ⊎_elim
      (λ (none : record_of (book_of rows) x ≡ None). path-absent whole n x (record-part x named ∙ none) ∙ sym (path-absent rows n x none))
      (λ some. path-same n x (number_there (book_of rows) x some.0 some.1))
      (option_cases (record_of (book_of rows) x))

  -- so is the fault of a mating of two named animals
  fault-same : (sire dam : List ℕ) → Contains numbers sire → Contains numbers dam → mating_fault DEPTH_LIMIT (book_of whole) sire dam ≡ mating_fault DEPTH_LIMIT (book_of rows) sire dam
  unfolding mating_fault
  fault-same sire dam sired dammed =
      let s = ap is_some (record-part sire sired) in
      let d = ap is_some (record-part dam dammed) in
      let ps = path-part DEPTH_LIMIT sire sired in
      let pd = path-part DEPTH_LIMIT dam dammed in
      λ i. first_that_holds
      ((not (s i), SireMissing) ∷ (not (d i), DamMissing) ∷ (not (is_male sire), SireNotMale) ∷ (is_male dam, DamNotFemale) ∷ (ps i || pd i, TooDeep) ∷ [])

  -- which there is where one isn't in the book
  sire-missing : (sire dam : List ℕ) → record_of (book_of rows) sire ≡ None → mating_fault DEPTH_LIMIT (book_of rows) sire dam ≡ Some SireMissing
  unfolding mating_fault
  sire-missing sire dam none =
      ap (λ found. first_that_holds
      ((not (is_some found), SireMissing) ∷ (not (is_there (book_of rows) dam), DamMissing) ∷ (not (is_male sire), SireNotMale) ∷ (is_male dam, DamNotFemale)
      ∷ (has_path (parentage_of (book_of rows)) DEPTH_LIMIT sire || has_path (parentage_of (book_of rows)) DEPTH_LIMIT dam, TooDeep) ∷ [])) none

  dam-missing : (sire dam : List ℕ) (animal : Animal) → record_of (book_of rows) sire ≡ Some animal → record_of (book_of rows) dam ≡ None → mating_fault DEPTH_LIMIT (book_of rows) sire dam ≡ Some DamMissing
  unfolding mating_fault
  dam-missing sire dam animal some none = λ i.
      first_that_holds
      ((not (is_some (some i)), SireMissing) ∷ (not (is_some (none i)), DamMissing) ∷ (not (is_male sire), SireNotMale) ∷ (is_male dam, DamNotFemale)
      ∷ (has_path (parentage_of (book_of rows)) DEPTH_LIMIT sire || has_path (parentage_of (book_of rows)) DEPTH_LIMIT dam, TooDeep) ∷ [])

  -- and where there is none, their entry is the same
  entry-part : (sire dam : List ℕ) (k : ℕ) → mating_fault DEPTH_LIMIT (book_of rows) sire dam ≡ None → entry (ancestry_of whole) k (Some sire) (Some dam) ≡ entry (ancestry_of rows) k (Some sire) (Some dam)
  entry-part sire dam k faultless =
      ⊎_elim
      (λ (none : record_of (book_of rows) sire ≡ None). let missing = sire-missing sire dam none in absurd (cc))
      (λ some.
      ⊎_elim
      (λ (none : record_of (book_of rows) dam ≡ None). let missing = dam-missing sire dam some.0 some.1 none in absurd (cc))
      (λ (other : (animal : Animal) × (record_of (book_of rows) dam ≡ Some animal)).
      entry-included (ancestry_of rows) (ancestry_of whole) (λ x. x) lawful included k (Some sire) (Some dam)
      (known_some (ancestry_of rows) sire (number_there (book_of rows) sire some.0 some.1))
      (known_some (ancestry_of rows) dam (number_there (book_of rows) dam other.0 other.1)))
      (option_cases (record_of (book_of rows) dam)))
      (option_cases (record_of (book_of rows) sire))

  by-fault : (sire dam : List ℕ) (fault : Option MatingFault) → mating_fault DEPTH_LIMIT (book_of rows) sire dam ≡ fault
      → option_map_or (refused_line sire) fault (coefficient_line sire (entry (ancestry_of whole) (2 * DEPTH_LIMIT - 1) (Some sire) (Some dam)))
      ≡ option_map_or (refused_line sire) fault (coefficient_line sire (entry (ancestry_of rows) (2 * DEPTH_LIMIT - 1) (Some sire) (Some dam)))
  by-fault sire dam None is = ap (coefficient_line sire) (entry-part sire dam (2 * DEPTH_LIMIT - 1) is)
  by-fault sire dam (Some fault) is = refl

  line-same : (dam sire : List ℕ) → Contains numbers dam → Contains numbers sire → mating_line (book_of whole) dam sire ≡ mating_line (book_of rows) dam sire
  line-same dam sire dammed sired =
      ap (λ fault. option_map_or (refused_line sire) fault (coefficient_line sire (entry (ancestry_of whole) (2 * DEPTH_LIMIT - 1) (Some sire) (Some dam)))) (fault-same sire dam sired dammed)
      ∙ by-fault sire dam (mating_fault DEPTH_LIMIT (book_of rows) sire dam) refl

  -- so are the lines of matings of a named dam with named sires
  pub matings-part : (dam : List ℕ) (sires : List (List ℕ)) → Contains numbers dam → ((x : List ℕ) → Contains sires x → Contains numbers x) → mating_text (book_of whole) dam sires ≡ mating_text (book_of rows) dam sires
  matings-part dam [] dammed named = refl
  matings-part dam (x ∷ sires) dammed named =
      ap₂ (λ a b. a ++ b) (line-same dam x dammed (named x (zero, omega arith, refl))) (matings-part dam sires dammed (λ y has. named y (further x y sires has)))

  -- relationships of animals of the part are the same
  known-there : (x : List ℕ) → is_there (book_of rows) x ≡ true → Contains (keys_of (book_of rows)) x
  known-there x there =
      ⊎_elim
      (λ (none : record_of (book_of rows) x ≡ None). let missing = ap is_some none in absurd (cc))
      (λ some. number_there (book_of rows) x some.0 some.1)
      (option_cases (record_of (book_of rows) x))

  entry-same : (x y : List ℕ) (k : ℕ) → Contains (keys_of (book_of rows)) x → Contains (keys_of (book_of rows)) y → entry (ancestry_of whole) k (Some x) (Some y) ≡ entry (ancestry_of rows) k (Some x) (Some y)
  entry-same x y k has_x has_y =
      entry-included (ancestry_of rows) (ancestry_of whole) (λ x. x) lawful included k (Some x) (Some y) (known_some (ancestry_of rows) x has_x) (known_some (ancestry_of rows) y has_y)

  lines-same : (x : List ℕ) (list : List (List ℕ)) → Contains (keys_of (book_of rows)) x → All (Contains (keys_of (book_of rows))) list → lines_with (book_of whole) x list ≡ lines_with (book_of rows) x list
  lines-same x [] has each = refl
  lines-same x (y ∷ list) has each =
      ap₂ (λ numerator rest. relationship_line x y numerator ++ rest) (entry-same x y (2 * DEPTH_LIMIT) has (All-head (Contains (keys_of (book_of rows))) y list each))
      (lines-same x list has (All-tail (Contains (keys_of (book_of rows))) y list each))

  pairs-same : (list : List (List ℕ)) → All (Contains (keys_of (book_of rows))) list → pair_lines (book_of whole) true [] list ≡ pair_lines (book_of rows) true [] list
  pairs-same [] each = refl
  pairs-same (x ∷ list) each =
      ap₂ (λ a b. a ++ b) (lines-same x (x ∷ list) (All-head (Contains (keys_of (book_of rows))) x list each) each)
      (pairs-same list (All-tail (Contains (keys_of (book_of rows))) x list each))

  -- a named animal is in the whole book where it is in the part
  there-same : (x : List ℕ) → Contains numbers x → is_there (book_of whole) x ≡ is_there (book_of rows) x
  there-same x named = ap is_some (record-part x named)

  absent-same : (list : List (List ℕ)) → ((x : List ℕ) → Contains list x → Contains numbers x) → flat_map (absent_line (book_of whole)) list ≡ flat_map (absent_line (book_of rows)) list
  absent-same [] named = refl
  absent-same (x ∷ list) named =
      ap₂ (λ there rest. (if there then [] else x ++ refused_line_end 1) ++ rest) (there-same x (named x (zero, omega arith, refl)))
      (absent-same list (λ y has. named y (further x y list has)))

  kept-same : (list : List (List ℕ)) → ((x : List ℕ) → Contains list x → Contains numbers x) → filter (is_there (book_of whole)) list ≡ filter (is_there (book_of rows)) list
  kept-same [] named = refl
  kept-same (x ∷ list) named =
      ap₂ (λ there rest. if there then x ∷ rest else rest) (there-same x (named x (zero, omega arith, refl)))
      (kept-same list (λ y has. named y (further x y list has)))

  -- the relationships of named animals with one another
  pub relationships-part : relationships_text (book_of whole) numbers [] ≡ relationships_text (book_of rows) numbers []
  relationships-part =
      let each : All (Contains (keys_of (book_of rows))) (filter (is_there (book_of rows)) numbers) =
      λ place other within. known-there _ (filter_passes (is_there (book_of rows)) numbers place other within) in
      ap₂ (λ absent there. absent ++ [] ++ pair_lines (book_of whole) true [] there) (absent-same numbers (λ x has. has)) (kept-same numbers (λ x has. has))
      ∙ ap (λ pairs. flat_map (absent_line (book_of rows)) numbers ++ [] ++ pairs) (pairs-same (filter (is_there (book_of rows)) numbers) each)
