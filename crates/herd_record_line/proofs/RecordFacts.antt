-- The fields of a record, from which it can be told: each has one spelling, without a comma.
use Rattle.std.proofs.Common.{◌≡◌, ◌≢◌, ◌∙◌, inl, inr, ℕ, ℤ, ◌<◌, ◌^◌, Bool, true, false}
use Rattle.std.proofs.Common.{List, [], ◌∷◌, ◌++◌, length, decimal, get_or, Option, Some, None, refl, sym, ap}
use Rattle.std.proofs.Common.{subst, arith, append_assoc, ⊎_elim, lit<}
use Rattle.std.specs.Option.{ForSome}
use Rattle.std.proofs.lemmas.Bool.{cases_eq, cases_order}
use Rattle.std.proofs.lemmas.Fmt.{decimal_injective, decimal_is_IsNumeral, decimal_nonempty, first_decimal}
use Rattle.std.proofs.lemmas.Fmt.{length-decimal-le}
use Rattle.std.proofs.lemmas.Grind.{get_or_default_zero}
use Rattle.std.proofs.lemmas.List.Elements.{All-append, All-cons, All-nil}
use Rattle.std.proofs.lemmas.Str.Parse.{digit_at}
use Rattle.herd_animal.specs.AnimalNumber.{IsAnimalNumber}
use Rattle.herd_animal.specs.Day.{IsDay, day_number, day_text}
use Rattle.herd_animal.specs.Herd.{IsHerd, IsHerdNumber}
use Rattle.herd_frozen.specs.declared.rules.animal.Animal.{Animal}
use Rattle.herd_record_line.specs.RecordLine.{HasField, HasNo, IsEmbryoText, IsKnownText, IsLeftText, IsRecord}
use Rattle.herd_record_line.specs.RecordLine.{IsRecordText, IsWrittenDay, embryo_text, field_text, known_text}
use Rattle.herd_record_line.specs.RecordLine.{left_text, record_text}
use Rattle.std.specs.Prelude.{IfNone, IfSome}
use Rattle.herd_record_line.specs.declared.reading.Record.{Record}
use Rattle.herd_record_line.proofs.CutFacts.{field_joined, same_cut}

-- ---- fields have no comma, nor any other character below their letters, digits and dashes

pub number_plain : (character : ℕ) (text : List ℕ) → character < 45 → IsAnimalNumber text → HasNo character text
number_plain character text low number = λ k d within is.
    let right = number.right k within in
    let at : get_or text k 0 ≡ character = sym (get_or_default_zero text k d within) ∙ is in
    ⊎_elim
    (λ (e : k ≡ 6). elim (right.sex e) [
      | inl male ↦ absurd (omega (arith, male, at, low))
      | inr female ↦ absurd (omega (arith, female, at, low))
    ])
    (λ apart. ⊎_elim
    (λ (early : k < 6). let letter = right.letter early in absurd (omega (arith, letter, at, low)))
    (λ (high : 6 < k). elim (right.own high) [
      | inl letter ↦ absurd (omega (arith, letter, at, low))
      | inr digit ↦ absurd (omega (arith, digit, at, low))
    ])
    apart)
    (cases_order k 6)

day_plain : (character : ℕ) (text : List ℕ) → character < 45 → IsDay text → HasNo character text
day_plain character text low day = λ k d within is.
    let shaped = day.shape.shaped k within in
    let at : get_or text k 0 ≡ character = sym (get_or_default_zero text k d within) ∙ is in
    ⊎_elim
    (λ (e : k ≡ 4). let dash = shaped.dash (inl e) in absurd (omega (arith, dash, at, low)))
    (λ (other : k ≢ 4). ⊎_elim
    (λ (e : k ≡ 7). let dash = shaped.dash (inr e) in absurd (omega (arith, dash, at, low)))
    (λ (last : k ≢ 7). let digit = shaped.digit other last in absurd (omega (arith, digit, at, low)))
    (cases_eq k 7))
    (cases_eq k 4)

pub decimal_plain : (character n : ℕ) → n < 2 ^ 64 → character < 48 → HasNo character (decimal n)
decimal_plain character n small low = λ k d within is.
    let digit = digit_at (decimal n) k (decimal_is_IsNumeral n small).0.1 within in
    let at : get_or (decimal n) k 0 ≡ character = sym (get_or_default_zero (decimal n) k d within) ∙ is in
    absurd (omega (arith, digit, at, low))

known_plain : (character : ℕ) (parent : Option (List ℕ)) → character < 45 → ForSome parent IsAnimalNumber
    → HasNo character (known_text parent)
known_plain character None low known =
    All-cons (λ c. c ≢ character) 48 [] (λ e. absurd (omega (arith, e, low))) (All-nil (λ c. c ≢ character))
known_plain character (Some number) low known = number_plain character number low (known number refl)

left_plain : (character : ℕ) (left : Option ℤ) → character < 45 → ForSome left IsWrittenDay
    → HasNo character (left_text left)
left_plain character None low known =
    All-cons (λ c. c ≢ character) 45 [] (λ e. absurd (omega (arith, e, low))) (All-nil (λ c. c ≢ character))
left_plain character (Some day) low known = day_plain character (day_text day) low (known day refl).is_day

embryo_plain : (character : ℕ) (embryo : Bool) → character < 45 → HasNo character (embryo_text embryo)
embryo_plain character true low =
    All-cons (λ c. c ≢ character) 49 [] (λ e. absurd (omega (arith, e, low))) (All-nil (λ c. c ≢ character))
embryo_plain character false low = All-nil (λ c. c ≢ character)

herd_small : (herd : ℕ) → IsHerdNumber herd → herd < 2 ^ 64
herd_small herd is = let most = is.1 in omega (arith, most)

no_number_comma : (text : List ℕ) → IsAnimalNumber text → HasNo 44 text
no_number_comma text = number_plain 44 text (omega arith)

no_day_comma : (text : List ℕ) → IsDay text → HasNo 44 text
no_day_comma text = day_plain 44 text (omega arith)

no_known_comma : (parent : Option (List ℕ)) → ForSome parent IsAnimalNumber → HasNo 44 (known_text parent)
no_known_comma parent = known_plain 44 parent (omega arith)

no_left_comma : (left : Option ℤ) → ForSome left IsWrittenDay → HasNo 44 (left_text left)
no_left_comma left = left_plain 44 left (omega arith)

-- ---- and tell what they are of

day_same : (a b : ℤ) → IsWrittenDay a → IsWrittenDay b → day_text a ≡ day_text b → a ≡ b
day_same a b is_a is_b e = sym is_a.same ∙ ap day_number e ∙ is_b.same

known_same : (a b : Option (List ℕ)) → ForSome a IsAnimalNumber → ForSome b IsAnimalNumber
    → known_text a ≡ known_text b → a ≡ b
known_same None None is_a is_b e = refl
known_same None (Some n) is_a is_b e =
    let long = (is_b n refl).long in
    let same = ap length e in
    absurd (omega (arith, long, same))
known_same (Some m) None is_a is_b e =
    let long = (is_a m refl).long in
    let same = ap length e in
    absurd (omega (arith, long, same))
known_same (Some m) (Some n) is_a is_b e = ap (λ (l : List ℕ). Some l) e

left_same : (a b : Option ℤ) → ForSome a IsWrittenDay → ForSome b IsWrittenDay → left_text a ≡ left_text b → a ≡ b
left_same None None is_a is_b e = refl
left_same None (Some y) is_a is_b e =
    let long = (is_b y refl).is_day.shape.long in
    let same = ap length e in
    absurd (omega (arith, long, same))
left_same (Some x) None is_a is_b e =
    let long = (is_a x refl).is_day.shape.long in
    let same = ap length e in
    absurd (omega (arith, long, same))
left_same (Some x) (Some y) is_a is_b e = ap (λ (d : ℤ). Some d) (day_same x y (is_a x refl) (is_b y refl) e)

embryo_same : (a b : Bool) → embryo_text a ≡ embryo_text b → a ≡ b
embryo_same true true e = refl
embryo_same true false e = absurd (cc)
embryo_same false true e = absurd (cc)
embryo_same false false e = refl

-- ---- the whole

record_parts : (number : List ℕ) (animal : Animal)
    → record_text number animal
    ≡ number ++ 44 ∷ (day_text animal.birth ++ 44 ∷ (known_text animal.sire ++ 44 ∷ (known_text animal.dam
    ++ 44 ∷ (decimal animal.herd ++ 44 ∷ (day_text animal.since ++ 44 ∷ (left_text animal.left ++ 44 ∷ embryo_text
    animal.embryo))))))
unfolding record_text field_text
record_parts number animal = simp append_assoc

abbrev made : ℤ → Option (List ℕ) → Option (List ℕ) → Bool → ℕ → ℤ → Option ℤ → Animal
made birth sire dam embryo herd since left =
    record { birth = birth; sire = sire; dam = dam; embryo = embryo; herd = herd; since = since; left = left }

-- two fields lack what each lacks, and the comma isn't
pub joined_plain : (character : ℕ) (front behind : List ℕ) → character < 44 → HasNo character front
    → HasNo character behind → HasNo character (front ++ 44 ∷ behind)
joined_plain character front behind low plain more =
    All-append (λ c. c ≢ character) front (44 ∷ behind) plain
    (All-cons (λ c. c ≢ character) 44 behind (λ e. absurd (omega (arith, e, low))) more)

-- a record is on one line
pub record_plain : (character : ℕ) (number : List ℕ) (animal : Animal) → character < 44 → IsRecord number animal
    → HasNo character (record_text number animal)
record_plain character number a small is =
    let low : character < 45 = omega (arith, small) in
    let digits : character < 48 = omega (arith, small) in
    subst (HasNo character) (sym (record_parts number a))
    (joined_plain character number _ small (number_plain character number low is.is_number)
    (joined_plain character (day_text a.birth) _ small (day_plain character _ low is.birth.is_day)
    (joined_plain character (known_text a.sire) _ small (known_plain character a.sire low is.sire)
    (joined_plain character (known_text a.dam) _ small (known_plain character a.dam low is.dam)
    (joined_plain character (decimal a.herd) _ small (decimal_plain character a.herd (herd_small a.herd is.herd) digits)
    (joined_plain character (day_text a.since) _ small (day_plain character _ low is.since.is_day)
    (joined_plain character (left_text a.left) (embryo_text a.embryo) small (left_plain character a.left low is.left)
    (embryo_plain character a.embryo low))))))))

-- two records with one text are one
pub record-same : (m n : List ℕ) (a b : Animal) → IsRecord m a → IsRecord n b → record_text m a ≡ record_text n b
    → (m ≡ n) × (a ≡ b)
record-same m n a b is_a is_b e =
    let c1 = same_cut 44 m _ n _ (no_number_comma m is_a.is_number) (no_number_comma n is_b.is_number)
    (sym (record_parts m a) ∙ e ∙ record_parts n b) in
    let c2 = same_cut 44 (day_text a.birth) _ (day_text b.birth) _ (no_day_comma _ is_a.birth.is_day)
    (no_day_comma _ is_b.birth.is_day) c1.1 in
    let c3 = same_cut 44 (known_text a.sire) _ (known_text b.sire) _ (no_known_comma a.sire is_a.sire)
    (no_known_comma b.sire is_b.sire) c2.1 in
    let c4 = same_cut 44 (known_text a.dam) _ (known_text b.dam) _ (no_known_comma a.dam is_a.dam)
    (no_known_comma b.dam is_b.dam) c3.1 in
    let c5 = same_cut 44 (decimal a.herd) _ (decimal b.herd) _ (decimal_plain 44 a.herd (herd_small a.herd
    is_a.herd) (omega arith))
    (decimal_plain 44 b.herd (herd_small b.herd is_b.herd) (omega arith)) c4.1 in
    let c6 = same_cut 44 (day_text a.since) _ (day_text b.since) _ (no_day_comma _ is_a.since.is_day)
    (no_day_comma _ is_b.since.is_day) c5.1 in
    let c7 = same_cut 44 (left_text a.left) _ (left_text b.left) _ (no_left_comma a.left is_a.left)
    (no_left_comma b.left is_b.left) c6.1 in
    let birth = day_same a.birth b.birth is_a.birth is_b.birth c2.0 in
    let sire = known_same a.sire b.sire is_a.sire is_b.sire c3.0 in
    let dam = known_same a.dam b.dam is_a.dam is_b.dam c4.0 in
    let herd = decimal_injective a.herd b.herd (herd_small a.herd is_a.herd) (herd_small b.herd is_b.herd) c5.0 in
    let since = day_same a.since b.since is_a.since is_b.since c6.0 in
    let left = left_same a.left b.left is_a.left is_b.left c7.0 in
    let embryo = embryo_same a.embryo b.embryo c7.1 in (
      c1.0,
      ap (λ (x : ℤ). made x a.sire a.dam a.embryo a.herd a.since a.left) birth
          ∙ ap (λ (x : Option (List ℕ)). made b.birth x a.dam a.embryo a.herd a.since a.left) sire
          ∙ ap (λ (x : Option (List ℕ)). made b.birth b.sire x a.embryo a.herd a.since a.left) dam
          ∙ ap (λ (x : Bool). made b.birth b.sire b.dam x a.herd a.since a.left) embryo
          ∙ ap (λ (x : ℕ). made b.birth b.sire b.dam b.embryo x a.since a.left) herd
          ∙ ap (λ (x : ℤ). made b.birth b.sire b.dam b.embryo b.herd x a.left) since
          ∙ ap (λ (x : Option ℤ). made b.birth b.sire b.dam b.embryo b.herd b.since x) left,
    )

-- ---- it is a record's text

herd-text : (herd : ℕ) → IsHerdNumber herd → IsHerd (decimal herd)
herd-text herd is =
    let small = herd_small herd is in
    let some = decimal_nonempty herd small in
    let least = is.0 in
    let most = is.1 in
    let first = first_decimal herd (omega (arith, least)) small in
    record {
      long = (omega (arith, some), length-decimal-le 8 herd (lit< tt) (omega (arith, most)) small);
      digits = λ k within. digit_at (decimal herd) k (decimal_is_IsNumeral herd small).0.1 within;
      no_zero = λ e. absurd (omega (arith, e, first));
    }

known-text : (parent : Option (List ℕ)) → ForSome parent IsAnimalNumber → IsKnownText (known_text parent)
known-text None is = inl refl
known-text (Some number) is = inr (is number refl)

left-text : (left : Option ℤ) → ForSome left IsWrittenDay → IsLeftText (left_text left)
left-text None is = inl refl
left-text (Some day) is = inr (is day refl).is_day

embryo-text : (embryo : Bool) → IsEmbryoText (embryo_text embryo)
embryo-text true = inr refl
embryo-text false = inl refl

field_of : {F B : List ℕ → Type 0} (field behind : List ℕ) → HasNo 44 field → F field → B behind
    → HasField F B (field ++ 44 ∷ behind)
field_of field behind plain is_field is_behind = record {
  field = field;
  behind = behind;
  joined = field_joined field behind;
  plain = plain;
  is_field = is_field;
  is_behind = is_behind;
}

pub record-is_text : (number : List ℕ) (animal : Animal) → IsRecord number animal
    → IsRecordText (record_text number animal)
record-is_text number a is =
    subst IsRecordText (sym (record_parts number a))
    (field_of number _ (no_number_comma number is.is_number) is.is_number
    (field_of (day_text a.birth) _ (no_day_comma _ is.birth.is_day) is.birth.is_day
    (field_of (known_text a.sire) _ (no_known_comma a.sire is.sire) (known-text a.sire is.sire)
    (field_of (known_text a.dam) _ (no_known_comma a.dam is.dam) (known-text a.dam is.dam)
    (field_of (decimal a.herd) _ (decimal_plain 44 a.herd (herd_small a.herd is.herd) (omega arith)) (herd-text
    a.herd is.herd)
    (field_of (day_text a.since) _ (no_day_comma _ is.since.is_day) is.since.is_day
    (field_of (left_text a.left) (embryo_text a.embryo) (no_left_comma a.left is.left) (left-text a.left is.left)
    (embryo-text a.embryo))))))))

abbrev whole : List ℕ → Animal → Option Record
whole number animal = Some (record { number = number; animal = animal })

-- what is read is the record that was written
pub read-back : (text : List ℕ) (read : Option Record) → IfSome read (λ r. record_text r.number r.animal ≡ text)
    → IfNone read (¬ (IsRecordText text)) → IfSome read (λ r. IsRecord r.number r.animal)
    → (number : List ℕ) (animal : Animal)
    → IsRecord number animal → record_text number animal ≡ text
    → read ≡ Some (record { number = number; animal = animal })
read-back text None some none told number animal is same = absurd (none (subst IsRecordText same (record-is_text
    number animal is)))
read-back text (Some r) some none told number animal is same =
    let fields = record-same r.number number r.animal animal told is (some ∙ sym same) in
    ap (λ (n : List ℕ). whole n r.animal) fields.0 ∙ ap (λ (a : Animal). whole number a) fields.1
