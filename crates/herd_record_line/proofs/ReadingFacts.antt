-- The fields that are read, joined again.
use Rattle.std.proofs.Common.{◌≡◌, ℕ, List, ◌++◌, decimal, ap, ◌∙◌, append_assoc}
use Rattle.herd_animal.specs.Day.{day_text}
use Rattle.herd_frozen.specs.declared.rules.animal.Animal.{Animal}
use Rattle.herd_record_line.specs.RecordLine.{embryo_text, field_text, known_text, left_text, record_text}

one_more : (done part rest behind text : List ℕ) → part ++ rest ≡ behind → done ++ behind ≡ text → (done ++ part) ++ rest ≡ text
one_more done part rest behind text joined whole = append_assoc done part rest ∙ ap (λ (l : List ℕ). done ++ l) joined ∙ whole

pub record_joined : (text number birth sire dam herd since left embryo r1 r2 r3 r4 r5 r6 : List ℕ) (n : List ℕ) (animal : Animal)
    → field_text number ++ r1 ≡ text → field_text birth ++ r2 ≡ r1 → field_text sire ++ r3 ≡ r2 → field_text dam ++ r4 ≡ r3
    → field_text herd ++ r5 ≡ r4 → field_text since ++ r6 ≡ r5 → field_text left ++ embryo ≡ r6
    → n ≡ number → day_text animal.birth ≡ birth → known_text animal.sire ≡ sire → known_text animal.dam ≡ dam → decimal animal.herd ≡ herd
    → day_text animal.since ≡ since → left_text animal.left ≡ left → embryo_text animal.embryo ≡ embryo
    → record_text n animal ≡ text
unfolding record_text
record_joined text number birth sire dam herd since left embryo r1 r2 r3 r4 r5 r6 n animal p1 p2 p3 p4 p5 p6 p7 q1 q2 q3 q4 q5 q6 q7 q8 =
    rw (q1, q2, q3, q4, q5, q6, q7, q8)
    (one_more _ (field_text left) embryo r6 text p7 (one_more _ (field_text since) r6 r5 text p6 (one_more _ (field_text herd) r5 r4 text p5
    (one_more _ (field_text dam) r4 r3 text p4 (one_more _ (field_text sire) r3 r2 text p3 (one_more (field_text number) (field_text birth) r2 r1 text p2 p1))))))
