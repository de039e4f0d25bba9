-- Which fault is told of rows, and that none before it was there.
use Rattle.std.proofs.Common.{◌≡◌, ◌≢◌, ◌∙◌, ℕ, zero, suc, ◌+◌, ◌<◌, ◌≤◌, List, [], ◌∷◌, length, slice_get, slice_index, Option, Some, None, Bool, true, false, not, nat_lt, ◌==◌, if◌then◌else◌, unwrap_or, refl, sym, ap, subst, arith, Contains, ⊎_elim}
use Rattle.std.specs.List.{All}
use Rattle.std.proofs.lemmas.Bool.{cases_lt, cases_order}
use Rattle.std.proofs.lemmas.List.Elements.{All-nil, All-cons}
use Rattle.std.proofs.lemmas.Map.Views.{exact_unsigned_eq}
use Rattle.std.proofs.lemmas.Option.{get_or_from_slice_get, slice_get-get_or, slice_get_within}
use Rattle.herd_lineage.specs.Builder.{first_fault, is_earlier}
use Rattle.herd_lineage.specs.Lineage.{IsLineage, depth_at, depth_from}
use Rattle.herd_lineage.specs.declared.TheConstants.{DEPTH_LIMIT, MOST_ANIMALS}
use Rattle.herd_lineage.specs.declared.lineage.Parents.{Parents}
use Rattle.herd_lineage.specs.declared.lineage_fault.LineageFault.{LineageFault}
use Rattle.herd_lineage.specs.declared.lineage_fault.LineageFault.TheVariants.{Dam, Full, Memory, Sire, TooDeep}
use Rattle.herd_pruned.specs.Pruned.{KeepsAncestorsOf, Pruned}
use Rattle.herd_seal.specs.Certificate.{AreLinked, DoAscend, IsLink}
use Rattle.herd_seal.specs.CheckFaults.{HasNoAnimal, HasParentFault, IsFirstStranger, IsNotNext, IsParentFault}
use Rattle.herd_seal.specs.declared.check_fault.CheckCause.{CheckCause}
use Rattle.herd_seal.specs.declared.certificate.CertifiedRow.{CertifiedRow}
use Rattle.herd_seal.specs.declared.certificate.Claim.{Claim}
use Rattle.herd_seal.proofs.RowFacts.{there_before}

all_from : {X : Type 0} (P : X → Type 0) (xs : List X) → ((i : ℕ) (x : X) → slice_get xs i ≡ Some x → P x) → All P xs
all_from P [] each = All-nil P
all_from P (x ∷ xs) each = All-cons P x xs (each 0 x refl) (all_from P xs (λ i y e. each (suc i) y e))

all_at : {X : Type 0} (P : X → Type 0) (xs : List X) (i : ℕ) (x : X) → All P xs → slice_get xs i ≡ Some x → P x
all_at {X} P xs i x all e = subst (λ (y : X). P y) (get_or_from_slice_get xs i x x e) (all i x (slice_get_within xs i x e))

-- one row has a place
same_row : (rows : List CertifiedRow) → DoAscend rows → (i j : ℕ) (one two : CertifiedRow) → slice_get rows i ≡ Some one → slice_get rows j ≡ Some two
    → one.place ≡ two.place → one ≡ two
same_row rows ascend i j one two at_one at_two same =
    ⊎_elim
    (λ (e : i ≡ j). let both : Some one ≡ Some two = sym at_one ∙ (ap (λ (k : ℕ). slice_get rows k) e ∙ at_two) in let equal : one ≡ two = cc in equal)
    (λ apart. ⊎_elim
    (λ (low : i < j). let step = ascend i j one two low at_one at_two in absurd (omega (arith, step, same)))
    (λ (low : j < i). let step = ascend j i two one low at_two at_one in absurd (omega (arith, step, same)))
    apart)
    (cases_order i j)

pub no_animal_none : (rows : List CertifiedRow) (claim : Claim) → All (λ (row : CertifiedRow). row.place ≢ claim.place) rows → HasNoAnimal rows claim
no_animal_none rows claim none =
    all_from (λ (row : CertifiedRow). row.place ≡ claim.place → row.record.number ≢ claim.number) rows
    (λ i row e here. absurd (all_at (λ (r : CertifiedRow). r.place ≢ claim.place) rows i row none e here))

pub no_animal_other : (rows : List CertifiedRow) (claim : Claim) (k : ℕ) (row : CertifiedRow) → DoAscend rows → slice_get rows k ≡ Some row
    → row.place ≡ claim.place → row.record.number ≢ claim.number → HasNoAnimal rows claim
no_animal_other rows claim k row ascend there place wrong =
    all_from (λ (r : CertifiedRow). r.place ≡ claim.place → r.record.number ≢ claim.number) rows
    (λ i r e here. subst (λ (x : CertifiedRow). x.record.number ≢ claim.number) (same_row rows ascend k i row r there e (place ∙ sym here)) wrong)

-- a search that ends beside the place
pub nowhere : (rows : List CertifiedRow) (place low high : ℕ) → DoAscend rows → high ≤ low
    → ((i : ℕ) (row : CertifiedRow) → i < low → slice_get rows i ≡ Some row → row.place < place)
    → ((i : ℕ) (row : CertifiedRow) → high ≤ i → slice_get rows i ≡ Some row → place ≤ row.place)
    → ((row : CertifiedRow) → slice_get rows low ≡ Some row → row.place ≢ place) → All (λ (row : CertifiedRow). row.place ≢ place) rows
nowhere rows place low high ascend over before from other =
    all_from (λ (row : CertifiedRow). row.place ≢ place) rows
    (λ i row e here.
    ⊎_elim
    (λ (below : i < low). let up = before i row below e in omega (arith, up, here))
    (λ (above : low ≤ i). ⊎_elim
    (λ (behind : low < i).
    let there = there_before rows i row e low behind in
    let step = ascend low i there.0 row behind there.1 e in
    let least = from low there.0 over there.1 in
    omega (arith, step, least, here))
    (λ (least : i ≤ low). let is : i ≡ low = omega (arith, above, least) in other row (ap (λ (k : ℕ). slice_get rows k) (sym is) ∙ e) here)
    (cases_lt low i))
    (cases_lt i low))

-- halves of a search
pub below_place : (rows : List CertifiedRow) (place mid : ℕ) (row : CertifiedRow) → DoAscend rows → slice_get rows mid ≡ Some row → row.place < place
    → (i : ℕ) (r : CertifiedRow) → i < mid + 1 → slice_get rows i ≡ Some r → r.place < place
below_place rows place mid row ascend at low i r within e =
    ⊎_elim
    (λ (earlier : i < mid). let step = ascend i mid r row earlier e at in omega (arith, step, low))
    (λ (later : mid ≤ i).
    let is : i ≡ mid = omega (arith, within, later) in
    let both : Some r ≡ Some row = sym e ∙ (ap (λ (k : ℕ). slice_get rows k) is ∙ at) in
    let same : r ≡ row = cc in
    subst (λ (x : CertifiedRow). x.place < place) (sym same) low)
    (cases_lt i mid)

pub from_place : (rows : List CertifiedRow) (place mid : ℕ) (row : CertifiedRow) → DoAscend rows → slice_get rows mid ≡ Some row → place ≤ row.place
    → (i : ℕ) (r : CertifiedRow) → mid ≤ i → slice_get rows i ≡ Some r → place ≤ r.place
from_place rows place mid row ascend at high i r within e =
    ⊎_elim
    (λ (later : mid < i). let step = ascend mid i row r later at e in omega (arith, step, high))
    (λ (least : i ≤ mid).
    let is : i ≡ mid = omega (arith, within, least) in
    let both : Some r ≡ Some row = sym e ∙ (ap (λ (k : ℕ). slice_get rows k) is ∙ at) in
    let same : r ≡ row = cc in
    subst (λ (x : CertifiedRow). place ≤ x.place) (sym same) high)
    (cases_lt mid i)

-- a lineage that is full
only_full : (a b c d : Bool)
    → ◌≡◌ {A = Option LineageFault} (if a then Some Full else if b then Some Sire else if c then Some Dam else if d then Some TooDeep else None) (Some Full)
    → a ≡ true
only_full true b c d e = refl
only_full false true c d e = absurd (cc)
only_full false false true d e = absurd (cc)
only_full false false false true e = absurd (cc)
only_full false false false false e = absurd (cc)

pub full_is : (l most : ℕ) (lineage : List Parents) (sire dam : Option ℕ) → first_fault l most lineage sire dam ≡ Some Full → length lineage ≡ most
unfolding first_fault
full_is l most lineage sire dam e =
    exact_unsigned_eq (length lineage) most
    (only_full (length lineage == most) (not (is_earlier (length lineage) sire)) (not (is_earlier (length lineage) dam))
    (nat_lt l (depth_from (depth_at lineage) sire dam)) e)

-- a fault that isn't memory's was found
pub fault_found : (found : Option LineageFault) (fault : LineageFault) → fault ≡ unwrap_or found Memory → fault ≢ Memory → found ≡ Some fault
fault_found None fault is other = absurd (other is)
fault_found (Some f) fault is other = ap (λ (x : LineageFault). Some x) (sym is)

-- the lineage of the rows before can't have the next for this
pub not_next : (rows : List CertifiedRow) (lineage : List Parents) (row : CertifiedRow) (sire dam : Option ℕ) (told fault : LineageFault)
    → IsLink rows row.sire row.record.animal.sire sire → IsLink rows row.dam row.record.animal.dam dam → told ≡ fault
    → told ≡ unwrap_or (first_fault DEPTH_LIMIT MOST_ANIMALS lineage sire dam) Memory → fault ≢ Memory → IsNotNext rows lineage row fault
not_next rows lineage row sire dam told fault sire_shown dam_shown is found other = record {
  sire = sire;
  dam = dam;
  sire_shown = sire_shown;
  dam_shown = dam_shown;
  fault_is = fault_found (first_fault DEPTH_LIMIT MOST_ANIMALS lineage sire dam) fault (sym is ∙ found) other;
}

pub has_parent_fault : (rows : List CertifiedRow) (lineage : List Parents) (row : CertifiedRow) (cause : CheckCause) → DoAscend rows
    → IsLineage DEPTH_LIMIT MOST_ANIMALS lineage → AreLinked rows lineage → slice_get rows (length lineage) ≡ Some row
    → IsParentFault rows lineage row cause → HasParentFault rows cause (length lineage)
has_parent_fault rows lineage row cause ascend is_lineage linked there wrong = record {
  ascend = ascend;
  lineage = lineage;
  before = record { each = refl; is_lineage = is_lineage; linked = linked };
  row = row;
  there = there;
  wrong = wrong;
}

-- ranks that ascend
reaches : (ranks : List ℕ) → ((i j : ℕ) → i < j → j < length ranks → slice_index ranks i < slice_index ranks j) → (k : ℕ) → k < length ranks → k ≤ slice_index ranks k
reaches ranks order zero within = omega arith
reaches ranks order (suc k) within =
    let before = reaches ranks order k (omega (arith, within)) in
    let step = order k (suc k) (omega arith) within in
    omega (arith, before, step)

pub contains_itself : (ranks : List ℕ) (k : ℕ) → slice_get ranks k ≡ Some k → Contains ranks k
contains_itself ranks k e = (k, slice_get_within ranks k k e, get_or_from_slice_get ranks k k k e)

pub not_kept : (ranks : List ℕ) (at : ℕ) → ((i j : ℕ) → i < j → j < length ranks → slice_index ranks i < slice_index ranks j)
    → ((k : ℕ) → k < at → slice_get ranks k ≡ Some k) → ¬ (slice_get ranks at ≡ Some at) → ¬ (Contains ranks at)
not_kept ranks at order before wrong has =
    let j = has.0 in
    let there : slice_get ranks j ≡ Some at = slice_get-get_or ranks j at has.1 ∙ ap (λ (x : ℕ). Some x) has.2 in
    ⊎_elim
    (λ (e : j ≡ at). wrong (ap (λ (k : ℕ). slice_get ranks k) (sym e) ∙ there))
    (λ apart. ⊎_elim
    (λ (low : j < at). let both : Some j ≡ Some at = sym (before j low) ∙ there in let same : j ≡ at = cc in omega (arith, low, same))
    (λ (high : at < j). let reach = reaches ranks order j has.1 in let is = get_or_from_slice_get ranks j at 0 there in omega (arith, high, reach, is))
    apart)
    (cases_order j at)

pub stranger : (lineage : List Parents) (rank at n : ℕ) (ranks : List ℕ) (pruned : Pruned) → ranks ≡ pruned.ranks → KeepsAncestorsOf lineage (rank ∷ []) pruned
    → n ≡ length lineage → at < n → ((row : ℕ) → row < at → Contains ranks row) → ¬ (Contains ranks at) → IsFirstStranger lineage rank at
stranger lineage rank at n ranks pruned are keeps long low before none = record {
  within = omega (arith, long, low);
  before = λ row earlier. keeps.others row (subst (λ (l : List ℕ). Contains l row) are (before row earlier));
  wrong = λ comes. none (subst (λ (l : List ℕ). Contains l at) (sym are) (keeps.ancestors at comes));
}
