-- Records that are read one after the other.
use Rattle.std.proofs.Common.{◌≡◌, ◌∙◌, ◌+◌, ℕ, zero, suc, ◌<◌, ◌≤◌, Bool, true, List, [], ◌∷◌, Option, Some, None, drop, length, slice_get, refl, ap, sym, subst, arith}
use Rattle.std.proofs.lemmas.Bool.{false≢true}
use Rattle.std.proofs.lemmas.Option.{slice_get_within}
use Rattle.std.specs.Prelude.{IfSome}
use Rattle.csv_records.specs.Fields.{Fields}
use Rattle.csv_records.specs.Upcoming.{TakesRecord}
use Rattle.herd_requests.specs.Requests.{IsRecordAt}

-- the record that is taken is the first of those to come
first_taken : (left : List Fields) (new : Option (List Fields)) (fields : Fields) (found : Bool)
    → TakesRecord (Some left) new fields found → found ≡ true
    → (rest : List Fields) × (left ≡ fields ∷ rest) × (new ≡ Some rest)
first_taken [] new fields found takes is = absurd (false≢true (sym takes ∙ is))
first_taken (next ∷ rest) new fields found takes is = (rest, ap (λ f. f ∷ rest) (sym takes.1), takes.2)

drop_head : (before : ℕ) (all : List Fields) (next : Fields) (rest : List Fields) → drop before all ≡ next ∷ rest
    → (slice_get all before ≡ Some next) × (drop (suc before) all ≡ rest)
drop_head zero [] next rest is = absurd (cc is)
drop_head zero (first ∷ more) next rest is = (cc is, cc is)
drop_head (suc before) [] next rest is = absurd (cc is)
drop_head (suc before) (first ∷ more) next rest is = drop_head before more next rest is

-- where so many records were read, the one that is taken has as many before it, and the others are still to come
pub taken : (all : List Fields) (before : ℕ) (fields : Fields) (found : Bool) (old new : Option (List Fields))
    → (before ≤ length all) × (old ≡ Some (drop before all)) → TakesRecord old new fields found → found ≡ true
    → (slice_get all before ≡ Some fields) × ((before + 1 ≤ length all) × (new ≡ Some (drop (before + 1) all)))
taken all before fields found old new were takes is =
    let first = first_taken (drop before all) new fields found (subst (λ o. TakesRecord o new fields found) were.1 takes) is in
    let at = drop_head before all fields first.0 first.1 in
    let one : suc before ≡ before + 1 = omega arith in
    let within : before < length all = slice_get_within all before fields at.0 in
    (at.0, (omega (arith, within), first.2 ∙ ap Some (sym at.1 ∙ ap (λ n. drop n all) one)))

-- where the records are known, so many of them were read, and these are still to come
abbrev pub IfSomeIs : Option (List Fields) → ℕ → Option (List Fields) → Type 0
IfSomeIs known before left = IfSome known (λ all. (before ≤ length all) × (left ≡ Some (drop before all)))

-- the same where the records are known
pub taken_if_known : (known : Option (List Fields)) (before : ℕ) (fields : Fields) (found : Bool) (old new : Option (List Fields))
    → IfSomeIs known before old → TakesRecord old new fields found → found ≡ true
    → IsRecordAt known before fields × IfSomeIs known (before + 1) new
taken_if_known None before fields found old new were takes is = (tt, tt)
taken_if_known (Some all) before fields found old new were takes is = taken all before fields found old new were takes is

-- none of the records was read yet
drop_none : (all : List Fields) → all ≡ drop 0 all
drop_none [] = refl
drop_none (first ∷ more) = refl

pub begun : (known left : Option (List Fields)) → left ≡ known → IfSomeIs known 0 left
begun None left is = tt
begun (Some all) left is = (omega arith, is ∙ ap Some (drop_none all))

-- no more were read than there are
pub within_if_known : (known : Option (List Fields)) (before : ℕ) (left : Option (List Fields)) → IfSomeIs known before left
    → IfSome known (λ all. before ≤ length all)
within_if_known None before left were = tt
within_if_known (Some all) before left were = were.0
