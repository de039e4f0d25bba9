-- The first fault of parents, and what parents with none are: the list of faults is taken apart here alone.
use Rattle.std.proofs.Common.{ℕ, ℤ, ◌≡◌, ◌<ℤ◌, refl, sym, ap, ◌∙◌, Bool, true, false, not, ◌&&◌, if◌then◌else◌, int_le, arith, List, [], ◌∷◌, ◌++◌, Option, Some, None}
use Rattle.std.specs.Option.{option_map_or, option_or}
use Rattle.std.proofs.lemmas.Bool.{not-false}
use Rattle.std.proofs.lemmas.Int.{ints}
use Rattle.herd_animal.specs.Sex.{is_male}
use Rattle.herd_animal.specs.declared.number.Sex.TheVariants.{Male, Female}
use Rattle.herd_frozen.specs.declared.rules.animal.Animal.{Animal}
use Rattle.herd_frozen.specs.declared.rules.parent_fault.ParentFault.{ParentFault}
use Rattle.herd_frozen.specs.declared.rules.parent_fault.ParentFault.TheVariants.{TooDeep}
use Rattle.herd_frozen.specs.rules.Book.{Book, record_of}
use Rattle.herd_frozen.specs.rules.ParentFault.{first_that_holds, has_left_before, has_sex, is_found_gone, is_found_not_older, is_missing, is_named, is_too_deep, parent_fault, record_faults, record_named}
use Rattle.herd_frozen.specs.rules.Lawful.{IsSireOf, IsDamOf}
use Rattle.herd_frozen.proofs.lemmas.ListFacts.{is_some_with}

-- the first fault of two lists, one after the other
first-append : {F : Type 0} (xs ys : List (Bool × F)) → first_that_holds (xs ++ ys) ≡ option_or (first_that_holds xs) (first_that_holds ys)
first-append [] ys = refl
first-append {F} (x ∷ xs) ys = by x.0 (first-append xs ys)
  where
    by : (t : Bool) → first_that_holds (xs ++ ys) ≡ option_or (first_that_holds xs) (first_that_holds ys) →
        (if t then Some x.1 else first_that_holds (xs ++ ys)) ≡ option_or (if t then Some x.1 else first_that_holds xs) (first_that_holds ys)
    by true h = refl
    by false h = h

-- the first fault is the first that the records show, and where there is none, that a path is too long
pub fault-split : (l : ℕ) (book : Book) (number : List ℕ) (birth : ℤ) (sire dam : Option (List ℕ)) (embryo : Bool) →
    parent_fault l book number birth sire dam embryo ≡ option_or (first_that_holds (record_faults birth sire (record_named book sire) dam (record_named book dam) embryo)) (if is_too_deep l book number sire dam then Some TooDeep else None)
unfolding parent_fault
fault-split l book number birth sire dam embryo =
    first-append (record_faults birth sire (record_named book sire) dam (record_named book dam) embryo) ((is_too_deep l book number sire dam, TooDeep) ∷ [])

-- no test of the records holds
pub record HasNoRecordFault (birth : ℤ) (sire : Option (List ℕ)) (sire_found : Option Animal) (dam : Option (List ℕ)) (dam_found : Option Animal) (embryo : Bool) : Type 0 where
  pub sire_there : is_missing sire sire_found ≡ false
  pub dam_there : is_missing dam dam_found ≡ false
  pub sire_male : is_named sire (has_sex Female) ≡ false
  pub dam_female : is_named dam (has_sex Male) ≡ false
  pub sire_older : is_found_not_older birth sire_found ≡ false
  pub dam_older : is_found_not_older birth dam_found ≡ false
  pub dam_stayed : (not embryo && is_found_gone birth dam_found) ≡ false

next : (test : Bool) (fault : ParentFault) (rest : Option ParentFault) → (if test then Some fault else rest) ≡ None → (test ≡ false) × (rest ≡ None)
next true fault rest h = absurd (cc)
next false fault rest h = (refl, h)

pub no_record_fault : (birth : ℤ) (sire : Option (List ℕ)) (sire_found : Option Animal) (dam : Option (List ℕ)) (dam_found : Option Animal) (embryo : Bool) →
    first_that_holds (record_faults birth sire sire_found dam dam_found embryo) ≡ None → HasNoRecordFault birth sire sire_found dam dam_found embryo
no_record_fault birth sire sire_found dam dam_found embryo h =
    let a = next _ _ _ h in
    let b = next _ _ _ a.1 in
    let c = next _ _ _ b.1 in
    let d = next _ _ _ c.1 in
    let e = next _ _ _ d.1 in
    let f = next _ _ _ e.1 in
    let g = next _ _ _ f.1 in
    record { sire_there = a.0; dam_there = b.0; sire_male = c.0; dam_female = d.0; sire_older = e.0; dam_older = f.0; dam_stayed = g.0 }

-- nor does that of the paths
pub record HasNoFault (l : ℕ) (book : Book) (number : List ℕ) (birth : ℤ) (sire dam : Option (List ℕ)) (embryo : Bool) : Type 0 where
  pub records : HasNoRecordFault birth sire (record_named book sire) dam (record_named book dam) embryo
  pub shallow : is_too_deep l book number sire dam ≡ false

neither : (first : Option ParentFault) (deep : Bool) → option_or first (if deep then Some TooDeep else None) ≡ None → (first ≡ None) × (deep ≡ false)
neither None true h = absurd (cc)
neither None false h = (refl, refl)
neither (Some fault) deep h = absurd (cc)

pub no_fault : (l : ℕ) (book : Book) (number : List ℕ) (birth : ℤ) (sire dam : Option (List ℕ)) (embryo : Bool) → parent_fault l book number birth sire dam embryo ≡ None → HasNoFault l book number birth sire dam embryo
no_fault l book number birth sire dam embryo h =
    let both = neither (first_that_holds (record_faults birth sire (record_named book sire) dam (record_named book dam) embryo)) (is_too_deep l book number sire dam) (sym (fault-split l book number birth sire dam embryo) ∙ h) in
    record { records = no_record_fault birth sire (record_named book sire) dam (record_named book dam) embryo both.0; shallow = both.1 }

-- a parent that is named has what the tests of one ask for
found_passes : (book : Book) (o : Option (List ℕ)) (p : List ℕ) → is_missing o (record_named book o) ≡ false → o ≡ Some p → (parent : Animal) × (record_of book p ≡ Some parent)
found_passes book o p h e =
    let named : is_missing (Some p) (record_of book p) ≡ false = sym (ap (λ o. is_missing o (record_named book o)) e) ∙ h in
    is_some_with (record_of book p) (not-false _ named)

named_passes : (test : List ℕ → Bool) (o : Option (List ℕ)) (p : List ℕ) → is_named o test ≡ false → o ≡ Some p → test p ≡ false
named_passes test o p h e = sym (ap (λ o. is_named o test) e) ∙ h

record_passes : (test : Animal → Bool) (book : Book) (o : Option (List ℕ)) (p : List ℕ) (parent : Animal) → option_map_or test (record_named book o) false ≡ false → o ≡ Some p → record_of book p ≡ Some parent → test parent ≡ false
record_passes test book o p parent h e known =
    sym (ap (λ o. option_map_or test (record_named book o) false) e ∙ ap (λ o. option_map_or test o false) known) ∙ h

before_birth : (a b : ℤ) → int_le b a ≡ false → a <ℤ b
before_birth a b h = grind (arith, ints, h)

pub not_either : (embryo gone : Bool) → (not embryo && gone) ≡ false → embryo ≡ false → gone ≡ false
not_either true gone h e = absurd (cc)
not_either false gone h e = h

-- so it may be the sire, or the dam
module _ (book : Book) (birth : ℤ) (sire dam : Option (List ℕ)) (embryo : Bool) (n : HasNoRecordFault birth sire (record_named book sire) dam (record_named book dam) embryo) where
  pub sire-may_be : (p : List ℕ) → sire ≡ Some p → IsSireOf book birth p
  sire-may_be p e =
      let there = found_passes book sire p n.sire_there e in
      record {
        sire = there.0;
        there = there.1;
        male = not-false (is_male p) (named_passes (has_sex Female) sire p n.sire_male e);
        older = before_birth there.0.birth birth (record_passes (λ animal. int_le birth animal.birth) book sire p there.0 n.sire_older e there.1);
      }

  pub dam-may_be : (p : List ℕ) → dam ≡ Some p → IsDamOf book birth embryo p
  dam-may_be p e =
      let there = found_passes book dam p n.dam_there e in
      record {
        dam = there.0;
        there = there.1;
        female = named_passes (has_sex Male) dam p n.dam_female e;
        older = before_birth there.0.birth birth (record_passes (λ animal. int_le birth animal.birth) book dam p there.0 n.dam_older e there.1);
        stayed = λ fresh. record_passes (has_left_before birth) book dam p there.0 (not_either embryo _ n.dam_stayed fresh) e there.1;
      }
