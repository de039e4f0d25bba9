-- The ancestry of a lawful book is lawful.
use Rattle.std.proofs.Common.{ℕ, ◌≡◌, ◌⊎◌, inl, inr, ⊎_elim, true, false, List, Option, Some, None, IsSome, refl, sym, Contains, subst, ◌∙◌, ap, arith}
use Rattle.std.specs.Cmp.{IsTotalOrder}
use Rattle.std.specs.declared.cmp.Ordering.{Ordering}
use Rattle.std.specs.declared.cmp.Ordering.TheVariants.{Less, Equal, Greater}
use Rattle.std.specs.Cmp.Lexicographic.{slice_cmp}
use Rattle.std.specs.Ordering.{is_lt, is_eq, int_cmp, nat_cmp, ordering_then}
use Rattle.std.specs.Prelude.{ℤ, ◌<ℤ◌, bytes_eq}
use Rattle.std.specs.Map.{keys_of}
use Rattle.std.specs.Option.{option_map_or, option_and_then}
use Rattle.std.proofs.lemmas.Cmp.{int_cmp_total, nat_list_cmp_total, nat_list_eq_equiv, on_total, then_total}
use Rattle.std.proofs.lemmas.Int.{ints}
use Rattle.std.proofs.lemmas.Map.Text.{is_eq-slice_cmp}
use Rattle.std.proofs.lemmas.Map.Views.{Contains-keys_from_lookup, IsSome-lookup_from_Contains}
use Rattle.herd_frozen.specs.declared.rules.animal.Animal.{Animal}
use Rattle.herd_frozen.specs.rules.Book.{Book, record_of}
use Rattle.herd_frozen.specs.freezing.Frozen.{age_cmp}
use Rattle.herd_frozen.specs.rules.Lawful.{IsLawful as IsLawfulBook}
use Rattle.herd_frozen.proofs.lemmas.rules.BookFacts.{bytes_itself, same_bytes}
use Rattle.herd_advice.specs.FrozenAncestry.{is_before, book_ancestry}
use Rattle.herd_kinship.specs.Ancestry.{IsParentIn}
use Rattle.herd_kinship.proofs.lemmas.ancestry.LawfulAncestry.{IsLawful}
use Rattle.herd_kinship.proofs.lemmas.Lists.{count-one}

-- Records

-- a known parent is read from the record
pub record IsRecorded (field : Animal → Option (List ℕ)) (o : Option Animal) (p : List ℕ) : Type 0 where
  pub animal : Animal
  pub is : o ≡ Some animal
  pub parent : field animal ≡ Some p

recorded : (field : Animal → Option (List ℕ)) (o : Option Animal) (p : List ℕ) → option_and_then field o ≡ Some p → IsRecorded field o p
recorded field None p e = absurd (cc)
recorded field (Some a) p e = record { animal = a; is = refl; parent = e }

pub option_there : {X : Type 0} (o : Option X) → IsSome o → (v : X) × (o ≡ Some v)
option_there None s = absurd (cc)
option_there (Some v) s = (v, refl)

-- a number of the book has a record
pub record_there : (book : Book) (x : List ℕ) → Contains (keys_of book) x → (a : Animal) × (record_of book x ≡ Some a)
record_there book x c = option_there (record_of book x) (IsSome-lookup_from_Contains nat_list_eq_equiv x book c)

pub number_there : (book : Book) (x : List ℕ) (a : Animal) → record_of book x ≡ Some a → Contains (keys_of book) x
number_there book x a e = Contains-keys_from_lookup same_bytes x book (rw e refl)

-- who has a known parent is in the book
pub child_there : (book : Book) (x p : List ℕ) → IsParentIn (book_ancestry book) p x → Contains (keys_of book) x
child_there book x p is =
    ⊎_elim
    (λ s. let a = recorded (λ (animal : Animal). animal.sire) (record_of book x) p s in number_there book x a.animal a.is)
    (λ d. let a = recorded (λ (animal : Animal). animal.dam) (record_of book x) p d in number_there book x a.animal a.is)
    is

-- The age order

-- the age order is total
pub age_cmp-total : IsTotalOrder age_cmp
age_cmp-total = then_total (on_total (λ (e : List ℕ × Animal). e.1.birth) int_cmp_total) (on_total (λ (e : List ℕ × Animal). e.0) nat_list_cmp_total)

lt_less : (o : Ordering) → is_lt o ≡ true → o ≡ Less
lt_less Less e = refl
lt_less Equal e = absurd (cc)
lt_less Greater e = absurd (cc)

then_less : (o s : Ordering) → o ≡ Less → ordering_then o s ≡ Less
then_less o s e = rw e refl

pub then_equal : (o s : Ordering) → ordering_then o s ≡ Equal → s ≡ Equal
then_equal Less s e = absurd (cc)
then_equal Equal s e = e
then_equal Greater s e = absurd (cc)

int_cmp_less : (a b : ℤ) → a <ℤ b → int_cmp a b ≡ Less
int_cmp_less a b l = grind (arith, ints)

pub by_order : {P : Type 0} (o : Ordering) → (o ≡ Less → P) → (o ≡ Equal → P) → (o ≡ Greater → P) → P
by_order Less a b c = a refl
by_order Equal a b c = b refl
by_order Greater a b c = c refl

-- both are in the book, the first before the second
pub record AreOrdered (x y : List ℕ) (o p : Option Animal) : Type 0 where
  pub first : Animal
  pub second : Animal
  pub first_is : o ≡ Some first
  pub second_is : p ≡ Some second
  pub ordered : age_cmp (x, first) (y, second) ≡ Less

ordered_parts : (x y : List ℕ) (o p : Option Animal) →
    option_map_or (λ a. option_map_or (λ b. is_lt (age_cmp (x, a) (y, b))) p false) o false ≡ true → AreOrdered x y o p
ordered_parts x y None p e = absurd (cc)
ordered_parts x y (Some a) None e = absurd (cc)
ordered_parts x y (Some a) (Some b) e =
    record { first = a; second = b; first_is = refl; second_is = refl; ordered = lt_less (age_cmp (x, a) (y, b)) e }

ordered_from_before : (book : Book) (x y : List ℕ) → is_before book x y ≡ true → AreOrdered x y (record_of book x) (record_of book y)
ordered_from_before book x y e = ordered_parts x y (record_of book x) (record_of book y) e

pub before_from_ordered : (book : Book) (x y : List ℕ) (a b : Animal) → record_of book x ≡ Some a → record_of book y ≡ Some b →
    age_cmp (x, a) (y, b) ≡ Less → is_before book x y ≡ true
before_from_ordered book x y a b ex ey e = rw (ex, ey, e) refl

-- the order of two animals of the book
total_order : (book : Book) (x y : List ℕ) → Contains (keys_of book) x → Contains (keys_of book) y →
    (x ≡ y) ⊎ ((is_before book x y ≡ true) ⊎ (is_before book y x ≡ true))
total_order book x y cx cy =
    let a = record_there book x cx in
    let b = record_there book y cy in
    let c = age_cmp (x, a.0) (y, b.0) in
    by_order c
    (λ e. inr (inl (before_from_ordered book x y a.0 b.0 a.1 b.1 e)))
    (λ e. inl (same_bytes x y (sym (is_eq-slice_cmp x y) ∙ ap is_eq (then_equal (int_cmp a.0.birth b.0.birth) (slice_cmp nat_cmp x y) e))))
    (λ e. inr (inr (before_from_ordered book y x b.0 a.0 b.1 a.1 (age_cmp-total.antisymm (y, b.0) (x, a.0) ∙ rw e refl))))

one_way : (book : Book) (x y : List ℕ) → is_before book x y ≡ true → is_before book y x ≡ true → ⊥
one_way book x y t u =
    let p = ordered_from_before book x y t in
    let q = ordered_from_before book y x u in
    let first : p.first ≡ q.second = cc (p.first_is, q.second_is) in
    let second : p.second ≡ q.first = cc (p.second_is, q.first_is) in
    let back : age_cmp (y, q.first) (x, q.second) ≡ Less = q.ordered in
    let forth : age_cmp (x, q.second) (y, q.first) ≡ Less = rw (← first, ← second) p.ordered in
    let turned = age_cmp-total.antisymm (x, q.second) (y, q.first) in
    let greater : age_cmp (x, q.second) (y, q.first) ≡ Greater = turned ∙ rw back refl in
    cc

chain : (book : Book) (x y z : List ℕ) → is_before book x y ≡ true → is_before book y z ≡ true → is_before book x z ≡ true
chain book x y z t u =
    let p = ordered_from_before book x y t in
    let q = ordered_from_before book y z u in
    let middle : p.second ≡ q.first = cc (p.second_is, q.first_is) in
    let forth : age_cmp (x, p.first) (y, q.first) ≡ Less = rw (← middle) p.ordered in
    before_from_ordered book x z p.first q.second p.first_is q.second_is
    (age_cmp-total.trans (x, p.first) (y, q.first) (z, q.second) forth q.ordered)

parent_before : (book : Book) (p x : List ℕ) (s a : Animal) → record_of book p ≡ Some s → record_of book x ≡ Some a → s.birth <ℤ a.birth →
    Contains (keys_of book) p × (is_before book p x ≡ true)
parent_before book p x s a es ea older =
    (number_there book p s es, before_from_ordered book p x s a es ea (then_less _ _ (int_cmp_less s.birth a.birth older)))

-- The ancestry

pub book-lawful : (l most : ℕ) (book : Book) → IsLawfulBook l most book → IsLawful (book_ancestry book)
book-lawful l most book w = record {
  same = λ x y. (same_bytes x y, λ e. subst (λ v. bytes_eq x v ≡ true) e (bytes_itself x));
  once = λ x c. count-one bytes_eq same_bytes bytes_itself x (keys_of book) w.once c;
  one_way = one_way book;
  chain = chain book;
  total = total_order book;
  parents = λ p x _ is.
      ⊎_elim
      (λ s.
      let r = recorded (λ a. a.sire) (record_of book x) p s in
      let sire = (w.records x r.animal r.is).sire p r.parent in
      parent_before book p x sire.sire r.animal sire.there r.is sire.older)
      (λ d.
      let r = recorded (λ a. a.dam) (record_of book x) p d in
      let dam = (w.records x r.animal r.is).dam p r.parent in
      parent_before book p x dam.dam r.animal dam.there r.is dam.older)
      is;
}

-- no animal of a lawful book has one animal as sire and dam
pub parents-differ : (l most : ℕ) (book : Book) → IsLawfulBook l most book → (p x : List ℕ) → option_and_then (λ a. a.sire) (record_of book x) ≡ Some p → ¬ (option_and_then (λ a. a.dam) (record_of book x) ≡ Some p)
parents-differ l most book w p x s d =
    let rs = recorded (λ a. a.sire) (record_of book x) p s in
    let rd = recorded (λ a. a.dam) (record_of book x) p d in
    let male = ((w.records x rs.animal rs.is).sire p rs.parent).male in
    let female = ((w.records x rd.animal rd.is).dam p rd.parent).female in
    cc
