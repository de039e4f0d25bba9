-- Animals that are found one after the other, and the part of the book that they are.
use Rattle.std.proofs.Common.{ℕ, zero, suc, ◌+◌, ◌-◌, ◌<◌, ◌≤◌, ◌≡◌, ◌⊎◌, inl, inr, ⊎_elim, Bool, true, false, List, [], ◌∷◌, ◌++◌, length, replicate, set, get_or, position, slice_get, take, Option, Some, None, IfNone, IfSome, is_some, Contains, IsTrue, arith, refl, sym, ap, ap₂, subst, ◌∙◌, eqb, append_assoc}
use Rattle.std.specs.List.{AllByRecursion, IsDistinct}
use Rattle.std.specs.Map.{keys_of}
use Rattle.std.specs.Str.{bytes_eq}
use Rattle.std.proofs.lemmas.Bool.{cases_lt, eq-eqb, eqb-true, false_from_ne_true}
use Rattle.std.proofs.lemmas.Cmp.{nat_eq_equiv, nat_list_eq_equiv}
use Rattle.std.proofs.lemmas.List.{append-nil, get_or_default, length-append, length-map, map_push, take_more}
use Rattle.std.proofs.lemmas.List.Elements.{Contains-append_left, Contains-push, Contains-push_cases}
use Rattle.std.proofs.lemmas.Map.Keys.{IsDistinct-push}
use Rattle.std.proofs.lemmas.Map.Steps.{length-le_from_distinct_below}
use Rattle.std.proofs.lemmas.Map.Views.{Contains-from_any, Contains-from_lookup, lookup-from_Contains}
use Rattle.std.proofs.lemmas.Option.{get_or_from_slice_get, same_Some, slice_get-get_or, slice_get_within}
use Rattle.herd_frozen.specs.declared.rules.animal.Animal.{Animal}
use Rattle.herd_frozen.specs.declared.places.links.Link.{Link}
use Rattle.herd_frozen.specs.places.Links.{IsLinkAt}
use Rattle.herd_frozen.specs.places.Places.{IsIndexIn}
use Rattle.herd_frozen.specs.rules.Book.{Book, is_there, record_of}
use Rattle.herd_frozen.specs.rules.Lawful.{IsLawful}
use Rattle.herd_frozen.proofs.lemmas.ListFacts.{option_cases, some_is, there}
use Rattle.herd_frozen.proofs.lemmas.rules.BookFacts.{at_position, entry_from_key, key_from_entry, length-keys, lookup_at, place_of, same_bytes, stands_once}
use Rattle.herd_frozen.proofs.lemmas.places.NumberFacts.{further, place-within}
use Rattle.herd_pedigree.specs.Part.{IsPartOf}
use Rattle.herd_pedigree.specs.store.Ancestors.{AreMarked, BeginsWith, HasAncestors, HasNamed, HasParents, IsParentAt, no_entry, records_at}

-- ---- marks

never_marked : (n place : ℕ) → slice_get (replicate n false) place ≡ Some true → ⊥
never_marked zero place is = absurd (cc)
never_marked (suc n) zero is = absurd (cc)
never_marked (suc n) (suc place) is = never_marked n place is

-- at first no animal was found
pub marked-none : (n : ℕ) → AreMarked [] (replicate n false)
unfolding IsDistinct
marked-none n = record {
  once = tt;
  themselves = λ place has. absurd (let low = has.1 in omega (arith, low));
  others = λ place is. absurd (never_marked n place is);
}

take_none : (n : ℕ) → take {A = Bool} n [] ≡ []
take_none zero = refl
take_none (suc n) = refl

-- marks that are written anew where there were none
pub marks-anew : (n k : ℕ) (marks : List Bool) → marks ≡ [] → k ≡ 0 → take n marks ++ replicate (n - k) false ≡ replicate n false
marks-anew n k marks empty none =
    let all : n - k ≡ n = omega (arith, none) in
    ap₂ (λ ms j. take n ms ++ replicate j false) empty all ∙ ap (λ ms. ms ++ replicate n false) (take_none n)

set_it : (marks : List Bool) (i : ℕ) → i < length marks → slice_get (set marks i true) i ≡ Some true
set_it [] i within = absurd (omega arith)
set_it (m ∷ marks) zero within = refl
set_it (m ∷ marks) (suc i) within = set_it marks i (omega arith)

set_keeps : (marks : List Bool) (i place : ℕ) → slice_get marks place ≡ Some true → slice_get (set marks i true) place ≡ Some true
set_keeps [] i place is = is
set_keeps (m ∷ marks) zero zero is = refl
set_keeps (m ∷ marks) zero (suc place) is = is
set_keeps (m ∷ marks) (suc i) zero is = is
set_keeps (m ∷ marks) (suc i) (suc place) is = set_keeps marks i place is

set_from : (marks : List Bool) (i place : ℕ) → slice_get (set marks i true) place ≡ Some true → (slice_get marks place ≡ Some true) ⊎ (i ≡ place)
set_from [] i place is = inl is
set_from (m ∷ marks) zero zero is = inr refl
set_from (m ∷ marks) zero (suc place) is = inl is
set_from (m ∷ marks) (suc i) zero is = inl is
set_from (m ∷ marks) (suc i) (suc place) is = ⊎_elim (λ a. inl a) (λ b. inr (ap suc b)) (set_from marks i place is)

same_number : (x y : ℕ) → eqb x y ≡ true → x ≡ y
same_number x y e = eqb-true x y e

-- one more animal is found
pub marked-push : (places : List ℕ) (marks : List Bool) (place : ℕ) → AreMarked places marks → slice_get marks place ≡ Some false → AreMarked (places ++ place ∷ []) (set marks place true)
marked-push places marks place are unmarked = record {
  once = IsDistinct-push nat_eq_equiv places place are.once
      (false_from_ne_true _ (λ found. let marked = are.themselves place (Contains-from_any same_number place places found) in absurd (cc)));
  themselves = λ p has.
      ⊎_elim
      (λ (old : Contains places p). set_keeps marks place p (are.themselves p old))
      (λ (e : place ≡ p). subst (λ q. slice_get (set marks place true) q ≡ Some true) e (set_it marks place (slice_get_within marks place false unmarked)))
      (Contains-push_cases places place p has);
  others = λ p is.
      ⊎_elim
      (λ (old : slice_get marks p ≡ Some true). Contains-append_left places (place ∷ []) p (are.others p old))
      (λ (e : place ≡ p). subst (λ q. Contains (places ++ place ∷ []) q) e (Contains-push places place))
      (set_from marks place p is);
}

-- no more animals are found than there are
pub marked-few : (places : List ℕ) (marks : List Bool) → AreMarked places marks → length places ≤ length marks
marked-few places marks are =
    length-le_from_distinct_below places (length marks) are.once
    (λ q found. slice_get_within marks q true (are.themselves q (Contains-from_any same_number q places found)))

-- ---- lists that grow

get-append : (xs ys : List ℕ) (i x : ℕ) → slice_get xs i ≡ Some x → slice_get (xs ++ ys) i ≡ Some x
get-append [] ys i x e = absurd (cc)
get-append (y ∷ xs) ys zero x e = e
get-append (y ∷ xs) ys (suc i) x e = get-append xs ys i x e

get-front : (xs ys : List ℕ) (i x : ℕ) → i < length xs → slice_get (xs ++ ys) i ≡ Some x → slice_get xs i ≡ Some x
get-front [] ys i x low e = absurd (omega (arith, low))
get-front (y ∷ xs) ys zero x low e = e
get-front (y ∷ xs) ys (suc i) x low e = get-front xs ys i x (omega (arith, low)) e

pub begins-itself : (xs : List ℕ) → BeginsWith xs xs
begins-itself xs = ([], sym (append-nil xs))

pub begins-further : (xs ys zs : List ℕ) → BeginsWith xs ys → BeginsWith ys zs → BeginsWith xs zs
begins-further xs ys zs (a, e) (b, f) = (a ++ b, f ∙ ap (λ l. l ++ b) e ∙ append_assoc xs a b)

pub begins-contains : (xs ys : List ℕ) (x : ℕ) → BeginsWith xs ys → Contains xs x → Contains ys x
begins-contains xs ys x (rest, e) has = subst (λ l. Contains l x) (sym e) (Contains-append_left xs rest x has)

begins-longer : (xs ys : List ℕ) → BeginsWith xs ys → length xs ≤ length ys
begins-longer xs ys (rest, e) = let a = ap length e in let b = length-append xs rest in omega (arith, a, b)

-- ---- parents

-- the known parents of the first animals that were found were found too
pub record IsClosedTo (book : Book) (places : List ℕ) (next : ℕ) : Type 0 where
  pub each : (i place parent : ℕ) → i < next → slice_get places i ≡ Some place → IsParentAt book place parent → Contains places parent

linked : (keys : List (List ℕ)) (o : Option ℕ) (n : Option (List ℕ)) (number : List ℕ) → IsIndexIn keys o n → n ≡ Some number → (q : ℕ) × (o ≡ Some q) × (slice_get keys q ≡ Some number)
linked keys None None number is e = absurd (cc)
linked keys None (Some x) number is e = absurd is
linked keys (Some q) None number is e = absurd is
linked keys (Some q) (Some x) number is e = (q, refl, is ∙ e)

there_if : (o : Option ℕ) (P : ℕ → Type 0) (q : ℕ) → IfSome o P → o ≡ Some q → P q
there_if None P q h e = absurd (cc)
there_if (Some x) P q h e = subst P (same_Some _ _ e) h

module _ (book : Book) (once : IsDistinct bytes_eq (keys_of book)) where
  its_parent : (places : List ℕ) (o : Option ℕ) (n : Option (List ℕ)) (number : List ℕ) (parent : ℕ) → IsIndexIn (keys_of book) o n → IfSome o (Contains places) → n ≡ Some number
      → slice_get (keys_of book) parent ≡ Some number → Contains places parent
  its_parent places o n number parent is has e at =
      let q = linked (keys_of book) o n number is e in
      let same : q.0 ≡ parent = stands_once (keys_of book) once q.0 parent number q.2 at in
      subst (λ p. Contains places p) same (there_if o (Contains places) q.0 has q.1)

  -- one more animal's parents were found
  pub closed-more : (places new : List ℕ) (next place : ℕ) (link : Link) → IsClosedTo book places next → slice_get places next ≡ Some place → BeginsWith places new → IsLinkAt book place link
      → IfSome link.sire (Contains new) → IfSome link.dam (Contains new) → IsClosedTo book new (next + 1)
  closed-more places new next place link closed at (rest, e) is sire dam = record {
    each = λ i p parent low here parents.
        let longer : next < length places = slice_get_within places next place at in
        let old : slice_get places i ≡ Some p = get-front places rest i p (omega (arith, low, longer)) (ap (λ l. slice_get l i) (sym e) ∙ here) in
        ⊎_elim
        (λ (before : i < next). begins-contains places new parent (rest, e) (closed.each i p parent before old parents))
        (λ (last : next ≤ i).
        let same : i ≡ next = omega (arith, low, last) in
        let one : p ≡ place = same_Some _ _ (sym old ∙ ap (λ k. slice_get places k) same ∙ at) in
        let entry_at : slice_get book place ≡ Some parents.entry = ap (λ k. slice_get book k) (sym one) ∙ parents.at in
        ⊎_elim
        (λ (s : parents.entry.1.sire ≡ Some parents.number). its_parent new link.sire parents.entry.1.sire parents.number parent (is.sire parents.entry entry_at) sire s parents.there)
        (λ (d : parents.entry.1.dam ≡ Some parents.number). its_parent new link.dam parents.entry.1.dam parents.number parent (is.dam parents.entry entry_at) dam d parents.there)
        parents.named)
        (cases_lt i next);
  }

pub closed-all : (book : Book) (places : List ℕ) (next : ℕ) → IsClosedTo book places next → length places ≤ next → HasParents book places
closed-all book places next closed past place parent has parents =
    let low = has.1 in
    closed.each has.0 place parent (omega (arith, low, past)) (slice_get-get_or places has.0 place has.1 ∙ ap Some has.2) parents

pub if-further : (o : Option ℕ) (xs ys : List ℕ) → BeginsWith xs ys → IfSome o (Contains xs) → IfSome o (Contains ys)
if-further None xs ys b h = h
if-further (Some p) xs ys b h = begins-contains xs ys p b h

-- an animal that was found is one of the book
pub marked-within : (places : List ℕ) (marks : List Bool) (next place : ℕ) → AreMarked places marks → next < length places → place ≡ get_or places next place → place < length marks
marked-within places marks next place are low is = slice_get_within marks place true (are.themselves place (next, low, sym is))

pub sire-within : (book : Book) (place animals : ℕ) (link : Link) → IsLinkAt book place link → place < length book → length book ≤ animals → IfSome link.sire (λ p. p < animals)
sire-within book place animals link is within most =
    let entry = there book place within in
    let all = length-keys book in
    further link.sire (omega (arith, all, most)) (place-within (keys_of book) link.sire entry.0.1.sire (is.sire entry.0 entry.1))

pub dam-within : (book : Book) (place animals : ℕ) (link : Link) → IsLinkAt book place link → place < length book → length book ≤ animals → IfSome link.dam (λ p. p < animals)
dam-within book place animals link is within most =
    let entry = there book place within in
    let all = length-keys book in
    further link.dam (omega (arith, all, most)) (place-within (keys_of book) link.dam entry.0.1.dam (is.dam entry.0 entry.1))

-- ---- numbers

-- the animals of the first numbers were found
abbrev pub HasFirst : Book → List (List ℕ) → ℕ → List ℕ → Type 0
HasFirst book numbers n places =
    (k place : ℕ) (number : List ℕ) → k < n → get_or numbers k number ≡ number → slice_get (keys_of book) place ≡ Some number → Contains places place

pub first-more : (book : Book) (numbers : List (List ℕ)) (old new : List ℕ) (i : ℕ) (number : List ℕ) → HasFirst book numbers i old → i < length numbers → number ≡ get_or numbers i number → BeginsWith old new
    → ((place : ℕ) → slice_get (keys_of book) place ≡ Some number → Contains new place) → HasFirst book numbers (i + 1) new
first-more book numbers old new i number first within item begins its k place x low is at =
    ⊎_elim
    (λ (before : k < i). begins-contains old new place begins (first k place x before is at))
    (λ (last : i ≤ k).
    let same : k ≡ i = omega (arith, low, last) in
    let one : x ≡ number = sym is ∙ ap (λ j. get_or numbers j x) same ∙ get_or_default numbers i x number within ∙ sym item in
    its place (at ∙ ap Some one))
    (cases_lt k i)

-- the place at which a number is looked up
pub place-there : (book : Book) (number : List ℕ) (o : Option ℕ) → o ≡ position (bytes_eq number) (keys_of book) → IfSome o (λ place. slice_get (keys_of book) place ≡ Some number)
place-there book number None is = tt
place-there book number (Some place) is = at_position book number place (sym is)

pub place-absent : (book : Book) (number : List ℕ) (o : Option ℕ) → is_some o ≡ is_there book number → IfNone o (is_there book number ≡ false)
place-absent book number None is = sym is
place-absent book number (Some place) is = tt

-- an animal stands at one place alone
pub its-place : (book : Book) → IsDistinct bytes_eq (keys_of book) → (number : List ℕ) (p : ℕ) (places : List ℕ) → slice_get (keys_of book) p ≡ Some number → Contains places p
    → (place : ℕ) → slice_get (keys_of book) place ≡ Some number → Contains places place
its-place book once number p places here has place at =
    subst (λ q. Contains places q) (stands_once (keys_of book) once p place number here at) has

pub no-place : (book : Book) → IsDistinct bytes_eq (keys_of book) → (number : List ℕ) → is_there book number ≡ false → (place : ℕ) → slice_get (keys_of book) place ≡ Some number → ⊥
no-place book once number absent place at =
    let entry = entry_from_key book place number at in
    let there = some_is (record_of book number) entry.0 (lookup_at book once place number entry.0 entry.1) in
    absurd (cc)

-- all that was found has the ancestors of the animals of the numbers
pub ancestors-from : (book : Book) (numbers : List (List ℕ)) (named places : List ℕ) (marks : List Bool) → AreMarked places marks → length marks ≡ length book → HasNamed book numbers named → BeginsWith named places
    → HasParents book places → HasAncestors book numbers places
ancestors-from book numbers named places marks are long has begins parents = record {
  within = λ place here. let w = slice_get_within marks place true (are.themselves place here) in omega (arith, w, long);
  once = are.once;
  named = λ number place is at. begins-contains named places place begins (has number place is at);
  parents = parents;
}

-- ---- their records

pub records-more : (book : Book) (places : List ℕ) (i : ℕ) (entry : List ℕ × Animal) (list new : Book) → i < length places → slice_get book (get_or places i 0) ≡ Some entry → list ≡ records_at book (take i places) → new ≡ list ++ entry ∷ []
    → new ≡ records_at book (take (i + 1) places)
records-more book places i entry list new low at so e =
    let read : get_or book (get_or places i 0) no_entry ≡ entry = get_or_from_slice_get book (get_or places i 0) entry no_entry at in
    e ∙ ap (λ l. l ++ entry ∷ []) so ∙ ap (λ x. records_at book (take i places) ++ x ∷ []) (sym read)
    ∙ sym (map_push (λ place. get_or book place no_entry) (take i places) (get_or places i 0))
    ∙ ap (λ l. records_at book l) (sym (take_more places i 0 low))

-- the record at a place that was found is among theirs
pub records-have : (book : Book) (places : List ℕ) (place : ℕ) (entry : List ℕ × Animal) → Contains places place → slice_get book place ≡ Some entry → Contains (records_at book places) entry
records-have book [] place entry has at = absurd (let low = has.1 in omega (arith, low))
records-have book (p ∷ places) place entry (zero, low, is) at =
    let same : get_or book p no_entry ≡ entry = ap (λ q. get_or book q no_entry) is ∙ get_or_from_slice_get book place entry no_entry at in
    (zero, omega arith, same)
records-have book (p ∷ places) place entry (suc k, low, is) at =
    let rest = records-have book places place entry (k, omega (arith, low), is) at in
    (suc rest.0, (let r = rest.1 in omega (arith, r)), rest.2)

-- and each of theirs stands at a place that was found
pub record-from : (book : Book) (places : List ℕ) → ((place : ℕ) → Contains places place → place < length book) → (entry : List ℕ × Animal) → Contains (records_at book places) entry
    → (place : ℕ) × Contains places place × (slice_get book place ≡ Some entry)
record-from book [] within entry has = absurd (let low = has.1 in omega (arith, low))
record-from book (p ∷ places) within entry (zero, low, is) =
    let here : Contains (p ∷ places) p = (zero, omega arith, refl) in
    (p, here, slice_get-get_or book p no_entry (within p here) ∙ ap Some is)
record-from book (p ∷ places) within entry (suc k, low, is) =
    let rest = record-from book places (λ q has. within q (suc has.0, (let h = has.1 in omega (arith, h)), has.2)) entry (k, omega (arith, low), is) in
    (rest.0, (suc rest.1.0, (let h = rest.1.1 in omega (arith, h)), rest.1.2), rest.2)

module _ (book : Book) (once : IsDistinct bytes_eq (keys_of book)) where
  apart_keys : (p q : ℕ) → p < length book → q < length book → eqb p q ≡ false → bytes_eq (get_or book p no_entry).0 (get_or book q no_entry).0 ≡ false
  apart_keys p q lp lq apart =
      false_from_ne_true _
      (λ same.
      let e : (get_or book p no_entry).0 ≡ (get_or book q no_entry).0 = same_bytes _ _ same in
      let first = key_from_entry book p (get_or book p no_entry).0 (get_or book p no_entry).1 (slice_get-get_or book p no_entry lp) in
      let second = key_from_entry book q (get_or book q no_entry).0 (get_or book q no_entry).1 (slice_get-get_or book q no_entry lq) in
      let one : p ≡ q = stands_once (keys_of book) once p q (get_or book p no_entry).0 first (second ∙ ap Some (sym e)) in
      let t : eqb p q ≡ true = eq-eqb p q one in absurd (cc))

  apart_from_all : (p : ℕ) (places : List ℕ) → p < length book → ((q : ℕ) → Contains places q → q < length book) → AllByRecursion (λ q. eqb p q ≡ false) places
      → AllByRecursion (λ k. bytes_eq (get_or book p no_entry).0 k ≡ false) (keys_of (records_at book places))
  apart_from_all p [] lp within all = tt
  apart_from_all p (q ∷ places) lp within all = (
    apart_keys p q lp (within q (zero, omega arith, refl)) all.0,
    apart_from_all p places lp (λ r has. within r (suc has.0, (let h = has.1 in omega (arith, h)), has.2)) all.1,
  )

  -- their numbers are distinct
  records-once : (places : List ℕ) → ((q : ℕ) → Contains places q → q < length book) → IsDistinct eqb places → IsDistinct bytes_eq (keys_of (records_at book places))
  unfolding IsDistinct
  records-once [] within d = tt
  records-once (p ∷ places) within d = (
    apart_from_all p places (within p (zero, omega arith, refl)) (λ r has. within r (suc has.0, (let h = has.1 in omega (arith, h)), has.2)) d.0,
    records-once places (λ r has. within r (suc has.0, (let h = has.1 in omega (arith, h)), has.2)) d.1,
  )

module _ (l most : ℕ) (book : Book) (lawful : IsLawful l most book) (numbers : List (List ℕ)) (places : List ℕ) (has : HasAncestors book numbers places) where
  abbrev pub part : Book
  part = records_at book places

  part-once : IsDistinct bytes_eq (keys_of part)
  part-once = records-once book lawful.once places has.within has.once

  few : length part ≤ length book
  few =
      let all : length places ≤ length book = length-le_from_distinct_below places (length book) has.once (λ q found. has.within q (Contains-from_any same_number q places found)) in
      let long : length part ≡ length places = length-map places (λ place. get_or book place no_entry) in
      omega (arith, all, long)

  -- where a record of the part stands
  stands : (x : List ℕ) (a : Animal) → record_of part x ≡ Some a → (place : ℕ) × Contains places place × (slice_get book place ≡ Some (x, a))
  stands x a is = record-from book places has.within (x, a) (Contains-from_lookup same_bytes x a part is)

  -- the record of an animal that was found
  found : (x : List ℕ) (a : Animal) (place : ℕ) → Contains places place → slice_get book place ≡ Some (x, a) → record_of part x ≡ Some a
  found x a place here at = lookup-from_Contains nat_list_eq_equiv x a part part-once (records-have book places place (x, a) here at)

  part-same : (x : List ℕ) (a : Animal) → record_of part x ≡ Some a → record_of book x ≡ Some a
  part-same x a is = let at = stands x a is in lookup_at book lawful.once at.0 x a at.2

  -- a known parent of an animal that was found, whose record is this
  parent_found : (x p : List ℕ) (a b : Animal) → record_of part x ≡ Some a → (a.sire ≡ Some p) ⊎ (a.dam ≡ Some p) → record_of book p ≡ Some b → IsTrue (is_there part p)
  parent_found x p a b is named its =
      let at = stands x a is in
      let parent = place_of book p b its in
      let linked : IsParentAt book at.0 parent.0 = record { entry = (x, a); number = p; at = at.2; named = named; there = key_from_entry book parent.0 p b parent.1 } in
      some_is (record_of part p) b (found p b parent.0 (has.parents at.0 parent.0 at.1 linked) parent.1)

  -- they are a part of the book
  pub ancestors-part : IsPartOf book part
  ancestors-part = record {
    once = part-once;
    few = few;
    same = part-same;
    parents = λ x p a is named.
        let its = lawful.records x a (part-same x a is) in
        ⊎_elim
        (λ (s : a.sire ≡ Some p). let sire = its.sire p s in parent_found x p a sire.sire is named sire.there)
        (λ (d : a.dam ≡ Some p). let dam = its.dam p d in parent_found x p a dam.dam is named dam.there)
        named;
  }

  -- in which the animals of the numbers have the records that they have in the book
  pub ancestors-named : (x : List ℕ) → Contains numbers x → record_of part x ≡ record_of book x
  ancestors-named x named =
      ⊎_elim
      (λ (none : record_of book x ≡ None).
      ⊎_elim (λ (e : record_of part x ≡ None). e ∙ sym none) (λ r. let bad = part-same x r.0 r.1 in absurd (cc)) (option_cases (record_of part x)))
      (λ r.
      let at = place_of book x r.0 r.1 in
      found x r.0 at.0 (has.named x at.0 named (key_from_entry book at.0 x r.0 at.1)) at.1 ∙ sym r.1)
      (option_cases (record_of book x))
