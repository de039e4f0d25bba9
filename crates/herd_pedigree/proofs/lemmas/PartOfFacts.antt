-- A part of a lawful book is lawful, and its frozen rows are a frozen part of the book.
use Rattle.std.proofs.Common.{ℕ, zero, suc, ◌+◌, ◌≡◌, ◌⊎◌, inl, inr, ⊎_elim, arith, Bool, true, false, List, [], ◌∷◌, get_or, slice_get, Option, Some, None, Contains, IsTrue, not, refl, sym, ap, subst, ◌∙◌}
use Rattle.std.specs.List.{list_any}
use Rattle.std.specs.Map.{keys_of}
use Rattle.std.specs.Option.{option_and_then}
use Rattle.std.proofs.lemmas.Bool.{false_from_ne_true, not-true, or_left, or_right}
use Rattle.std.proofs.lemmas.List.Folds.{list_any_none}
use Rattle.std.proofs.lemmas.Option.{same_Some}
use Rattle.herd_frozen.specs.declared.rules.animal.Animal.{Animal}
use Rattle.herd_frozen.specs.declared.freezing.frozen.Row.{Row}
use Rattle.herd_frozen.specs.freezing.Frozen.{IsFrozenFrom, book_of}
use Rattle.herd_frozen.specs.rules.Book.{Book, is_shallow, is_there, parentage_of, record_of}
use Rattle.herd_frozen.specs.rules.Depths.{IsParent}
use Rattle.herd_frozen.specs.rules.Lawful.{IsLawful, IsLawfulRecord}
use Rattle.herd_frozen.specs.rules.Paths.{has_path}
use Rattle.herd_frozen.proofs.lemmas.ListFacts.{is_some_with, some_is}
use Rattle.herd_frozen.proofs.lemmas.rules.BookFacts.{key_from_entry, place_of}
use Rattle.herd_frozen.proofs.lemmas.rules.PathFacts.{Path, path-from_test, path-moved, path-there, test-from_path}
use Rattle.herd_frozen.proofs.lemmas.rules.PermutedFacts.{record_of-permuted}
use Rattle.herd_pedigree.specs.Part.{IsFrozenPart, IsPartOf}

-- a test that passes one of a list
any_at : (test : List ℕ → Bool) (keys : List (List ℕ)) (k : ℕ) (x : List ℕ) → slice_get keys k ≡ Some x → test x ≡ true → list_any test keys ≡ true
any_at test [] k x at pass = absurd (cc)
any_at test (y ∷ keys) zero x at pass = or_left (test y) (list_any test keys) (rw (same_Some _ _ at) pass)
any_at test (y ∷ keys) (suc k) x at pass = or_right (test y) (list_any test keys) (any_at test keys k x at pass)

-- a parent that a record names
named-by : (field : Animal → Option (List ℕ)) (found : Option Animal) (p : List ℕ) → option_and_then field found ≡ Some p → (a : Animal) × (found ≡ Some a) × (field a ≡ Some p)
named-by field None p e = absurd (cc)
named-by field (Some a) p e = (a, refl, e)

module _ (book part : Book) (is : IsPartOf book part) where
  there-in : (x : List ℕ) → IsTrue (is_there part x) → IsTrue (is_there book x)
  there-in x there = let a = is_some_with (record_of part x) there in some_is (record_of book x) a.0 (is.same x a.0 a.1)

  parent-in : (x p : List ℕ) → IsParent (parentage_of part) p x → IsParent (parentage_of book) p x
  parent-in x p parent =
      ⊎_elim
      (λ s. let a = named-by (λ animal. animal.sire) (record_of part x) p s in inl (rw (is.same x a.0 a.1) a.2))
      (λ d. let a = named-by (λ animal. animal.dam) (record_of part x) p d in inr (rw (is.same x a.0 a.1) a.2))
      parent

  path-in : (n : ℕ) (x : List ℕ) → Path (parentage_of part) n x → Path (parentage_of book) n x
  path-in n x path =
      path-moved (parentage_of part) (parentage_of book) (λ x c. x ≡ c)
      (λ x c e there. subst (λ y. IsTrue (is_there book y)) e (there-in x there))
      (λ x p c e parent. (p, subst (λ y. IsParent (parentage_of book) p y) e (parent-in x p parent), refl))
      n x x refl path

  shallow-in : (l : ℕ) → IsTrue (is_shallow l book) → IsTrue (is_shallow l part)
  shallow-in l shallow =
      ap not
      (list_any_none (has_path (parentage_of part) (l + 1)) (keys_of part)
      (λ k d low.
      let x : List ℕ = get_or (keys_of part) k d in
      false_from_ne_true _
      (λ deep.
      let path = path-in (l + 1) x (path-from_test (parentage_of part) (l + 1) x deep) in
      let test = test-from_path (parentage_of book) (l + 1) x path in
      let a = is_some_with (record_of book x) (path-there (parentage_of book) (l + 1) x path) in
      let at = place_of book x a.0 a.1 in
      let long : list_any (has_path (parentage_of book) (l + 1)) (keys_of book) ≡ true =
      any_at (has_path (parentage_of book) (l + 1)) (keys_of book) at.0 x (key_from_entry book at.0 x a.0 at.1) test in
      let short : list_any (has_path (parentage_of book) (l + 1)) (keys_of book) ≡ false = not-true _ shallow in
      absurd (cc))))

  record-in : (x p : List ℕ) (a b : Animal) → record_of part x ≡ Some a → (a.sire ≡ Some p) ⊎ (a.dam ≡ Some p) → record_of book p ≡ Some b → record_of part p ≡ Some b
  record-in x p a b its named found =
      let c = is_some_with (record_of part p) (is.parents x p a its named) in
      let same : Some c.0 ≡ Some b = sym (is.same p c.0 c.1) ∙ found in
      c.1 ∙ same

  lawful_record-in : (x : List ℕ) (a : Animal) → record_of part x ≡ Some a → IsLawfulRecord book a → IsLawfulRecord part a
  lawful_record-in x a its r = record {
    sire = λ p e. let s = r.sire p e in record { sire = s.sire; there = record-in x p a s.sire its (inl e) s.there; male = s.male; older = s.older };
    dam = λ p e. let d = r.dam p e in record { dam = d.dam; there = record-in x p a d.dam its (inr e) d.there; female = d.female; older = d.older; stayed = d.stayed };
    since = r.since;
    left = r.left;
  }

  pub part-lawful : (l most : ℕ) → IsLawful l most book → IsLawful l most part
  part-lawful l most lawful = record {
    once = is.once;
    few = (let f = is.few in let m = lawful.few in omega (arith, f, m));
    shallow = shallow-in l lawful.shallow;
    records = λ x a its. lawful_record-in x a its (lawful.records x a (is.same x a its));
  }

-- the frozen rows of a part
pub part-frozen : (l most : ℕ) (book part : Book) (numbers : List (List ℕ)) (rows : List Row) → IsLawful l most book → IsPartOf book part → ((x : List ℕ) → Contains numbers x → record_of part x ≡ record_of book x)
    → IsFrozenFrom l most part rows → IsFrozenPart l most book numbers rows
part-frozen l most book part numbers rows lawful is named frozen =
    let same : (x : List ℕ) → record_of (book_of rows) x ≡ record_of part x = record_of-permuted part (book_of rows) is.once frozen.same in
    record {
      lawful = lawful;
      frozen = frozen.frozen;
      same = λ x a e. is.same x a (sym (same x) ∙ e);
      named = λ x has. same x ∙ named x has;
    }
