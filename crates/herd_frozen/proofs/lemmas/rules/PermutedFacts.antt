-- A book with its records in another order has the same look-ups, and so the same paths and laws.
use Rattle.std.proofs.Common.{ℕ, ◌+◌, ◌≤◌, ◌≡◌, ⊎_elim, Bool, List, Option, Some, None, sym, ◌∙◌, ap, subst, not, IsTrue}
use Rattle.std.specs.Prelude.{is_some, IsPermutation}
use Rattle.std.specs.List.{IsDistinct, list_any}
use Rattle.std.specs.Map.{keys_of}
use Rattle.std.specs.Option.{option_and_then}
use Rattle.std.specs.Str.{bytes_eq}
use Rattle.std.proofs.lemmas.Cmp.{nat_list_eq_equiv}
use Rattle.std.proofs.lemmas.List.Sorted.{Contains-permutation, IsPermutation-sym, IsPermutation-map, length_permutation, list_any-IsPermutation}
use Rattle.std.proofs.lemmas.Map.Keys.{IsDistinct-IsPermutation}
use Rattle.std.proofs.lemmas.Map.Views.{Contains-from_lookup, lookup-from_Contains}
use Rattle.herd_frozen.specs.declared.rules.animal.Animal.{Animal}
use Rattle.herd_frozen.specs.rules.Paths.{Parentage, has_path, IsDepth}
use Rattle.herd_frozen.specs.rules.Book.{Book, IsDepthOf, is_shallow, parentage_of, record_of}
use Rattle.herd_frozen.specs.rules.Lawful.{IsLawful, IsLawfulRecord, IsSireOf, IsDamOf}
use Rattle.herd_frozen.proofs.lemmas.ListFacts.{option_cases}
use Rattle.herd_frozen.proofs.lemmas.rules.BookFacts.{same_bytes}

-- what is found in one order is found in the other
found-permuted : (book other : Book) → IsDistinct bytes_eq (keys_of other) → IsPermutation book other → (x : List ℕ) (animal : Animal) → record_of book x ≡ Some animal → record_of other x ≡ Some animal
found-permuted book other once p x animal e =
    lookup-from_Contains nat_list_eq_equiv x animal other once
    (Contains-permutation book other (x, animal) p (Contains-from_lookup same_bytes x animal book e))

-- the parentage that look-ups give
abbrev parentage_by : (List ℕ → Option Animal) → Parentage (List ℕ)
parentage_by found = record {
  is_there = λ x. is_some (found x);
  sire = λ x. option_and_then (λ animal. animal.sire) (found x);
  dam = λ x. option_and_then (λ animal. animal.dam) (found x);
}

module _ (book other : Book) (once : IsDistinct bytes_eq (keys_of book)) (p : IsPermutation book other) where
  once-permuted : IsDistinct bytes_eq (keys_of other)
  once-permuted = IsDistinct-IsPermutation bytes_eq (λ x y. nat_list_eq_equiv.symm x y) (keys_of book) (keys_of other) (IsPermutation-map (λ e. e.0) book other p) once

  pub record_of-permuted : (x : List ℕ) → record_of other x ≡ record_of book x
  record_of-permuted x =
      ⊎_elim
      (λ (none : record_of book x ≡ None).
      ⊎_elim
      (λ (none' : record_of other x ≡ None). none' ∙ sym none)
      (λ r. r.1 ∙ sym (found-permuted other book once (IsPermutation-sym book other p) x r.0 r.1))
      (option_cases (record_of other x)))
      (λ r. found-permuted book other once-permuted p x r.0 r.1 ∙ sym r.1)
      (option_cases (record_of book x))

  parentage-permuted : parentage_of other ≡ parentage_of book
  parentage-permuted = let same : record_of other ≡ record_of book = λ i x. record_of-permuted x i in ap parentage_by same

  -- the depths are the same
  pub IsDepthOf-permuted : (x : List ℕ) (n : ℕ) → IsDepthOf book x n → IsDepthOf other x n
  IsDepthOf-permuted x n depth = subst (λ (parentage : Parentage (List ℕ)). IsDepth parentage x n) (sym parentage-permuted) depth

  shallow-permuted : (l : ℕ) → IsTrue (is_shallow l book) → IsTrue (is_shallow l other)
  shallow-permuted l shallow =
      let keys : list_any (has_path (parentage_of book) (l + 1)) (keys_of book) ≡ list_any (has_path (parentage_of book) (l + 1)) (keys_of other) =
      list_any-IsPermutation (has_path (parentage_of book) (l + 1)) (keys_of book) (keys_of other) (IsPermutation-map (λ e. e.0) book other p) in
      let paths : list_any (has_path (parentage_of book) (l + 1)) (keys_of other) ≡ list_any (has_path (parentage_of other) (l + 1)) (keys_of other) =
      ap (λ (parentage : Parentage (List ℕ)). list_any (has_path parentage (l + 1)) (keys_of other)) (sym parentage-permuted) in
      sym (ap not (keys ∙ paths)) ∙ shallow

  sire-permuted : (birth : _) (x : List ℕ) → IsSireOf book birth x → IsSireOf other birth x
  sire-permuted birth x s = record { sire = s.sire; there = record_of-permuted x ∙ s.there; male = s.male; older = s.older }

  dam-permuted : (birth : _) (embryo : Bool) (x : List ℕ) → IsDamOf book birth embryo x → IsDamOf other birth embryo x
  dam-permuted birth embryo x d = record { dam = d.dam; there = record_of-permuted x ∙ d.there; female = d.female; older = d.older; stayed = d.stayed }

  lawful-record-permuted : (animal : Animal) → IsLawfulRecord book animal → IsLawfulRecord other animal
  lawful-record-permuted animal r = record {
    sire = λ x e. sire-permuted animal.birth x (r.sire x e);
    dam = λ x e. dam-permuted animal.birth animal.embryo x (r.dam x e);
    since = r.since;
    left = r.left;
  }

-- a lawful book stays lawful in any order of its records
pub IsLawful-permuted : (l most : ℕ) (book other : Book) → IsPermutation book other → IsLawful l most book → IsLawful l most other
IsLawful-permuted l most book other p lawful = record {
  once = once-permuted book other lawful.once p;
  few = subst (λ n. n ≤ most) (sym (length_permutation book other p)) lawful.few;
  shallow = shallow-permuted book other lawful.once p l lawful.shallow;
  records = λ x animal e. lawful-record-permuted book other lawful.once p animal (lawful.records x animal (sym (record_of-permuted book other lawful.once p x) ∙ e));
}
