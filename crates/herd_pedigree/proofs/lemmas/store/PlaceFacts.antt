-- Paths of the book by numbers are those by places.
use Rattle.std.proofs.Common.{ℕ, ◌+◌, ◌≡◌, ⊎_elim, inl, inr, arith, refl, sym, ap, ◌∙◌, subst, false, IsTrue, List, Option, Some, None, length, slice_get}
use Rattle.std.specs.Str.{bytes_eq}
use Rattle.std.specs.List.{IsDistinct}
use Rattle.std.specs.Map.{keys_of}
use Rattle.std.specs.Option.{option_and_then}
use Rattle.std.proofs.lemmas.Option.{slice_get_within}
use Rattle.std.proofs.lemmas.Bool.{lt-ltb, ltb-true, false_from_ne_true}
use Rattle.herd_frozen.specs.declared.rules.animal.Animal.{Animal}
use Rattle.herd_frozen.specs.rules.Paths.{has_path}
use Rattle.herd_frozen.specs.rules.Book.{Book, record_of, is_there, sire_of, dam_of, parentage_of, IsDepthOf}
use Rattle.herd_frozen.specs.rules.Depths.{IsParent, AreDepths}
use Rattle.herd_frozen.specs.places.Places.{parent_at, parentage_at, IsIndexIn, AreParents}
use Rattle.herd_frozen.proofs.lemmas.rules.PathFacts.{Path, path-from_test, path-moved, depths-path, depths-bound, depths-shallow, depth-from_paths, path-there}
use Rattle.herd_frozen.proofs.lemmas.rules.BookFacts.{lookup_at, entry_from_key, key_from_entry, place_of}
use Rattle.herd_frozen.proofs.lemmas.ListFacts.{there, is_some_with, some_is}

-- the place of a named parent
place_from_number : (numbers : List (List ℕ)) (o : Option ℕ) (n : Option (List ℕ)) (p : List ℕ) → IsIndexIn numbers o n → n ≡ Some p → (q : ℕ) × (o ≡ Some q) × (slice_get numbers q ≡ Some p)
place_from_number numbers None None p h e = absurd (cc)
place_from_number numbers None (Some n) p h e = absurd h
place_from_number numbers (Some q) None p h e = absurd (cc)
place_from_number numbers (Some q) (Some n) p h e = (q, refl, h ∙ e)

-- and the number of a parent by place
pub number_from_place : (numbers : List (List ℕ)) (o : Option ℕ) (n : Option (List ℕ)) (q : ℕ) → IsIndexIn numbers o n → o ≡ Some q → (p : List ℕ) × (n ≡ Some p) × (slice_get numbers q ≡ Some p)
number_from_place numbers None None q h e = absurd (cc)
number_from_place numbers None (Some n) q h e = absurd h
number_from_place numbers (Some r) None q h e = absurd h
number_from_place numbers (Some r) (Some n) q h e = let k : r ≡ q = cc in (n, refl, subst (λ v. slice_get numbers v ≡ Some n) k h)

-- a parent of the animal with this record
parent_in_record : (book : Book) (x p : List ℕ) (animal : Animal) (parent_of : Animal → Option (List ℕ)) → record_of book x ≡ Some animal → option_and_then parent_of (record_of book x) ≡ Some p → parent_of animal ≡ Some p
parent_in_record book x p animal parent_of known e = sym (ap (λ o. option_and_then parent_of o) known) ∙ e

module _ (book : Book) (sires dams : List (Option ℕ)) (once : IsDistinct bytes_eq (keys_of book)) (s : AreParents book (λ animal. animal.sire) sires) (d : AreParents book (λ animal. animal.dam) dams) where
  -- a step to a parent, by numbers and by places
  step_by_place : (x p : List ℕ) (c : ℕ) → slice_get (keys_of book) c ≡ Some x → IsParent (parentage_of book) p x → (q : ℕ) × IsParent (parentage_at sires dams) q c × (slice_get (keys_of book) q ≡ Some p)
  step_by_place x p c at is =
      let entry = entry_from_key book c x at in
      let known : record_of book x ≡ Some entry.0 = lookup_at book once c x entry.0 entry.1 in
      ⊎_elim
      (λ (e : sire_of book x ≡ Some p).
      let f = place_from_number (keys_of book) (parent_at sires c) entry.0.sire p (s.each c (x, entry.0) entry.1) (parent_in_record book x p entry.0 (λ animal. animal.sire) known e) in
      (f.0, inl f.1, f.2))
      (λ (e : dam_of book x ≡ Some p).
      let f = place_from_number (keys_of book) (parent_at dams c) entry.0.dam p (d.each c (x, entry.0) entry.1) (parent_in_record book x p entry.0 (λ animal. animal.dam) known e) in
      (f.0, inr f.1, f.2))
      is

  step_by_number : (c q : ℕ) (x : List ℕ) → slice_get (keys_of book) c ≡ Some x → IsParent (parentage_at sires dams) q c → (p : List ℕ) × IsParent (parentage_of book) p x × (slice_get (keys_of book) q ≡ Some p)
  step_by_number c q x at is =
      let entry = entry_from_key book c x at in
      let known : record_of book x ≡ Some entry.0 = lookup_at book once c x entry.0 entry.1 in
      ⊎_elim
      (λ (e : parent_at sires c ≡ Some q).
      let f = number_from_place (keys_of book) (parent_at sires c) entry.0.sire q (s.each c (x, entry.0) entry.1) e in
      (f.0, inl (ap (λ o. option_and_then (λ animal. animal.sire) o) known ∙ f.1), f.2))
      (λ (e : parent_at dams c ≡ Some q).
      let f = number_from_place (keys_of book) (parent_at dams c) entry.0.dam q (d.each c (x, entry.0) entry.1) e in
      (f.0, inr (ap (λ o. option_and_then (λ animal. animal.dam) o) known ∙ f.1), f.2))
      is

  -- a place of the book is there
  pub there_by_place : (c : ℕ) (x : List ℕ) → slice_get (keys_of book) c ≡ Some x → IsTrue ((parentage_at sires dams).is_there c)
  there_by_place c x at =
      let entry = entry_from_key book c x at in
      let w = slice_get_within book c (x, entry.0) entry.1 in
      let l = s.long in
      lt-ltb c (length sires) (omega (arith, w, l))

  there_by_number : (c : ℕ) (x : List ℕ) → slice_get (keys_of book) c ≡ Some x → IsTrue (is_there book x)
  there_by_number c x at = let entry = entry_from_key book c x at in some_is _ entry.0 (lookup_at book once c x entry.0 entry.1)

  pub path_by_place : (n : ℕ) (x : List ℕ) (c : ℕ) → slice_get (keys_of book) c ≡ Some x → Path (parentage_of book) n x → Path (parentage_at sires dams) n c
  path_by_place = path-moved (parentage_of book) (parentage_at sires dams) (λ x c. slice_get (keys_of book) c ≡ Some x) (λ x c at h. there_by_place c x at) step_by_place

  pub path_by_number : (n c : ℕ) (x : List ℕ) → slice_get (keys_of book) c ≡ Some x → Path (parentage_at sires dams) n c → Path (parentage_of book) n x
  path_by_number = path-moved (parentage_at sires dams) (parentage_of book) (λ c x. slice_get (keys_of book) c ≡ Some x) (λ c x at h. there_by_number c x at) (λ c q x. step_by_number c q x)

  -- who is there has a place
  pub place_from_there : (x : List ℕ) → IsTrue (is_there book x) → (c : ℕ) × (slice_get (keys_of book) c ≡ Some x)
  place_from_there x h =
      let r = is_some_with (record_of book x) h in
      let at = place_of book x r.0 r.1 in
      (at.0, key_from_entry book at.0 x r.0 at.1)

  -- and who has a place is there
  pub number_from_there : (c : ℕ) → IsTrue ((parentage_at sires dams).is_there c) → (x : List ℕ) × (slice_get (keys_of book) c ≡ Some x)
  number_from_there c h =
      let w = ltb-true c (length sires) h in
      let l = s.long in
      let entry = there book c (omega (arith, w, l)) in
      (entry.0.0, key_from_entry book c entry.0.0 entry.0.1 entry.1)

  -- a depth by places is the depth by numbers
  pub depth_by_number : (l : ℕ) (g : ℕ → ℕ) → AreDepths l (parentage_at sires dams) g → (c : ℕ) (x : List ℕ) → slice_get (keys_of book) c ≡ Some x → IsDepthOf book x (g c)
  depth_by_number l g w c x at =
      depth-from_paths (parentage_of book) x (g c)
      (path_by_number (g c) c x at (depths-path l (parentage_at sires dams) g w c (there_by_place c x at)))
      (λ m path. depths-bound l (parentage_at sires dams) g w m c (path_by_place m x c at path))

  -- no path of the book is longer than the greatest depth
  pub no_longer_path : (l : ℕ) (g : ℕ → ℕ) → AreDepths l (parentage_at sires dams) g → (x : List ℕ) → has_path (parentage_of book) (l + 1) x ≡ false
  no_longer_path l g w x =
      false_from_ne_true (has_path (parentage_of book) (l + 1) x)
      (λ t.
      let path : Path (parentage_of book) (l + 1) x = path-from_test (parentage_of book) (l + 1) x t in
      let at = place_from_there x (path-there (parentage_of book) (l + 1) x path) in
      let most = depths-shallow l (parentage_at sires dams) g w (l + 1) at.0 (path_by_place (l + 1) x at.0 at.1 path) in
      absurd (omega (arith, most)))
