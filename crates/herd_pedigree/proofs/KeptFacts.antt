-- What is kept beside the book, and after a birth.
use Rattle.std.proofs.Common.{ℕ, ◌+◌, ◌<◌, ◌≤◌, ◌≡◌, ⊎_elim, arith, refl, sym, ◌∙◌, subst, true, false, nat_lt, IsTrue, IfSome, List, [], ◌∷◌, ◌++◌, Option, Some, None, length, slice_get, slice_index, get_or}
use Rattle.std.specs.Str.{bytes_eq}
use Rattle.std.specs.List.{IsDistinct, list_any}
use Rattle.std.specs.Map.{keys_of}
use Rattle.std.proofs.lemmas.Bool.{cases_lt, lt-ltb, ltb-true, le-ltb, or_left}
use Rattle.std.proofs.lemmas.List.{length_push, get_or_push, get_or_append_left}
use Rattle.std.proofs.lemmas.List.Folds.{list_any_none}
use Rattle.std.proofs.lemmas.Option.{slice_get_within, same_Some}
use Rattle.herd_frozen.specs.declared.rules.animal.Animal.{Animal}
use Rattle.herd_frozen.specs.rules.Paths.{has_path}
use Rattle.herd_frozen.specs.rules.Book.{Book, record_of, parentage_of, IsDepthOf}
use Rattle.herd_frozen.specs.rules.ParentFault.{is_too_deep}
use Rattle.herd_pedigree.specs.declared.registration.Newborn.{Newborn}
use Rattle.herd_pedigree.specs.Pedigree.{IsBirth, birth_record}
use Rattle.herd_frozen.specs.rules.Depths.{AreDepths, depth_from}
use Rattle.herd_frozen.specs.places.Places.{parent_at, parentage_at, IsIndexIn, AreParents}
use Rattle.herd_pedigree.specs.store.Kept.{IsKept}
use Rattle.herd_pedigree.specs.declared.store.undo.Undo.TheVariants.{Birth, Nothing}
use Rattle.herd_pedigree.specs.store.Undo.{IsHeld}
use Rattle.herd_frozen.proofs.lemmas.places.NumberFacts.{place-within}
use Rattle.herd_frozen.proofs.lemmas.rules.PathFacts.{Path, depths-path, test-from_path}
use Rattle.herd_frozen.proofs.lemmas.rules.BookFacts.{keys-push, length-keys, distinct-push, key_from_entry}
use Rattle.herd_frozen.proofs.lemmas.ListFacts.{push_cases, push_keeps, push_last}
use Rattle.herd_pedigree.proofs.lemmas.store.PlaceFacts.{no_longer_path, path_by_number, there_by_place, depth_by_number}
use Rattle.herd_pedigree.proofs.lemmas.store.DepthFacts.{depths-push, new_depth-most}
use Rattle.herd_frozen.proofs.lemmas.rules.FaultFacts.{HasNoFault, no_fault}
use Rattle.herd_pedigree.proofs.lemmas.LawfulChanges.{lawful-birth, lawful-empty}
use Rattle.herd_pedigree.proofs.lemmas.store.ListFacts.{without_last-push}
use Rattle.herd_frozen.proofs.lemmas.rules.WrittenFacts.{written-push, too_deep-written}

IsIndexIn-push : (numbers : List (List ℕ)) (number : List ℕ) (o : Option ℕ) (n : Option (List ℕ)) → IsIndexIn numbers o n → IsIndexIn (numbers ++ number ∷ []) o n
IsIndexIn-push numbers number None None h = h
IsIndexIn-push numbers number None (Some n) h = h
IsIndexIn-push numbers number (Some p) None h = h
IsIndexIn-push numbers number (Some p) (Some n) h = push_keeps numbers number n p h

-- one parent of each, with an animal more at the end
pub AreParents-push : (book : Book) (parent_of : Animal → Option (List ℕ)) (parents : List (Option ℕ)) (number : List ℕ) (animal : Animal) (o : Option ℕ) → AreParents book parent_of parents → IsIndexIn (keys_of book) o (parent_of animal) →
    AreParents (book ++ (number, animal) ∷ []) parent_of (parents ++ o ∷ [])
AreParents-push book parent_of parents number animal o a is =
    let numbers : List (List ℕ) = keys_of (book ++ (number, animal) ∷ []) in
    let grow : (o : Option ℕ) (n : Option (List ℕ)) → IsIndexIn (keys_of book) o n → IsIndexIn numbers o n =
    λ o n h. subst (λ ks. IsIndexIn ks o n) (sym (keys-push book number animal)) (IsIndexIn-push (keys_of book) number o n h) in
    let long = a.long in
    let n = length_push parents o in
    let m = length_push book (number, animal) in
    record {
      long = omega (arith, long, n, m);
      each = λ c entry at.
          ⊎_elim
          (λ (old : slice_get book c ≡ Some entry).
          let h = slice_get_within book c entry old in
          let same : parent_at (parents ++ o ∷ []) c ≡ parent_at parents c = get_or_append_left parents (o ∷ []) None c (omega (arith, h, long)) in
          subst (λ q. IsIndexIn numbers q (parent_of entry.1)) (sym same) (grow (parent_at parents c) (parent_of entry.1) (a.each c entry old)))
          (λ last.
          let e = last.0 in
          let same : parent_at (parents ++ o ∷ []) c ≡ o = get_or_push parents o None c (omega (arith, e, long)) in
          let P : List ℕ × Animal → Type 0 = λ entry. IsIndexIn numbers o (parent_of entry.1) in
          subst (λ q. IsIndexIn numbers q (parent_of entry.1)) (sym same) (subst P last.1 (grow o (parent_of animal) is)))
          (push_cases book (number, animal) entry c at);
    }

module _ (l : ℕ) (book : Book) (sires dams : List (Option ℕ)) (once : IsDistinct bytes_eq (keys_of book)) (s : AreParents book (λ animal. animal.sire) sires) (d : AreParents book (λ animal. animal.dam) dams) (g : ℕ → ℕ) where
  pub no_path-among : AreDepths l (parentage_at sires dams) g → (xs : List (List ℕ)) → list_any (has_path (parentage_of book) (l + 1)) xs ≡ false
  no_path-among w xs = list_any_none (has_path (parentage_of book) (l + 1)) xs (λ k x h. no_longer_path book sires dams once s d l g w (get_or xs k x))

-- the depth of the animal at a place
pub depth-kept : (l most : ℕ) (book : Book) (sires dams : List (Option ℕ)) (depths : List ℕ) → IsKept l most book sires dams depths → (c : ℕ) (x : List ℕ) → slice_get (keys_of book) c ≡ Some x → IsDepthOf book x (slice_index depths c)
depth-kept l most book sires dams depths k c x at = depth_by_number book sires dams k.lawful.once k.sires_are k.dams_are l (slice_index depths) k.depths_are c x at

module _ (l most : ℕ) (book : Book) (sires dams : List (Option ℕ)) (depths : List ℕ) (k : IsKept l most book sires dams depths)
    (number : List ℕ) (newborn : Newborn) (absent : record_of book number ≡ None)
    (sire dam : Option ℕ) (sire_is : IsIndexIn (keys_of book) sire newborn.sire) (dam_is : IsIndexIn (keys_of book) dam newborn.dam) where
  more : Book
  more = book ++ (number, birth_record newborn) ∷ []

  once-more : IsDistinct bytes_eq (keys_of (book ++ (number, birth_record newborn) ∷ []))
  once-more = distinct-push book number (birth_record newborn) k.lawful.once absent

  sires-more : AreParents (book ++ (number, birth_record newborn) ∷ []) (λ animal. animal.sire) (sires ++ sire ∷ [])
  sires-more = AreParents-push book (λ animal. animal.sire) sires number (birth_record newborn) sire k.sires_are sire_is

  dams-more : AreParents (book ++ (number, birth_record newborn) ∷ []) (λ animal. animal.dam) (dams ++ dam ∷ [])
  dams-more = AreParents-push book (λ animal. animal.dam) dams number (birth_record newborn) dam k.dams_are dam_is

  within : (o : Option ℕ) → IfSome o (λ p. p < length (keys_of book)) → IfSome o (λ p. p < length sires)
  within o h = subst (λ n. IfSome o (λ p. p < n)) (length-keys book ∙ sym k.sires_are.long) h

  depths-more : (top : ℕ) → l ≤ top → depth_from (slice_index depths) sire dam ≤ top → AreDepths top (parentage_at (sires ++ sire ∷ []) (dams ++ dam ∷ [])) (slice_index (depths ++ depth_from (slice_index depths) sire dam ∷ []))
  depths-more top wide low =
      depths-push l sires dams depths k.depths_are (k.long ∙ sym k.sires_are.long) (k.dams_are.long ∙ sym k.sires_are.long) sire dam
      (within sire (place-within (keys_of book) sire newborn.sire sire_is)) (within dam (place-within (keys_of book) dam newborn.dam dam_is))
      (depth_from (slice_index depths) sire dam) refl top wide low

  depth-most : depth_from (slice_index depths) sire dam ≤ l + 1
  depth-most =
      new_depth-most l sires dams depths k.depths_are (k.long ∙ sym k.sires_are.long) (k.dams_are.long ∙ sym k.sires_are.long) sire dam
      (within sire (place-within (keys_of book) sire newborn.sire sire_is)) (within dam (place-within (keys_of book) dam newborn.dam dam_is))

  -- a birth makes too long a path exactly where its own depth is too great
  pub too_deep-birth : nat_lt l (depth_from (slice_index depths) sire dam) ≡ is_too_deep l book number newborn.sire newborn.dam
  too_deep-birth =
      let v : ℕ = depth_from (slice_index depths) sire dam in
      let told : is_too_deep l book number newborn.sire newborn.dam ≡ list_any (has_path (parentage_of (book ++ (number, birth_record newborn) ∷ [])) (l + 1)) (number ∷ keys_of book) =
      too_deep-written book (book ++ (number, birth_record newborn) ∷ []) number (birth_record newborn) (written-push book number (birth_record newborn) absent) l in
      ⊎_elim
      (λ (deep : l < v).
      let most = depth-most in
      let e : v ≡ l + 1 = omega (arith, deep, most) in
      let wide : AreDepths (l + 1) (parentage_at (sires ++ sire ∷ []) (dams ++ dam ∷ [])) (slice_index (depths ++ v ∷ [])) = depths-more (l + 1) (omega arith) most in
      let at : slice_get (keys_of (book ++ (number, birth_record newborn) ∷ [])) (length book) ≡ Some number = key_from_entry (book ++ (number, birth_record newborn) ∷ []) (length book) number (birth_record newborn) (push_last book (number, birth_record newborn)) in
      let path : Path (parentage_at (sires ++ sire ∷ []) (dams ++ dam ∷ [])) (slice_index (depths ++ v ∷ []) (length book)) (length book) =
      depths-path (l + 1) (parentage_at (sires ++ sire ∷ []) (dams ++ dam ∷ [])) (slice_index (depths ++ v ∷ [])) wide (length book) (there_by_place (book ++ (number, birth_record newborn) ∷ []) (sires ++ sire ∷ []) (dams ++ dam ∷ []) once-more sires-more dams-more (length book) number at) in
      let same : slice_index (depths ++ v ∷ []) (length book) ≡ l + 1 = get_or_push depths v 0 (length book) k.long ∙ e in
      let by_number : Path (parentage_of (book ++ (number, birth_record newborn) ∷ [])) (l + 1) number =
      path_by_number (book ++ (number, birth_record newborn) ∷ []) (sires ++ sire ∷ []) (dams ++ dam ∷ []) once-more sires-more dams-more (l + 1) (length book) number at
      (subst (λ n. Path (parentage_at (sires ++ sire ∷ []) (dams ++ dam ∷ [])) n (length book)) same path) in
      lt-ltb l v deep ∙ sym (told ∙ or_left (has_path (parentage_of (book ++ (number, birth_record newborn) ∷ [])) (l + 1) number) (list_any (has_path (parentage_of (book ++ (number, birth_record newborn) ∷ [])) (l + 1)) (keys_of book)) (test-from_path (parentage_of (book ++ (number, birth_record newborn) ∷ [])) (l + 1) number by_number)))
      (λ (low : v ≤ l).
      le-ltb l v low ∙ sym (told ∙ no_path-among l (book ++ (number, birth_record newborn) ∷ []) (sires ++ sire ∷ []) (dams ++ dam ∷ []) once-more sires-more dams-more (slice_index (depths ++ v ∷ [])) (depths-more l (omega arith) low) (number ∷ keys_of book)))
      (cases_lt l v)

  -- a birth with no fault leaves what is kept as it has to be
  pub IsKept-push : IsBirth l most book number newborn → IsKept l most (book ++ (number, birth_record newborn) ∷ []) (sires ++ sire ∷ []) (dams ++ dam ∷ []) (depths ++ depth_from (slice_index depths) sire dam ∷ [])
  IsKept-push birth =
      let v : ℕ = depth_from (slice_index depths) sire dam in
      let fine : HasNoFault l book number newborn.birth newborn.sire newborn.dam newborn.embryo = no_fault l book number newborn.birth newborn.sire newborn.dam newborn.embryo birth.parents in
      let low : v ≤ l =
      ⊎_elim
      (λ (deep : l < v). let t : true ≡ false = sym (lt-ltb l v deep) ∙ too_deep-birth ∙ fine.shallow in absurd (cc))
      (λ (low : v ≤ l). low)
      (cases_lt l v) in
      let w = depths-more l (omega arith) low in
      let n = length_push book (number, birth_record newborn) in
      let m = length_push depths v in
      let long = k.long in
      record {
        lawful = lawful-birth l most book number newborn k.lawful birth;
        sires_are = sires-more;
        dams_are = dams-more;
        long = omega (arith, n, m, long);
        depths_are = w;
      }

  -- and what is held, once the birth is noted
  pub IsHeld-push : IsBirth l most book number newborn → (log : List (ℕ × ℕ)) → IsHeld l most (book ++ (number, birth_record newborn) ∷ []) (sires ++ sire ∷ []) (dams ++ dam ∷ []) (depths ++ depth_from (slice_index depths) sire dam ∷ []) log Birth
  IsHeld-push birth log = record {
    kept = IsKept-push birth;
    within = let n = length_push book (number, birth_record newborn) in omega (arith, n);
    before = λ old is.
        let same : book ≡ old = sym (without_last-push book (number, birth_record newborn)) ∙ same_Some _ _ is in
        rw (without_last-push sires sire, without_last-push dams dam, without_last-push depths (depth_from (slice_index depths) sire dam)) (subst (λ old. IsKept l most old sires dams depths) same k);
  }

-- what is held of the empty book
pub IsHeld-empty : (l most : ℕ) (log : List (ℕ × ℕ)) → IsHeld l most [] [] [] [] log Nothing
IsHeld-empty l most log =
    record {
      kept = record {
        lawful = lawful-empty l most;
        sires_are = record { long = refl; each = λ place entry e. absurd (cc) };
        dams_are = record { long = refl; each = λ place entry e. absurd (cc) };
        long = refl;
        depths_are = record {
          closed = λ p x t e. absurd (none x t);
          kept = λ x t. absurd (none x t);
          most = λ x t. absurd (none x t);
        };
      };
      within = tt;
      before = λ old e. absurd (cc);
    }
  where
    none : (x : ℕ) → IsTrue ((parentage_at [] []).is_there x) → ⊥
    none x t = let low = ltb-true x 0 t in omega (arith, low)
