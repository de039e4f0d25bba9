-- A depth from those of the parents, and the limit of the depths of a shallow book.
use Rattle.std.proofs.Common.{ℕ, zero, suc, ◌+◌, ◌-◌, List, [], ◌∷◌, ◌<◌, ◌≤◌, ◌≡◌, ◌⊎◌, inl, inr, ⊎_elim, arith, refl, sym, ◌∙◌, subst, Bool, true, false, ◌||◌, Option, Some, None, max, IsTrue}
use Rattle.std.specs.Option.{option_map_or}
use Rattle.std.specs.Map.{keys_of}
use Rattle.std.specs.List.{list_any}
use Rattle.std.specs.Str.{bytes_eq}
use Rattle.std.proofs.lemmas.Bool.{and_parts, and_from, or_cases, cases_lt, not-true}
use Rattle.std.proofs.lemmas.Map.Made.{is_some-lookup}
use Rattle.herd_frozen.specs.rules.Paths.{Parentage, has_path, IsDepth}
use Rattle.herd_frozen.specs.rules.Book.{Book, IsDepthOf, is_shallow, is_there, parentage_of}
use Rattle.herd_frozen.specs.freezing.Freeze.{IsAbove}
use Rattle.herd_frozen.proofs.lemmas.rules.BookFacts.{same_bytes}

or_true : (s t : Bool) → (s ≡ true) ⊎ (t ≡ true) → (s || t) ≡ true
or_true true t h = refl
or_true false t h = ⊎_elim (λ (e : false ≡ true). absurd (cc)) (λ e. e) h

deeper_parent : (a b d : ℕ) → suc d ≡ max a b → (a ≡ suc d) ⊎ (b ≡ suc d)
deeper_parent a b d e = grind arith

module _ {A : Type 0} (parentage : Parentage A) where
  abbrev by_sire : ℕ → A → Bool
  by_sire n x = option_map_or (has_path parentage n) (parentage.sire x) false

  abbrev by_dam : ℕ → A → Bool
  by_dam n x = option_map_or (has_path parentage n) (parentage.dam x) false

  path_from : (n : ℕ) (x : A) → IsTrue (parentage.is_there x) → (by_sire n x ≡ true) ⊎ (by_dam n x ≡ true) → IsTrue (has_path parentage (suc n) x)
  unfolding has_path
  path_from n x there path = and_from (parentage.is_there x) (by_sire n x || by_dam n x) there (or_true (by_sire n x) (by_dam n x) path)

  path_parts : (n : ℕ) (x : A) → IsTrue (has_path parentage (suc n) x) → IsTrue (parentage.is_there x) × ((by_sire n x ≡ true) ⊎ (by_dam n x ≡ true))
  unfolding has_path
  path_parts n x path =
      let parts = and_parts (parentage.is_there x) (by_sire n x || by_dam n x) path in
      (parts.0, or_cases (by_sire n x) (by_dam n x) parts.1)

  -- a path starts at an animal that is there
  pub has_path-there : (n : ℕ) (x : A) → IsTrue (has_path parentage n x) → IsTrue (parentage.is_there x)
  unfolding has_path
  has_path-there zero x path = path
  has_path-there (suc n) x path = (path_parts n x path).0

  through-shorter : (n : ℕ) → ((x : A) → IsTrue (has_path parentage (suc n) x) → IsTrue (has_path parentage n x)) →
      (o : Option A) → option_map_or (has_path parentage (suc n)) o false ≡ true → option_map_or (has_path parentage n) o false ≡ true
  through-shorter n shorter None path = path
  through-shorter n shorter (Some p) path = shorter p path

  -- the start of a path is a path
  has_path-shorter : (n : ℕ) (x : A) → IsTrue (has_path parentage (suc n) x) → IsTrue (has_path parentage n x)
  unfolding has_path
  has_path-shorter zero x path = (path_parts zero x path).0
  has_path-shorter (suc n) x path =
      let parts = path_parts (suc n) x path in
      path_from n x parts.0
      (⊎_elim
      (λ s. inl (through-shorter n (λ y l. has_path-shorter n y l) (parentage.sire x) s))
      (λ d. inr (through-shorter n (λ y l. has_path-shorter n y l) (parentage.dam x) d))
      parts.1)

  -- also one of many steps fewer
  has_path-at_least : (k n : ℕ) (x : A) → IsTrue (has_path parentage (k + n) x) → IsTrue (has_path parentage n x)
  has_path-at_least zero n x path = let e : zero + n ≡ n = omega arith in subst (λ m. IsTrue (has_path parentage m x)) e path
  has_path-at_least (suc k) n x path =
      let e : suc k + n ≡ suc (k + n) = omega arith in
      has_path-at_least k n x (has_path-shorter (k + n) x (subst (λ m. IsTrue (has_path parentage m x)) e path))

  pub has_path-le : (n m : ℕ) (x : A) → n ≤ m → IsTrue (has_path parentage m x) → IsTrue (has_path parentage n x)
  has_path-le n m x le path =
      let e : m ≡ (m - n) + n = omega arith in
      has_path-at_least (m - n) n x (subst (λ k. IsTrue (has_path parentage k x)) e path)

  -- a path through a known parent has at most as many steps as its depth tells
  through-at_most : (m a : ℕ) (o : Option A) → IsAbove parentage o a → option_map_or (has_path parentage m) o false ≡ true → suc m ≤ a
  through-at_most m a None above path = absurd (cc)
  through-at_most m a (Some p) above path =
      let most : m ≤ above.0 = above.1.longest m path in
      let one : a ≡ above.0 + 1 = above.2 in
      omega arith

  -- and there is one with as many
  through-reached : (d : ℕ) (o : Option A) → IsAbove parentage o (suc d) → option_map_or (has_path parentage d) o false ≡ true
  through-reached d None above = absurd (omega arith)
  through-reached d (Some p) above =
      let one : suc d ≡ above.0 + 1 = above.2 in
      let same : above.0 ≡ d = omega arith in
      subst (λ n. has_path parentage n p ≡ true) same above.1.reached

  module _ (x : A) (a b : ℕ) (there : IsTrue (parentage.is_there x)) (sire : IsAbove parentage (parentage.sire x) a) (dam : IsAbove parentage (parentage.dam x) b) where
    reached_by : (n : ℕ) → n ≡ max a b → IsTrue (has_path parentage n x)
    unfolding has_path
    reached_by zero e = there
    reached_by (suc d) e =
        path_from d x there
        (⊎_elim
        (λ (s : a ≡ suc d). inl (through-reached d (parentage.sire x) (subst (λ n. IsAbove parentage (parentage.sire x) n) s sire)))
        (λ (t : b ≡ suc d). inr (through-reached d (parentage.dam x) (subst (λ n. IsAbove parentage (parentage.dam x) n) t dam)))
        (deeper_parent a b d e))

    bounded_by : (m : ℕ) → IsTrue (has_path parentage m x) → m ≤ max a b
    bounded_by zero path = omega arith
    bounded_by (suc m) path =
        ⊎_elim
        (λ (s : by_sire m x ≡ true). let le : suc m ≤ a = through-at_most m a (parentage.sire x) sire s in omega arith)
        (λ (t : by_dam m x ≡ true). let le : suc m ≤ b = through-at_most m b (parentage.dam x) dam t in omega arith)
        (path_parts m x path).1

    -- the depth of an animal from those of its parents
    pub IsDepth-from_parents : IsDepth parentage x (max a b)
    IsDepth-from_parents = record { reached = reached_by (max a b) refl; longest = bounded_by }

-- a test that passes an animal passes one of a list in which it is found
passes_found : (test : List ℕ → Bool) (x : List ℕ) (keys : List (List ℕ)) → test x ≡ true → list_any (bytes_eq x) keys ≡ true → list_any test keys ≡ true
passes_found test x [] pass found = found
passes_found test x (y ∷ keys) pass found =
    or_true (test y) (list_any test keys)
    (⊎_elim
    (λ (same : bytes_eq x y ≡ true). inl (subst (λ z. test z ≡ true) (same_bytes x y same) pass))
    (λ (rest : list_any (bytes_eq x) keys ≡ true). inr (passes_found test x keys pass rest))
    (or_cases (bytes_eq x y) (list_any (bytes_eq x) keys) found))

-- the depths of a shallow book are within the limit
pub IsDepthOf-le : (l : ℕ) (book : Book) → IsTrue (is_shallow l book) → (x : List ℕ) (n : ℕ) → IsDepthOf book x n → n ≤ l
IsDepthOf-le l book shallow x n depth =
    let parentage : Parentage (List ℕ) = parentage_of book in
    ⊎_elim
    (λ (deep : l < n).
    let path = has_path-le parentage (l + 1) n x (omega arith) depth.reached in
    let there : is_there book x ≡ true = has_path-there parentage (l + 1) x path in
    let found : list_any (bytes_eq x) (keys_of book) ≡ true = sym (is_some-lookup (bytes_eq x) book) ∙ there in
    let long : list_any (has_path parentage (l + 1)) (keys_of book) ≡ true = passes_found (has_path parentage (l + 1)) x (keys_of book) path found in
    let short : list_any (has_path parentage (l + 1)) (keys_of book) ≡ false = not-true _ shallow in
    absurd (cc))
    (λ le. le)
    (cases_lt l n)
