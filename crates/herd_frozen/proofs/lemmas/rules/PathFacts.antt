-- Paths as facts, and the depths that bound and reach them.
use Rattle.std.proofs.Common.{ℕ, zero, suc, ◌+◌, ◌<◌, ◌≤◌, ◌≡◌, ◌⊎◌, ⊎_elim, inl, inr, arith, refl, ◌∙◌, Bool, true, false, ◌||◌, IsTrue, Option, Some, None, max}
use Rattle.std.specs.Option.{option_map_or}
use Rattle.std.proofs.lemmas.Bool.{and_parts, and_from, or_cases, or_left, or_right}
use Rattle.herd_frozen.specs.rules.Paths.{Parentage, has_path, IsDepth}
use Rattle.herd_frozen.specs.rules.Depths.{IsParent, AreDepths, depth_above, depth_from}

-- from the animal x there is a path of n steps
unfoldable pub Path : {A : Type 0} → Parentage A → ℕ → A → Type 0
Path parentage zero x = IsTrue (parentage.is_there x)
Path {A} parentage (suc n) x = IsTrue (parentage.is_there x) × ((p : A) × IsParent parentage p x × Path parentage n p)

-- a test passes at a known parent, and that is one
pub some_passes : {A : Type 0} (test : A → Bool) (o : Option A) → option_map_or test o false ≡ true → (p : A) × (o ≡ Some p) × (test p ≡ true)
some_passes test None h = absurd (cc)
some_passes test (Some p) h = (p, refl, h)

pub passes_some : {A : Type 0} (test : A → Bool) (o : Option A) (p : A) → o ≡ Some p → test p ≡ true → option_map_or test o false ≡ true
passes_some test o p e h = rw e h

module _ {A : Type 0} (parentage : Parentage A) where
  pub path-from_test : (n : ℕ) (x : A) → has_path parentage n x ≡ true → Path parentage n x
  unfolding has_path Path
  path-from_test zero x h = h
  path-from_test (suc n) x h =
      let parts = and_parts (parentage.is_there x) (option_map_or (has_path parentage n) (parentage.sire x) false || option_map_or (has_path parentage n) (parentage.dam x) false) h in
      ⊎_elim
      (λ (s : option_map_or (has_path parentage n) (parentage.sire x) false ≡ true).
      let p = some_passes (has_path parentage n) (parentage.sire x) s in
      (parts.0, (p.0, inl p.1, path-from_test n p.0 p.2)))
      (λ (d : option_map_or (has_path parentage n) (parentage.dam x) false ≡ true).
      let p = some_passes (has_path parentage n) (parentage.dam x) d in
      (parts.0, (p.0, inr p.1, path-from_test n p.0 p.2)))
      (or_cases (option_map_or (has_path parentage n) (parentage.sire x) false) (option_map_or (has_path parentage n) (parentage.dam x) false) parts.1)

  pub test-from_path : (n : ℕ) (x : A) → Path parentage n x → has_path parentage n x ≡ true
  unfolding has_path Path
  test-from_path zero x h = h
  test-from_path (suc n) x h =
      let by_sire : Bool = option_map_or (has_path parentage n) (parentage.sire x) false in
      let by_dam : Bool = option_map_or (has_path parentage n) (parentage.dam x) false in
      and_from (parentage.is_there x) (by_sire || by_dam) h.0
      (⊎_elim
      (λ (s : parentage.sire x ≡ Some h.1.0). or_left by_sire by_dam (passes_some (has_path parentage n) (parentage.sire x) h.1.0 s (test-from_path n h.1.0 h.1.2)))
      (λ (d : parentage.dam x ≡ Some h.1.0). or_right by_sire by_dam (passes_some (has_path parentage n) (parentage.dam x) h.1.0 d (test-from_path n h.1.0 h.1.2)))
      h.1.1)

  -- a path begins at an animal that is there
  pub path-there : (n : ℕ) (x : A) → Path parentage n x → IsTrue (parentage.is_there x)
  unfolding Path
  path-there zero x path = path
  path-there (suc n) x path = path.0

  module _ (g : A → ℕ) where
    -- a number that falls at each step to a parent bounds the paths
    pub path-at_most : ((p x : A) → IsTrue (parentage.is_there x) → IsParent parentage p x → g p < g x) → (n : ℕ) (x : A) → Path parentage n x → n ≤ g x
    unfolding Path
    path-at_most falls zero x path = omega arith
    path-at_most falls (suc n) x path =
        let rest : n ≤ g path.1.0 = path-at_most falls n path.1.0 path.1.2 in
        let step : g path.1.0 < g x = falls path.1.0 x path.0 path.1.1 in
        omega arith

    -- and where it is 0 or one more than some parent's there is a path of that length
    pub path-reached : ((p x : A) → IsTrue (parentage.is_there x) → IsParent parentage p x → IsTrue (parentage.is_there p)) →
        ((x : A) → IsTrue (parentage.is_there x) → (g x ≡ 0) ⊎ ((p : A) × IsParent parentage p x × (g x ≡ suc (g p)))) →
        (n : ℕ) (x : A) → IsTrue (parentage.is_there x) → g x ≡ n → Path parentage n x
    unfolding Path
    path-reached closed steps zero x there e = there
    path-reached closed steps (suc n) x there e =
        ⊎_elim
        (λ (z : g x ≡ 0). absurd (omega arith))
        (λ r.
        let p : A = r.0 in
        let is : IsParent parentage p x = r.1 in
        let one : g x ≡ suc (g p) = r.2 in
        let rest : g p ≡ n = omega arith in
        (there, (p, is, path-reached closed steps n p (closed p x there is) rest)))
        (steps x there)

-- paths move along a relation that keeps who is there and each step to a parent
pub path-moved : {A B : Type 0} (from : Parentage A) (to : Parentage B) (Same : A → B → Type 0)
    (there : (x : A) (c : B) → Same x c → IsTrue (from.is_there x) → IsTrue (to.is_there c))
    (step : (x p : A) (c : B) → Same x c → IsParent from p x → (q : B) × IsParent to q c × Same p q)
    (n : ℕ) (x : A) (c : B) → Same x c → Path from n x → Path to n c
unfolding Path
path-moved from to Same there step zero x c same path = there x c same path
path-moved from to Same there step (suc n) x c same path =
    let s = step x path.1.0 c same path.1.1 in
    (there x c same path.0, (s.0, s.1, path-moved from to Same there step n path.1.0 s.0 s.2 path.1.2))

above_some : {A : Type 0} (g : A → ℕ) (o : Option A) (p : A) → o ≡ Some p → depth_above g o ≡ g p + 1
above_some g o p e = rw e refl

reached_from : {A : Type 0} (g : A → ℕ) (o : Option A) → (depth_above g o ≡ 0) ⊎ ((p : A) × (o ≡ Some p) × (depth_above g o ≡ suc (g p)))
reached_from g None = inl refl
reached_from g (Some p) = inr (p, refl, omega arith)

max_cases : (a b : ℕ) → (max a b ≡ a) ⊎ (max a b ≡ b)
max_cases a b = grind arith

-- a parent has a smaller depth than its parents' depths give
pub below_from : {A : Type 0} (g : A → ℕ) (parentage : Parentage A) (p x : A) → IsParent parentage p x → g p < depth_from g (parentage.sire x) (parentage.dam x)
below_from g parentage p x is =
    ⊎_elim
    (λ (s : parentage.sire x ≡ Some p). let a = above_some g (parentage.sire x) p s in grind (arith, a))
    (λ (d : parentage.dam x ≡ Some p). let a = above_some g (parentage.dam x) p d in grind (arith, a))
    is

module _ {A : Type 0} (l : ℕ) (parentage : Parentage A) (g : A → ℕ) (d : AreDepths l parentage g) where
  pub depths-fall : (p x : A) → IsTrue (parentage.is_there x) → IsParent parentage p x → g p < g x
  depths-fall p x there is = rw (d.kept x there) (below_from g parentage p x is)

  pub depths-reached : (x : A) → IsTrue (parentage.is_there x) → (g x ≡ 0) ⊎ ((p : A) × IsParent parentage p x × (g x ≡ suc (g p)))
  depths-reached x there =
      let by_sire : ℕ = depth_above g (parentage.sire x) in
      let by_dam : ℕ = depth_above g (parentage.dam x) in
      let kept : g x ≡ max by_sire by_dam = d.kept x there in
      ⊎_elim
      (λ (m : max by_sire by_dam ≡ by_sire).
      ⊎_elim (λ z. inl (kept ∙ m ∙ z)) (λ r. inr (r.0, inl r.1, kept ∙ m ∙ r.2)) (reached_from g (parentage.sire x)))
      (λ (m : max by_sire by_dam ≡ by_dam).
      ⊎_elim (λ z. inl (kept ∙ m ∙ z)) (λ r. inr (r.0, inr r.1, kept ∙ m ∙ r.2)) (reached_from g (parentage.dam x)))
      (max_cases by_sire by_dam)

  -- such a depth is reached by a path
  pub depths-path : (x : A) → IsTrue (parentage.is_there x) → Path parentage (g x) x
  depths-path x there = path-reached parentage g d.closed depths-reached (g x) x there refl

  -- and no path is longer
  pub depths-bound : (n : ℕ) (x : A) → Path parentage n x → n ≤ g x
  depths-bound = path-at_most parentage g depths-fall

  pub depths-shallow : (n : ℕ) (x : A) → Path parentage n x → n ≤ l
  depths-shallow n x path =
      let a : n ≤ g x = depths-bound n x path in
      let b : g x ≤ l = d.most x (path-there parentage n x path) in
      omega arith

-- the longest path as a fact
pub depth-from_paths : {A : Type 0} (parentage : Parentage A) (x : A) (n : ℕ) → Path parentage n x → ((m : ℕ) → Path parentage m x → m ≤ n) → IsDepth parentage x n
depth-from_paths parentage x n path longest = record {
  reached = test-from_path parentage n x path;
  longest = λ m h. longest m (path-from_test parentage m x h);
}
