-- Settling one animal, and what holds once all are settled.
use Rattle.std.proofs.Common.{ℕ, zero, suc, ◌+◌, ◌<◌, ◌≤◌, ◌≡◌, ◌≢◌, ◌⊎◌, ⊎_elim, inl, inr, arith, refl, sym, ap, ◌∙◌, subst, true, false, IsTrue, List, [], ◌∷◌, ◌++◌, Option, Some, None, length, get_or, max, min, Contains, All, slice_index, slice_set}
use Rattle.std.proofs.lemmas.List.{get_or-set_same, get_or-set_other}
use Rattle.std.proofs.lemmas.List.Elements.{Contains-get_or, All-cons, All-nil, All-weaker, All-append, All-head, Contains-append_left, Contains-append_right, Contains-append_cases}
use Rattle.std.proofs.lemmas.Bool.{cases_eq, false_from_ne_true, ltb-true}
use Rattle.herd_frozen.specs.rules.Paths.{Parentage, has_path}
use Rattle.herd_frozen.specs.rules.Depths.{IsParent, AreDepths, depth_above, depth_from}
use Rattle.herd_pedigree.specs.store.Carrying.{IsSettled, HavePaths, AddsCalves}
use Rattle.herd_frozen.specs.places.Places.{parentage_at}
use Rattle.herd_frozen.proofs.lemmas.rules.PathFacts.{Path, path-from_test, test-from_path, path-there, depths-shallow}
use Rattle.herd_frozen.proofs.lemmas.Contained.{contains_cases, contains_none}

-- the animal is the parent, or a write there leaves what the parent gives
named_or_same : (depths : List ℕ) (place d : ℕ) (o : Option ℕ) → (o ≡ Some place) ⊎ (depth_above (slice_index (slice_set depths place d)) o ≡ depth_above (slice_index depths) o)
named_or_same depths place d None = inr refl
named_or_same depths place d (Some p) =
    ⊎_elim
    (λ (e : p ≡ place). inl (ap Some e))
    (λ (n : p ≢ place). inr (ap (λ v. v + 1) (get_or-set_other depths place p d 0 n)))
    (cases_eq p place)

rest_of : (place c : ℕ) (xs : List ℕ) → c ≢ place → Contains (place ∷ xs) c → Contains xs c
rest_of place c xs n h = ⊎_elim (λ (e : place ≡ c). absurd (n (sym e))) (λ t. t) (contains_cases place c xs h)

module _ (l : ℕ) (parentage : Parentage ℕ) (depths : List ℕ) (place d : ℕ) (within : place < length depths)
    (now : d ≡ min (l + 1) (depth_from (slice_index depths) (parentage.sire place) (parentage.dam place))) where
  -- nothing was to be changed
  pub settled-same : d ≡ slice_index depths place → (pending : List ℕ) → IsSettled l parentage (slice_index depths) (place ∷ pending) → IsSettled l parentage (slice_index depths) pending
  settled-same same pending s c there =
      ⊎_elim
      (λ (e : c ≡ place).
      inr (ap (λ v. slice_index depths v) e ∙ sym same ∙ now ∙ sym (ap (λ v. min (l + 1) (depth_from (slice_index depths) (parentage.sire v) (parentage.dam v))) e)))
      (λ (n : c ≢ place). ⊎_elim (λ h. inl (rest_of place c pending n h)) (λ k. inr k) (s c there))
      (cases_eq c place)

  -- the depth was written, and the calves are pending
  pub settled-set : (rest pending more : List ℕ) → AddsCalves parentage place pending more → IsSettled l parentage (slice_index depths) (place ∷ (rest ++ pending)) → IsSettled l parentage (slice_index (slice_set depths place d)) (rest ++ more)
  settled-set rest pending more adds s c there =
      ⊎_elim
      (λ (e : parentage.sire c ≡ Some place). inl (calf (inl e)))
      (λ (by_sire : depth_above (slice_index (slice_set depths place d)) (parentage.sire c) ≡ depth_above (slice_index depths) (parentage.sire c)).
      ⊎_elim
      (λ (e : parentage.dam c ≡ Some place). inl (calf (inr e)))
      (λ (by_dam : depth_above (slice_index (slice_set depths place d)) (parentage.dam c) ≡ depth_above (slice_index depths) (parentage.dam c)).
      let gives : depth_from (slice_index (slice_set depths place d)) (parentage.sire c) (parentage.dam c) ≡ depth_from (slice_index depths) (parentage.sire c) (parentage.dam c) = λ i. max (by_sire i) (by_dam i) in
      ⊎_elim
      (λ (e : c ≡ place).
      inr (ap (λ v. slice_index (slice_set depths place d) v) e ∙ get_or-set_same depths place d 0 within ∙ now
      ∙ sym (ap (λ v. min (l + 1) (depth_from (slice_index depths) (parentage.sire v) (parentage.dam v))) e) ∙ ap (λ v. min (l + 1) v) (sym gives)))
      (λ (n : c ≢ place).
      ⊎_elim
      (λ h. inl (grown (rest_of place c (rest ++ pending) n h)))
      (λ k. inr (get_or-set_other depths place c d 0 n ∙ k ∙ ap (λ v. min (l + 1) v) (sym gives)))
      (s c there))
      (cases_eq c place))
      (named_or_same depths place d (parentage.dam c)))
      (named_or_same depths place d (parentage.sire c))
    where
      calf : IsParent parentage place c → Contains (rest ++ more) c
      calf is =
          let late : Contains (pending ++ adds.added) c = Contains-append_right pending adds.added c (adds.all c there is) in
          Contains-append_right rest more c (subst (λ xs. Contains xs c) (sym adds.is) late)

      grown : Contains (rest ++ pending) c → Contains (rest ++ more) c
      grown h =
          ⊎_elim
          (λ a. Contains-append_left rest more c a)
          (λ b. Contains-append_right rest more c (subst (λ xs. Contains xs c) (sym adds.is) (Contains-append_left pending adds.added c b)))
          (Contains-append_cases rest pending c h)

above_path : {A : Type 0} (g : A → ℕ) (o : Option A) (n : ℕ) → suc n ≤ depth_above g o → (p : A) × (o ≡ Some p) × (n ≤ g p)
above_path g None n h = absurd (omega (arith, h))
above_path g (Some p) n h = (p, refl, omega (arith, h))

either : (a b n : ℕ) → suc n ≤ max a b → (suc n ≤ a) ⊎ (suc n ≤ b)
either a b n h = grind (arith, h)

module _ {A : Type 0} (l : ℕ) (parentage : Parentage A) (g : A → ℕ)
    (closed : (p x : A) → IsTrue (parentage.is_there x) → IsParent parentage p x → IsTrue (parentage.is_there p)) (settled : IsSettled l parentage g []) where
  gives : (x : A) → IsTrue (parentage.is_there x) → g x ≡ min (l + 1) (depth_from g (parentage.sire x) (parentage.dam x))
  gives x there = ⊎_elim (λ e. absurd (contains_none x e)) (λ k. k) (settled x there)

  -- each depth is reached by a path, also one that was cut off
  pub settled-path : (n : ℕ) (x : A) → IsTrue (parentage.is_there x) → n ≤ g x → Path parentage n x
  unfolding Path
  settled-path zero x there low = there
  settled-path (suc n) x there low =
      let by_sire : ℕ = depth_above g (parentage.sire x) in
      let by_dam : ℕ = depth_above g (parentage.dam x) in
      let high : suc n ≤ max by_sire by_dam = let k : suc n ≤ min (l + 1) (max by_sire by_dam) = subst (λ v. suc n ≤ v) (gives x there) low in grind (arith, k) in
      ⊎_elim
      (λ s.
      let p = above_path g (parentage.sire x) n s in
      let is : IsParent parentage p.0 x = inl p.1 in
      (there, (p.0, is, settled-path n p.0 (closed p.0 x there is) p.2)))
      (λ s.
      let p = above_path g (parentage.dam x) n s in
      let is : IsParent parentage p.0 x = inr p.1 in
      (there, (p.0, is, settled-path n p.0 (closed p.0 x there is) p.2)))
      (either by_sire by_dam n high)

  -- where none is above the limit, they are the depths
  pub settled-depths : ((x : A) → IsTrue (parentage.is_there x) → g x ≤ l) → AreDepths l parentage g
  settled-depths most = record {
    closed = closed;
    kept = λ x there. cut (g x) (depth_from g (parentage.sire x) (parentage.dam x)) (gives x there) (most x there);
    most = most;
  }
    where
      cut : (a m : ℕ) → a ≡ min (l + 1) m → a ≤ l → a ≡ m
      cut a m e h = grind (arith, e, h)

-- a step more
pub path-step : {A : Type 0} (parentage : Parentage A) (n : ℕ) (p x : A) → IsTrue (parentage.is_there x) → IsParent parentage p x → has_path parentage n p ≡ true → has_path parentage (suc n) x ≡ true
unfolding Path
path-step parentage n p x there is path = test-from_path parentage (suc n) x (there, (p, is, path-from_test parentage n p path))

-- from the calves there are paths with a step more
pub paths-calves : {A : Type 0} (parentage : Parentage A) (n : ℕ) (p : A) (old new : List A) → AddsCalves parentage p old new → IsTrue (has_path parentage n p) → HavePaths parentage (suc n) old → HavePaths parentage (suc n) new
paths-calves {A} parentage n p old new adds path have =
    let added : All (λ (x : A). IsTrue (has_path parentage (suc n) x)) adds.added = λ k d h.
    let is = adds.only (get_or adds.added k d) (Contains-get_or adds.added k d h) in
    path-step parentage n p (get_or adds.added k d) is.0 is.1 path in
    subst (λ xs. HavePaths parentage (suc n) xs) (sym adds.is) (All-append (λ (x : A). IsTrue (has_path parentage (suc n) x)) old adds.added have added)

pub some-path : {A : Type 0} (parentage : Parentage A) (n : ℕ) (xs : List A) → HavePaths parentage n xs → (length xs ≡ 0 → ⊥) → (x : A) × IsTrue (has_path parentage n x)
some-path parentage n [] have some = absurd (some refl)
some-path {A} parentage n (x ∷ xs) have some = (x, All-head (λ (x : A). IsTrue (has_path parentage n x)) x xs have)

-- depths by place are settled but for the animal whose parents change
pub settled-but : (l : ℕ) (old new : Parentage ℕ) (depths : List ℕ) (place : ℕ) → AreDepths l old (slice_index depths) →
    ((x : ℕ) → x ≢ place → IsTrue (new.is_there x) → IsTrue (old.is_there x) × (new.sire x ≡ old.sire x) × (new.dam x ≡ old.dam x)) →
    IsSettled l new (slice_index depths) (place ∷ [])
settled-but l old new depths place d same x there =
    ⊎_elim
    (λ (e : x ≡ place). inl (0, omega arith, sym e))
    (λ (n : x ≢ place).
    let s = same x n there in
    let m = d.most x s.0 in
    let k : slice_index depths x ≡ depth_from (slice_index depths) (new.sire x) (new.dam x) = d.kept x s.0 ∙ sym (λ i. depth_from (slice_index depths) (s.1 i) (s.2 i)) in
    inr (cut (slice_index depths x) (depth_from (slice_index depths) (new.sire x) (new.dam x)) k m))
    (cases_eq x place)
  where
    cut : (a m : ℕ) → a ≡ m → a ≤ l → a ≡ min (l + 1) m
    cut a m e h = grind (arith, e, h)

module _ {A : Type 0} (l : ℕ) (parentage : Parentage A) (g : A → ℕ)
    (closed : (p x : A) → IsTrue (parentage.is_there x) → IsParent parentage p x → IsTrue (parentage.is_there p)) (settled : IsSettled l parentage g []) where
  -- a settled depth above the limit tells a path that is too long
  pub settled-deep : (x : A) → IsTrue (parentage.is_there x) → l < g x → has_path parentage (l + 1) x ≡ true
  settled-deep x there high = test-from_path parentage (l + 1) x (settled-path l parentage g closed settled (l + 1) x there (omega (arith, high)))

  -- and where there is none, no path is
  pub settled-shallow : ((x : A) → IsTrue (parentage.is_there x) → g x ≤ l) → (x : A) → has_path parentage (l + 1) x ≡ false
  settled-shallow most x =
      false_from_ne_true (has_path parentage (l + 1) x)
      (λ t. let k = depths-shallow l parentage g (settled-depths l parentage g closed settled most) (l + 1) x (path-from_test parentage (l + 1) x t) in absurd (omega (arith, k)))

-- each animal begins a path of no steps
pub first-path : {A : Type 0} (parentage : Parentage A) (x : A) → IsTrue (parentage.is_there x) → HavePaths parentage 0 (x ∷ [])
unfolding has_path
first-path {A} parentage x there = All-cons (λ (y : A). IsTrue (has_path parentage 0 y)) x [] there (All-nil (λ (y : A). IsTrue (has_path parentage 0 y)))

pub no-paths : {A : Type 0} (parentage : Parentage A) (n : ℕ) → HavePaths parentage n []
no-paths {A} parentage n = All-nil (λ (y : A). IsTrue (has_path parentage n y))

-- paths begin at places that there are
pub paths-within : (sires dams : List (Option ℕ)) (n k : ℕ) (places : List ℕ) → k ≡ length sires → HavePaths (parentage_at sires dams) n places → All (λ place. place < k) places
paths-within sires dams n k places e have =
    All-weaker (λ (place : ℕ). IsTrue (has_path (parentage_at sires dams) n place)) (λ place. place < k)
    (λ place path. let w = ltb-true place (length sires) (path-there (parentage_at sires dams) n place (path-from_test (parentage_at sires dams) n place path)) in omega (arith, w, e)) places have
