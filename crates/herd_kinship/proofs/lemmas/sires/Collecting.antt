-- Collecting marked animals and their ancestors, from the youngest to the oldest.
use Rattle.std.proofs.Common.{ℕ, ◌+◌, ◌-◌, ◌*◌, ◌<◌, ◌≤◌, ◌≡◌, ◌⊎◌, ◌++◌, inl, inr, ⊎_elim, List, [], ◌∷◌, length, get_or, set, Option, Some, None, Contains, lit<, arith, refl, sym, ◌∙◌, ap, subst}
use Rattle.std.proofs.Math.Seq.{get_or-append_seam}
use Rattle.std.proofs.lemmas.Bool.{cases_lt, cases_eq}
use Rattle.std.proofs.lemmas.List.{get_or_append_left, get_or-set_same, get_or-set_other, length_push}
use Rattle.std.proofs.lemmas.List.Elements.{Contains-append_left, Contains-append_right}
use Rattle.herd_lineage.specs.declared.lineage.Parents.{Parents}
use Rattle.herd_lineage.specs.Lineage.{IsLineage, dam_rank, sire_rank}
use Rattle.herd_kinship.specs.Ancestry.{IsParentIn}
use Rattle.herd_kinship.specs.Columns.{IsCollection, HasAll}
use Rattle.herd_kinship.specs.Pending.{mark, Marks}
use Rattle.herd_kinship.specs.Ranks.{ranked}
use Rattle.herd_kinship.specs.Tracing.{GivesMark}
use Rattle.herd_kinship.proofs.lemmas.lineages.LineageFacts.{lineage-ranked}

-- the rank is collected or marked
abbrev pub IsHeld : ℕ → List ℕ → List ℕ → ℕ → Type 0
IsHeld last chunks collected p = Contains collected p ⊎ (mark chunks (last - p) ≡ 1)

-- the rank that was collected last
abbrev pub border_of : ℕ → List ℕ → ℕ
border_of last collected = get_or collected (length collected - 1) (last + 1)

pub border_of-push : (last y : ℕ) (xs : List ℕ) → border_of last (xs ++ y ∷ []) ≡ y
border_of-push last y xs =
    ap (λ n. get_or (xs ++ y ∷ []) n (last + 1)) (let e = length_push xs y in let d : length (xs ++ y ∷ []) - 1 ≡ length xs = omega (arith, e) in d)
    ∙ get_or-append_seam xs y [] (last + 1)

-- what is collected down to the border, and what is marked below it
pub record IsCollecting (rows : List Parents) (last : ℕ) (start : List ℕ) (border : ℕ) (chunks collected : List ℕ) : Type 0 where
  pub room : last < 64 * length chunks
  pub near : (e : ℕ) → mark chunks e ≡ 1 → (e ≤ last) × (last - e < border)
  pub within : (k : ℕ) → k < length collected → (border ≤ get_or collected k 0) × (get_or collected k 0 ≤ last)
  pub few : length collected + border ≤ last + 1
  pub descending : (k m : ℕ) → k < m → m < length collected → get_or collected m 0 < get_or collected k 0
  pub closed : (k p : ℕ) → k < length collected → IsParentIn (ranked rows) p (get_or collected k 0) → IsHeld last chunks collected p
  pub all : (p : ℕ) → p ≤ last → mark start (last - p) ≡ 1 → IsHeld last chunks collected p

-- what a parent's mark changes
pub gives-kept : (last : ℕ) (old new : List ℕ) (o : Option ℕ) → GivesMark last old new o → (e : ℕ) → mark old e ≡ 1 → mark new e ≡ 1
gives-kept last old new None is e m = rw is m
gives-kept last old new (Some p) is e m =
    ⊎_elim (λ (s : e ≡ last - p). subst (λ v. mark new v ≡ 1) (sym s) is.here) (λ (s : e ≡ last - p → ⊥). is.others e s ∙ m) (cases_eq e (last - p))

pub gives-from : (last : ℕ) (old new : List ℕ) (o : Option ℕ) → GivesMark last old new o → (e : ℕ) → mark new e ≡ 1 →
    (mark old e ≡ 1) ⊎ ((p : ℕ) × (o ≡ Some p) × (e ≡ last - p))
gives-from last old new None is e m = inl (rw (← is) m)
gives-from last old new (Some p) is e m =
    ⊎_elim (λ (s : e ≡ last - p). inr (p, refl, s)) (λ (s : e ≡ last - p → ⊥). inl (sym (is.others e s) ∙ m)) (cases_eq e (last - p))

pub gives-it : (last : ℕ) (old new : List ℕ) (o : Option ℕ) → GivesMark last old new o → (p : ℕ) → o ≡ Some p → mark new (last - p) ≡ 1
gives-it last old new None is p e = absurd (cc)
gives-it last old new (Some q) is p e = let s : q ≡ p = cc in subst (λ v. mark new (last - v) ≡ 1) s is.here

pub gives-room : (last : ℕ) (old new : List ℕ) (o : Option ℕ) → GivesMark last old new o → length new ≡ length old
gives-room last old new None is = ap length is
gives-room last old new (Some p) is = is.room

-- a parent of a rank up to the last is one too
pub parent-older : (l most : ℕ) (rows : List Parents) → IsLineage l most rows → (last y p : ℕ) → last < length rows → y ≤ last → IsParentIn (ranked rows) p y → p ≤ last
parent-older l most rows f last y p ll ly parent = let lower : p < y = (lineage-ranked l most rows f).below y p (omega arith) parent in omega arith

-- 0 at each rank of a list, once it is written for one rank more
pub zero-next : (column xs : List ℕ) (y : ℕ) → y < length column → HasAll column xs (λ _. 0) → HasAll (set column y 0) (xs ++ y ∷ []) (λ _. 0)
zero-next column xs y within so_far = λ k lk.
    let ys : List ℕ = xs ++ y ∷ [] in
    let long = length_push xs y in
    let at : ℕ = get_or ys k 0 in
    ⊎_elim
    (λ (same : at ≡ y). ap (λ n. get_or (set column y 0) n 0) same ∙ get_or-set_same column y 0 0 within)
    (λ (other : at ≡ y → ⊥).
    get_or-set_other column y at 0 0 other
    ∙ ⊎_elim
    (λ (before : k < length xs). ap (λ n. get_or column n 0) (get_or_append_left xs (y ∷ []) 0 k before) ∙ so_far k before)
    (λ (end : length xs ≤ k).
    let is : k ≡ length xs = omega (arith, long, lk) in
    absurd (other (ap (λ n. get_or ys n 0) is ∙ get_or-append_seam xs y [] 0)))
    (cases_lt k (length xs)))
    (cases_eq at y)

module _ (l most : ℕ) (rows : List Parents) (f : IsLineage l most rows) (last : ℕ) (ll : last < length rows) (start : List ℕ) where
  -- One animal more is collected: y, at the nearest mark d. Its mark is taken away and those of its parents are set,
  -- which are older than y: so all marks stand below y, and the collection stays descending. Who was held still is,
  -- since y is collected now and all other marks stay.
  pub collecting-next : (b d : ℕ) (chunks w1 w2 w3 xs : List ℕ) → mark chunks d ≡ 1 → ((e : ℕ) → e < d → mark chunks e ≡ 0) → Marks chunks w1 d 0 →
      GivesMark last w1 w2 (sire_rank rows (last - d)) → GivesMark last w2 w3 (dam_rank rows (last - d)) → IsCollecting rows last start b chunks xs →
      IsCollecting rows last start (last - d) w3 (xs ++ (last - d) ∷ [])
  collecting-next b d chunks w1 w2 w3 xs found nearest taken sire dam so_far =
      let y : ℕ = last - d in
      let ys : List ℕ = xs ++ y ∷ [] in
      let s : Option ℕ = sire_rank rows y in
      let t : Option ℕ = dam_rank rows y in
      let at = so_far.near d found in
      let ld : d ≤ last = at.0 in
      let yb : y < b = at.1 in
      let kept : (e : ℕ) → mark w1 e ≡ 1 → mark w3 e ≡ 1 = λ e m. gives-kept last w2 w3 t dam e (gives-kept last w1 w2 s sire e m) in
      let room2 = gives-room last w1 w2 s sire in
      let room3 = gives-room last w2 w3 t dam in
      let room1 = taken.room in
      let room = so_far.room in
      let long = length_push xs y in
      let low : (k : ℕ) → k < length xs → get_or ys k 0 ≡ get_or xs k 0 = λ k lk. get_or_append_left xs (y ∷ []) 0 k lk in
      let end : get_or ys (length xs) 0 ≡ y = get_or-append_seam xs y [] 0 in
      let parent_near : (p : ℕ) → IsParentIn (ranked rows) p y → (e : ℕ) → e ≡ last - p → (e ≤ last) × (last - e < y) =
      λ p parent e is. let lower : p < y = (lineage-ranked l most rows f).below y p (omega arith) parent in (omega arith, omega arith) in
      let held : (p : ℕ) → p ≤ last → IsHeld last chunks xs p → IsHeld last w3 ys p =
      λ p lp h.
      ⊎_elim (λ (c : Contains xs p). inl (Contains-append_left xs (y ∷ []) p c))
      (λ (m : mark chunks (last - p) ≡ 1).
      ⊎_elim
      (λ (same : last - p ≡ d).
      let is : y ≡ p = omega arith in
      inl (subst (λ v. Contains ys v) is (Contains-append_right xs (y ∷ []) y (0, lit< tt, refl))))
      (λ (other : last - p ≡ d → ⊥). inr (kept (last - p) (taken.others (last - p) other ∙ m)))
      (cases_eq (last - p) d)) h in
      record {
        room = omega arith;
        near = λ e m.
            ⊎_elim
            (λ (m2 : mark w2 e ≡ 1).
            ⊎_elim
            (λ (m1 : mark w1 e ≡ 1).
            let other : e ≡ d → ⊥ = λ q. let none : mark w1 e ≡ 0 = subst (λ v. mark w1 v ≡ 0) (sym q) taken.here in absurd (omega arith) in
            let was : mark chunks e ≡ 1 = sym (taken.others e other) ∙ m1 in
            let far : d ≤ e = ⊎_elim (λ (a : e < d). let none = nearest e a in absurd (omega (arith, none, was))) (λ (a : d ≤ e). a) (cases_lt e d) in
            let le : e ≤ last = (so_far.near e was).0 in
            let apart : d < e = ⊎_elim (λ (a : d < e). a) (λ (a : e ≤ d). absurd (other (omega arith))) (cases_lt d e) in
            (le, omega arith))
            (λ r. parent_near r.0 (inl r.1) e r.2)
            (gives-from last w1 w2 s sire e m2))
            (λ r. parent_near r.0 (inr r.1) e r.2)
            (gives-from last w2 w3 t dam e m);
        within = λ k lk.
            ⊎_elim
            (λ (a : k < length xs).
            let is = low k a in
            let w = so_far.within k a in
            let w0 = w.0 in
            let w1' = w.1 in
            rw is (omega arith, w1'))
            (λ (a : length xs ≤ k).
            let same : k ≡ length xs = omega (arith, long, lk) in
            let is : get_or ys k 0 ≡ y = ap (λ v. get_or ys v 0) same ∙ end in
            rw is (omega arith, omega arith))
            (cases_lt k (length xs));
        few = let was = so_far.few in omega (arith, was, long, yb);
        descending = λ k m km lm.
            let a : k < length xs = omega (arith, long, lm, km) in
            let is = low k a in
            let w0 = (so_far.within k a).0 in
            ⊎_elim
            (λ (am : m < length xs). let is' = low m am in let lower = so_far.descending k m km am in rw (is, is') lower)
            (λ (am : length xs ≤ m).
            let same : m ≡ length xs = omega (arith, long, lm) in
            let is' : get_or ys m 0 ≡ y = ap (λ v. get_or ys v 0) same ∙ end in
            rw (is, is') (omega arith))
            (cases_lt m (length xs));
        closed = λ k p lk parent.
            ⊎_elim
            (λ (a : k < length xs).
            let was : IsParentIn (ranked rows) p (get_or xs k 0) = subst (λ v. IsParentIn (ranked rows) p v) (low k a) parent in
            let top = (so_far.within k a).1 in
            let lower : p < get_or xs k 0 = (lineage-ranked l most rows f).below (get_or xs k 0) p (omega arith) was in
            held p (omega arith) (so_far.closed k p a was))
            (λ (a : length xs ≤ k).
            let same : k ≡ length xs = omega (arith, long, lk) in
            let is : get_or ys k 0 ≡ y = ap (λ v. get_or ys v 0) same ∙ end in
            let now : IsParentIn (ranked rows) p y = subst (λ v. IsParentIn (ranked rows) p v) is parent in
            inr (⊎_elim (λ e. gives-kept last w2 w3 t dam (last - p) (gives-it last w1 w2 s sire p e)) (λ e. gives-it last w2 w3 t dam p e) now))
            (cases_lt k (length xs));
        all = λ p lp m. held p lp (so_far.all p lp m);
      }

module _ (rows : List Parents) (last : ℕ) (ll : last < length rows) (start : List ℕ) where
  all_held : (chunks xs : List ℕ) → ((e : ℕ) → mark chunks e ≡ 0) → (p : ℕ) → IsHeld last chunks xs p → Contains xs p
  all_held chunks xs empty p h = ⊎_elim (λ (c : Contains xs p). c) (λ (m : mark chunks (last - p) ≡ 1). let none = empty (last - p) in absurd (omega (arith, none, m))) h

  -- once nothing is marked, the collection is whole
  pub collecting-end : (b : ℕ) (chunks xs : List ℕ) → ((e : ℕ) → mark chunks e ≡ 0) → IsCollecting rows last start b chunks xs → IsCollection rows xs
  collecting-end b chunks xs empty so_far = record {
    within = λ k lk. let top = (so_far.within k lk).1 in omega arith;
    descending = so_far.descending;
    closed = λ k p lk parent. all_held chunks xs empty p (so_far.closed k p lk parent);
  }
