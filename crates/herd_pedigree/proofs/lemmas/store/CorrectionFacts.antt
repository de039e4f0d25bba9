-- The calves of each animal, where the parents of one are exchanged.
use Rattle.std.proofs.Common.{ℕ, ◌<◌, ◌≤◌, ◌+◌, ◌≡◌, ◌≢◌, ◌↔◌, ◌==◌, ⊎_elim, inl, inr, arith, refl, sym, ap, ◌∙◌, subst, Bool, true, false, not, IsTrue, IfSome, IfOk, Result, Ok, Err, List, [], ◌∷◌, ◌++◌, Option, Some, None, length, filter, Contains, slice_index, slice_set}
use Rattle.std.proofs.lemmas.Bool.{cases_eq, lt-ltb, ltb-true, eqb-false, ne_eqb, not-true, not_from_false}
use Rattle.std.proofs.lemmas.List.{append_assoc, get_or-set_other, length-set}
use Rattle.std.proofs.lemmas.List.Elements.{Contains-append_left, Contains-append_right, Contains-append_cases}
use Rattle.herd_frozen.specs.rules.Depths.{IsParent}
use Rattle.herd_frozen.specs.rules.Paths.{has_path}
use Rattle.herd_frozen.specs.places.Places.{parent_at}
use Rattle.herd_pedigree.specs.declared.store.correction.Correction.{Correction}
use Rattle.herd_pedigree.specs.store.Correction.{corrected}
use Rattle.herd_pedigree.specs.store.Carrying.{AddsCalves, IsSettled}
use Rattle.herd_pedigree.specs.store.Exchange.{exchanged}
use Rattle.herd_pedigree.proofs.lemmas.store.CarryFacts.{settled-deep, settled-shallow}
use Rattle.herd_frozen.proofs.lemmas.Contained.{contains_here, contains_cases, contains_none, filter-keeps, filter-only}
use Rattle.herd_pedigree.proofs.lemmas.store.ProgenyFacts.{parent-within}

-- once all depths are settled, one above the limit tells a path that is too long, and where none is, no path is
module _ {A : Type 0} (l : ℕ) (c : Correction A) (depths : List ℕ) (long : length depths ≡ length c.sires.now.parents) (settled : IsSettled l (corrected c) (slice_index depths) []) where
  as_many : length (slice_set c.sires.now.parents c.place c.sire) ≡ length c.sires.now.parents
  as_many = length-set c.sires.now.parents c.place c.sire

  closed : (p x : ℕ) → IsTrue ((corrected c).is_there x) → IsParent (corrected c) p x → IsTrue ((corrected c).is_there p)
  closed p x there is = lt-ltb p _ (subst (λ n. p < n) (sym as_many) (c.sound.closed p x is))

  pub corrected-deep : (x : ℕ) → x < length depths → l < slice_index depths x → has_path (corrected c) (l + 1) x ≡ true
  corrected-deep x within =
      settled-deep l (corrected c) (slice_index depths) closed settled x (lt-ltb x _ (subst (λ n. x < n) (long ∙ sym as_many) within))

  pub corrected-shallow : ((x : ℕ) → x < length depths → slice_index depths x ≤ l) → (x : ℕ) → has_path (corrected c) (l + 1) x ≡ false
  corrected-shallow most =
      settled-shallow l (corrected c) (slice_index depths) closed settled
      (λ x there. most x (subst (λ n. x < n) (as_many ∙ sym long) (ltb-true x _ there)))

-- a parent that is there, or none
pub if_parent : (o : Option ℕ) (n : ℕ) → ((p : ℕ) → o ≡ Some p → p < n) → IfSome o (λ p. p < n)
if_parent None n h = tt
if_parent (Some p) n h = h p refl

module _ (sires dams : List (Option ℕ)) (a : ℕ) (sire dam : Option ℕ) (here : a < length sires) (wide : length dams ≡ length sires) (p : ℕ) (xs ys : List ℕ)
    (xs_are : (c : ℕ) → Contains xs c ↔ (parent_at sires c ≡ Some p)) (ys_are : (c : ℕ) → Contains ys c ↔ (parent_at dams c ≡ Some p)) where
  other : ℕ → Bool
  other c = not (c == a)

  passes : (c : ℕ) → c ≢ a → not (c == a) ≡ true
  passes c n = not_from_false (c == a) (ne_eqb c a n)

  is_other : (c : ℕ) → not (c == a) ≡ true → c ≢ a
  is_other c t = eqb-false c a (not-true (c == a) t)

  there_at : (c : ℕ) → c < length sires → IsTrue ((exchanged sires dams a sire dam).is_there c)
  there_at c h = lt-ltb c (length (slice_set sires a sire)) (let n = length-set sires a sire in omega (arith, h, n))

  others_all : (c : ℕ) → c ≢ a → IsParent (exchanged sires dams a sire dam) p c → Contains (filter (λ c. not (c == a)) xs ++ filter (λ c. not (c == a)) ys) c
  others_all c n is =
      let fx : List ℕ = filter (λ c. not (c == a)) xs in
      let fy : List ℕ = filter (λ c. not (c == a)) ys in
      ⊎_elim
      (λ (e : parent_at (slice_set sires a sire) c ≡ Some p).
      Contains-append_left fx fy c (filter-keeps (λ c. not (c == a)) xs c ((xs_are c).1 (sym (get_or-set_other sires a c sire None n) ∙ e)) (passes c n)))
      (λ (e : parent_at (slice_set dams a dam) c ≡ Some p).
      Contains-append_right fx fy c (filter-keeps (λ c. not (c == a)) ys c ((ys_are c).1 (sym (get_or-set_other dams a c dam None n) ∙ e)) (passes c n)))
      is

  others_only : (c : ℕ) → Contains (filter (λ c. not (c == a)) xs ++ filter (λ c. not (c == a)) ys) c → IsTrue ((exchanged sires dams a sire dam).is_there c) × IsParent (exchanged sires dams a sire dam) p c
  others_only c h =
      ⊎_elim
      (λ l.
      let f = filter-only (λ c. not (c == a)) xs c l in
      let e = (xs_are c).0 f.0 in
      (there_at c (parent-within sires c p e), inl (get_or-set_other sires a c sire None (is_other c f.1) ∙ e)))
      (λ r.
      let f = filter-only (λ c. not (c == a)) ys c r in
      let e = (ys_are c).0 f.0 in
      let w = parent-within dams c p e in
      (there_at c (omega (arith, w, wide)), inr (get_or-set_other dams a c dam None (is_other c f.1) ∙ e)))
      (Contains-append_cases (filter (λ c. not (c == a)) xs) (filter (λ c. not (c == a)) ys) c h)

  -- the animal itself isn't one of them
  pub adds-others : (old new : List ℕ) → (IsParent (exchanged sires dams a sire dam) p a → ⊥) → new ≡ (old ++ filter (λ c. not (c == a)) xs) ++ filter (λ c. not (c == a)) ys →
      AddsCalves (exchanged sires dams a sire dam) p old new
  adds-others old new none e = record {
    added = filter (λ c. not (c == a)) xs ++ filter (λ c. not (c == a)) ys;
    is = e ∙ append_assoc old (filter (λ c. not (c == a)) xs) (filter (λ c. not (c == a)) ys);
    all = λ c there is.
        ⊎_elim
        (λ (s : c ≡ a). absurd (none (subst (λ v. IsParent (exchanged sires dams a sire dam) p v) s is)))
        (λ (n : c ≢ a). others_all c n is)
        (cases_eq c a);
    only = others_only;
  }

  -- or it is
  pub adds-named : (old new : List ℕ) → IsParent (exchanged sires dams a sire dam) p a → new ≡ ((old ++ filter (λ c. not (c == a)) xs) ++ filter (λ c. not (c == a)) ys) ++ a ∷ [] →
      AddsCalves (exchanged sires dams a sire dam) p old new
  adds-named old new named e =
      let others : List ℕ = filter (λ c. not (c == a)) xs ++ filter (λ c. not (c == a)) ys in
      record {
        added = others ++ a ∷ [];
        is = e ∙ ap (λ l. l ++ a ∷ []) (append_assoc old (filter (λ c. not (c == a)) xs) (filter (λ c. not (c == a)) ys)) ∙ append_assoc old others (a ∷ []);
        all = λ c there is.
            ⊎_elim
            (λ (s : c ≡ a). subst (λ v. Contains (others ++ a ∷ []) v) (sym s) (Contains-append_right others (a ∷ []) a (contains_here a [])))
            (λ (n : c ≢ a). Contains-append_left others (a ∷ []) c (others_all c n is))
            (cases_eq c a);
        only = λ c h.
            ⊎_elim
            (λ l. others_only c l)
            (λ r.
            ⊎_elim
            (λ (s : a ≡ c). subst (λ v. IsTrue ((exchanged sires dams a sire dam).is_there v) × IsParent (exchanged sires dams a sire dam) p v) s (there_at a here, named))
            (λ none. absurd (contains_none c none))
            (contains_cases a c [] r))
            (Contains-append_cases others (a ∷ []) c h);
      }

-- two clauses on an `Ok`
pub IfOk-both : {T E : Type 0} (r : Result T E) (P Q R : T → Type 0) → ((x : T) → P x → Q x → R x) → IfOk r P → IfOk r Q → IfOk r R
IfOk-both (Ok x) P Q R f p q = f x p q
IfOk-both (Err e) P Q R f p q = tt
