-- The parents of one sex by place, and their nodes.
use Rattle.std.proofs.Common.{ℕ, ◌<◌, ◌^◌, ◌≡◌, ◌≢◌, ◌⊎◌, inl, inr, arith, refl, sym, ap, ◌∙◌, cond, List, Option, Some, None, length, slice_set, get_or}
use Rattle.std.proofs.lemmas.Bool.{cases_eq, cases_lt, eq-eqb, ne_eqb}
use Rattle.std.proofs.lemmas.Option.{same_Some}
use Rattle.std.proofs.lemmas.List.{ext_get_or, get_or-set_same, get_or-set_other, get_or_past, get_or-map, length-set, length-map}
use Rattle.herd_pedigree.specs.declared.store.progeny.ChainNode.{ChainNode}
use Rattle.herd_frozen.specs.places.Places.{parent_at}
use Rattle.herd_frozen.proofs.lemmas.ListFacts.{option_cases}
use Rattle.herd_pedigree.specs.store.Calves.{AreChained, alone, node_at, first_of, next_of, parent_of, parents_of, previous_of, put}

-- who has a parent is there
pub parent-within : (parents : List (Option ℕ)) (c p : ℕ) → parent_at parents c ≡ Some p → c < length parents
parent-within parents c p e =
    elim (cases_lt c (length parents)) [
      | inl h ↦ h
      | inr h ↦ let n : None ≡ Some p = sym (get_or_past parents c None h) ∙ e in absurd (cc)
    ]

-- a place is that one or another
pub is_place : (o : Option ℕ) (x : ℕ) → (o ≡ Some x) ⊎ (o ≢ Some x)
is_place None x = inr (λ e. absurd (cc))
is_place (Some p) x = elim (cases_eq p x) [ inl same ↦ inl (ap Some same) | inr other ↦ inr (λ e. other (same_Some _ _ e)) ]

pub put_is : (place value : Option ℕ) (f : ℕ → Option ℕ) (x : ℕ) → place ≡ Some x → put place value f x ≡ value
put_is None value f x e = absurd (cc)
put_is (Some p) value f x e = ap (λ t. cond t value (f x)) (eq-eqb x p (sym (same_Some _ _ e)))

pub put_isnt : (place value : Option ℕ) (f : ℕ → Option ℕ) (x : ℕ) → place ≢ Some x → put place value f x ≡ f x
put_isnt None value f x n = refl
put_isnt (Some p) value f x n = ap (λ t. cond t value (f x)) (ne_eqb x p (λ e. n (ap Some (sym e))))

pub put_at : (p : ℕ) (value : Option ℕ) (f : ℕ → Option ℕ) → put (Some p) value f p ≡ value
put_at p value f = put_is (Some p) value f p refl

pub put_off : (p : ℕ) (value : Option ℕ) (f : ℕ → Option ℕ) (x : ℕ) → x ≢ p → put (Some p) value f x ≡ f x
put_off p value f x n = put_isnt (Some p) value f x (λ e. n (sym (same_Some _ _ e)))

-- what is kept of each stays as it was
pub chained-same : (old new : List ChainNode) → AreChained old → length new < 2 ^ 32 → ((x : ℕ) → node_at new x ≡ node_at old x) → ((c p : ℕ) → parent_of old c ≡ Some p → p < length new) → AreChained new
chained-same old new a few e w = record {
  few = few;
  seniority = a.seniority;
  top = a.top;
  below = a.below;
  within = λ c p h. w c p (sym (parent c) ∙ h);
  first = λ p c h. let was = a.first p c (sym (first p) ∙ h) in (parent c ∙ was.0, previous c ∙ was.1);
  foremost = λ p c h n. first p ∙ a.foremost p c (sym (parent c) ∙ h) (sym (previous c) ∙ n);
  next = λ c d h. let was = a.next c d (sym (next c) ∙ h) in (previous d ∙ was.0, (parent d ∙ was.1.0 ∙ sym (parent c), was.1.1));
  previous = λ c d h. next c ∙ a.previous c d (sym (previous d) ∙ h);
  single = λ c h. let was = a.single c (sym (parent c) ∙ h) in (next c ∙ was.0, previous c ∙ was.1);
}
  where
    parent : (x : ℕ) → parent_of new x ≡ parent_of old x
    parent x = ap (λ f. f.parent) (e x)

    previous : (x : ℕ) → previous_of new x ≡ previous_of old x
    previous x = ap (λ f. f.previous) (e x)

    next : (x : ℕ) → next_of new x ≡ next_of old x
    next x = ap (λ f. f.next) (e x)

    first : (x : ℕ) → first_of new x ≡ first_of old x
    first x = ap (λ f. f.first) (e x)

-- the parents as they are seen from outside
pub parents-seen : (nodes : List ChainNode) (x : ℕ) → parent_at (parents_of nodes) x ≡ parent_of nodes x
parents-seen nodes x =
    let n = length-map nodes (λ (node : ChainNode). node.parent) in
    elim (cases_lt x (length nodes)) [
      | inl h ↦ get_or-map (λ (node : ChainNode). node.parent) nodes x alone None h
      | inr h ↦ get_or_past (parents_of nodes) x None (omega (arith, h, n)) ∙ sym (ap (λ (f : ChainNode). f.parent) (get_or_past nodes x alone h))
    ]

-- as many as there are parents
pub length-nodes : (nodes : List ChainNode) (parents : List (Option ℕ)) → parents_of nodes ≡ parents → length nodes ≡ length parents
length-nodes nodes parents e = sym (length-map nodes (λ (node : ChainNode). node.parent)) ∙ ap (λ ps. length ps) e

-- by the parent of each
pub parents-set : (old new : List ChainNode) (c : ℕ) (o : Option ℕ) → c < length old → length new ≡ length old → ((x : ℕ) → parent_of new x ≡ put (Some c) o (parent_of old) x) → parents_of new ≡ slice_set (parents_of old) c o
parents-set old new c o here n e =
    let l = length-map old (λ (node : ChainNode). node.parent) in
    let m = length-map new (λ (node : ChainNode). node.parent) in
    let k = length-set (parents_of old) c o in
    ext_get_or None (parents_of new) (slice_set (parents_of old) c o) (omega (arith, l, m, n, k))
    (λ x h.
    parents-seen new x ∙ e x
    ∙ elim (cases_eq x c) [
      | inl same ↦ put_is (Some c) o (parent_of old) x (ap Some (sym same)) ∙ sym (ap (λ v. get_or (slice_set (parents_of old) c o) v None) same ∙ get_or-set_same (parents_of old) c o None (omega (arith, here, l)))
      | inr other ↦ put_off c o (parent_of old) x other ∙ sym (parents-seen old x) ∙ sym (get_or-set_other (parents_of old) c x o None other)
    ])

-- who has a parent is an animal
pub animal-within : (nodes : List ChainNode) (c p : ℕ) → parent_of nodes c ≡ Some p → c < length nodes
animal-within nodes c p e =
    elim (cases_lt c (length nodes)) [
      | inl h ↦ h
      | inr h ↦ let bad : None ≡ Some p = sym (ap (λ (f : ChainNode). f.parent) (get_or_past nodes c alone h)) ∙ e in absurd (cc)
    ]

-- so are the calves that stand beside an animal
module _ (nodes : List ChainNode) (a : AreChained nodes) (c : ℕ) where
  pub next-within : (x : ℕ) → next_of nodes c ≡ Some x → x < length nodes
  next-within x e = elim (option_cases (parent_of nodes c)) [
    | inl none ↦ let bad : None ≡ Some x = sym (a.single c none).0 ∙ e in absurd (cc)
    | inr some ↦ animal-within nodes x some.0 ((a.next c x e).1.0 ∙ some.1)
  ]

  pub previous-within : (x : ℕ) → previous_of nodes c ≡ Some x → x < length nodes
  previous-within x e = elim (option_cases (parent_of nodes c)) [
    | inl none ↦ let bad : None ≡ Some x = sym (a.single c none).1 ∙ e in absurd (cc)
    | inr some ↦ animal-within nodes x some.0 (sym (a.next x c (a.previous x c e)).1.0 ∙ some.1)
  ]

pub everywhere : {f g : ℕ → Option ℕ} → ((x : ℕ) → f x ≡ g x) → f ≡ g
everywhere h = λ i x. h x i
