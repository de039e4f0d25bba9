-- The chains of calves once an animal is added at the end, or the last is taken away.
use Rattle.std.proofs.Common.{take, ℕ, ◌+◌, ◌<◌, ◌^◌, ◌≡◌, ◌≢◌, inl, inr, arith, refl, sym, ap, ◌∙◌, subst, List, [], ◌∷◌, ◌++◌, Option, Some, None, length, slice_set, ⊎_elim}
use Rattle.std.proofs.lemmas.Bool.{cases_eq, cases_lt}
use Rattle.std.proofs.lemmas.List.{get_or-set_same, get_or-set_other, get_or_append_left, get_or_push, get_or_past, get_or-take, length-map, length_push, length-set, length-take-le, take-map}
use Rattle.herd_pedigree.specs.declared.store.progeny.ChainNode.{ChainNode}
use Rattle.herd_frozen.specs.places.Places.{parent_at}
use Rattle.herd_pedigree.specs.store.Calves.{AreChained, alone, node_at, first_of, parent_of, parents_of}
use Rattle.herd_pedigree.proofs.lemmas.store.ListFacts.{take-set}
use Rattle.herd_pedigree.proofs.lemmas.store.ProgenyFacts.{chained-same, parents-seen}

-- an animal with no parent, at the end
pub chained-append : (nodes : List ChainNode) → AreChained nodes → length nodes + 1 < 2 ^ 32 → AreChained (nodes ++ alone ∷ [])
chained-append nodes a few =
    let n = length_push nodes alone in
    let same : (x : ℕ) → node_at (nodes ++ alone ∷ []) x ≡ node_at nodes x = λ x.
    elim (cases_lt x (length nodes)) [
      | inl h ↦ get_or_append_left nodes (alone ∷ []) alone x h
      | inr h ↦ elim (cases_eq (length nodes) x) [
        | inl end ↦ get_or_push nodes alone alone x end ∙ sym (get_or_past nodes x alone h)
        | inr past ↦ get_or_past (nodes ++ alone ∷ []) x alone (omega (arith, n, h, past)) ∙ sym (get_or_past nodes x alone h)
      ]
    ] in
    chained-same nodes (nodes ++ alone ∷ []) a (omega (arith, n, few)) same (λ c p e. let w = a.within c p e in omega (arith, w, n))

-- the last animal, which has neither parent nor calves, is taken away
chained-pop : (nodes : List ChainNode) → AreChained nodes → (n : ℕ) → n + 1 ≡ length nodes → parent_of nodes n ≡ None → ((c : ℕ) → parent_of nodes c ≡ Some n → ⊥) → AreChained (take n nodes)
chained-pop nodes a n e none childless =
    let l : length (take n nodes) ≡ n = length-take-le n nodes (omega (arith, e)) in
    let both = a.single n none in
    let no_first : first_of nodes n ≡ None = nobody (first_of nodes n) (λ c f. childless c (a.first n c f).0) in
    let is_alone : node_at nodes n ≡ alone = λ i. record { parent = none i; previous = both.1 i; next = both.0 i; first = no_first i } in
    let same : (x : ℕ) → node_at (take n nodes) x ≡ node_at nodes x = λ x.
    elim (cases_lt x n) [
      | inl h ↦ get_or-take n nodes x alone h
      | inr h ↦ elim (cases_eq x n) [
        | inl end ↦ get_or_past (take n nodes) x alone (omega (arith, l, h)) ∙ sym (ap (λ v. node_at nodes v) end ∙ is_alone)
        | inr past ↦ get_or_past (take n nodes) x alone (omega (arith, l, h)) ∙ sym (get_or_past nodes x alone (omega (arith, e, h, past)))
      ]
    ] in
    let few = a.few in
    chained-same nodes (take n nodes) a (omega (arith, few, l, e)) same
    (λ c p h.
    let w = a.within c p h in
    let not : p ≢ n = λ is. childless c (h ∙ ap Some is) in omega (arith, w, l, e, not))
  where
    nobody : (o : Option ℕ) → ((c : ℕ) → o ≡ Some c → ⊥) → o ≡ None
    nobody None h = refl
    nobody (Some c) h = absurd (h c refl)

-- no animals
pub chained-empty : AreChained []
chained-empty = record {
  few = omega arith;
  seniority = λ c. 0;
  top = 1;
  below = λ c. omega arith;
  within = λ c p e. absurd (cc);
  first = λ p c e. absurd (cc);
  foremost = λ p c e n. absurd (cc);
  next = λ c d e. absurd (cc);
  previous = λ c d e. absurd (cc);
  single = λ c e. (refl, refl);
}

-- an animal with no calves has none either once its own parent is taken away
still_childless : (parents : List (Option ℕ)) (n : ℕ) → n < length parents → ((c : ℕ) → parent_at parents c ≡ Some n → ⊥) → (c : ℕ) → parent_at (slice_set parents n None) c ≡ Some n → ⊥
still_childless parents n here childless c e =
    ⊎_elim
    (λ (is : c ≡ n). let bad : None ≡ Some n = sym (get_or-set_same parents n None None here) ∙ subst (λ v. parent_at (slice_set parents n None) v ≡ Some n) is e in absurd (cc))
    (λ (other : c ≢ n). childless c (sym (get_or-set_other parents n c None None other) ∙ e))
    (cases_eq c n)

-- the last animal, once it has no parent, is taken away where it has no calves
pub popped : (nodes : List ChainNode) (parents : List (Option ℕ)) → AreChained nodes → (n : ℕ) → n + 1 ≡ length parents → parents_of nodes ≡ slice_set parents n None → ((c : ℕ) → parent_at parents c ≡ Some n → ⊥) →
    AreChained (take n nodes) × (parents_of (take n nodes) ≡ take n parents)
popped nodes parents a n last same childless =
    let here : n < length parents = omega (arith, last) in
    let kept = ap (λ ps. length ps) same in
    let written = length-set parents n None in
    let mapped = length-map nodes (λ (node : ChainNode). node.parent) in
    let none : parent_of nodes n ≡ None = sym (parents-seen nodes n) ∙ ap (λ ps. parent_at ps n) same ∙ get_or-set_same parents n None None here in (
      chained-pop nodes a n (omega (arith, kept, written, mapped, last)) none (λ c e. still_childless parents n here childless c (sym (ap (λ ps. parent_at ps c) same) ∙ parents-seen nodes c ∙ e)),
      sym (take-map (λ (node : ChainNode). node.parent) n nodes) ∙ ap (λ ps. take n ps) same ∙ take-set parents n None here,
    )
