-- The chains of calves once an animal parts from its siblings.
use Rattle.std.proofs.Common.{ℕ, ◌<◌, ◌^◌, ◌≡◌, ◌≢◌, ◌⊎◌, inl, inr, arith, refl, sym, ap, ◌∙◌, subst, List, Option, Some, None, length}
use Rattle.std.proofs.lemmas.Bool.{cases_eq}
use Rattle.std.proofs.lemmas.Option.{same_Some}
use Rattle.herd_frozen.proofs.lemmas.ListFacts.{option_cases}
use Rattle.herd_pedigree.specs.declared.store.progeny.ChainNode.{ChainNode}
use Rattle.herd_pedigree.specs.store.Calves.{AreChained, Show, node_at, first_of, next_of, parent_of, previous_of, put}
use Rattle.herd_pedigree.proofs.lemmas.store.ProgenyFacts.{chained-same, everywhere, is_place, put_at, put_is, put_isnt, put_off}

-- the place before which a calf stands first, where it does
pub record IsLedBy (nodes : List ChainNode) (c p : ℕ) (o : Option ℕ) : Type 0 where
  pub first : previous_of nodes c ≡ None → o ≡ Some p
  pub later : (q : ℕ) → previous_of nodes c ≡ Some q → o ≡ None

-- an animal loses its parent: its neighbours stand beside each other
module _ (old new : List ChainNode) (a : AreChained old) (c p : ℕ) (has : parent_of old c ≡ Some p) (o : Option ℕ) (led : IsLedBy old c p o)
    (s : Show new (length old) (put (Some c) None (parent_of old)) (put (Some c) None (put (next_of old c) (previous_of old c) (previous_of old))) (put (Some c) None (put (previous_of old c) (next_of old c) (next_of old))) (put o (next_of old c) (first_of old))) where
  gone : parent_of new c ≡ None
  gone = s.parents c ∙ put_at c None (parent_of old)

  other_than : (x q : ℕ) → parent_of new x ≡ Some q → x ≢ c
  other_than x q e is = let bad : None ≡ Some q = sym gone ∙ ap (λ v. parent_of new v) (sym is) ∙ e in absurd (cc)

  kept : (x : ℕ) → x ≢ c → parent_of new x ≡ parent_of old x
  kept x n = s.parents x ∙ put_off c None (parent_of old) x n

  before_c : previous_of new c ≡ None
  before_c = s.before c ∙ put_at c None (put (next_of old c) (previous_of old c) (previous_of old))

  after_c : next_of new c ≡ None
  after_c = s.after c ∙ put_at c None (put (previous_of old c) (next_of old c) (next_of old))

  before_off : (x : ℕ) → x ≢ c → previous_of new x ≡ put (next_of old c) (previous_of old c) (previous_of old) x
  before_off x n = s.before x ∙ put_off c None (put (next_of old c) (previous_of old c) (previous_of old)) x n

  after_off : (x : ℕ) → x ≢ c → next_of new x ≡ put (previous_of old c) (next_of old c) (next_of old) x
  after_off x n = s.after x ∙ put_off c None (put (previous_of old c) (next_of old c) (next_of old)) x n

  before_is : (x : ℕ) → x ≢ c → next_of old c ≡ Some x → previous_of new x ≡ previous_of old c
  before_is x n e = before_off x n ∙ put_is (next_of old c) (previous_of old c) (previous_of old) x e

  before_kept : (x : ℕ) → x ≢ c → next_of old c ≢ Some x → previous_of new x ≡ previous_of old x
  before_kept x n not = before_off x n ∙ put_isnt (next_of old c) (previous_of old c) (previous_of old) x not

  after_is : (x : ℕ) → x ≢ c → previous_of old c ≡ Some x → next_of new x ≡ next_of old c
  after_is x n e = after_off x n ∙ put_is (previous_of old c) (next_of old c) (next_of old) x e

  after_kept : (x : ℕ) → x ≢ c → previous_of old c ≢ Some x → next_of new x ≡ next_of old x
  after_kept x n not = after_off x n ∙ put_isnt (previous_of old c) (next_of old c) (next_of old) x not

  -- the neighbours are others
  next_other : (x : ℕ) → next_of old c ≡ Some x → x ≢ c
  next_other x e is = let r = (a.next c x e).1.1 in let same = ap (λ v. a.seniority v) is in absurd (omega (arith, r, same))

  previous_other : (x : ℕ) → previous_of old c ≡ Some x → x ≢ c
  previous_other x e is = let r = (a.next x c (a.previous x c e)).1.1 in let same = ap (λ v. a.seniority v) is in absurd (omega (arith, r, same))

  -- it led its siblings, or stood behind one
  leads : ((previous_of old c ≡ None) × (o ≡ Some p)) ⊎ ((previous_of old c ≢ None) × (o ≡ None))
  leads = by (previous_of old c) refl
    where
      by : (q : Option ℕ) → previous_of old c ≡ q → ((previous_of old c ≡ None) × (o ≡ Some p)) ⊎ ((previous_of old c ≢ None) × (o ≡ None))
      by None e = inl (e, led.first e)
      by (Some q) e = inr (λ n. let bad : None ≡ Some q = sym n ∙ e in absurd (cc), led.later q e)

  within_from : (x q : ℕ) → parent_of new x ≡ Some q → q < length new
  within_from x q e = let n = s.long in let w = a.within x q (sym (kept x (other_than x q e)) ∙ e) in omega (arith, w, n)

  first_kept : (q : ℕ) → o ≢ Some q → first_of new q ≡ first_of old q
  first_kept q n = s.firsts q ∙ put_isnt o (next_of old c) (first_of old) q n

  first_is : (q : ℕ) → o ≡ Some q → first_of new q ≡ next_of old c
  first_is q e = s.firsts q ∙ put_is o (next_of old c) (first_of old) q e

  first_from : (q x : ℕ) → first_of new q ≡ Some x → (parent_of new x ≡ Some q) × (previous_of new x ≡ None)
  first_from q x e = elim (is_place o q) [
    | inl is ↦
        let follows : next_of old c ≡ Some x = sym (first_is q is) ∙ e in
        let was = a.next c x follows in
        let other = next_other x follows in
        elim leads [
          | inl l ↦ (kept x other ∙ was.1.0 ∙ has ∙ sym l.1 ∙ is, before_is x other follows ∙ l.0)
          | inr l ↦ let bad : None ≡ Some q = sym l.1 ∙ is in absurd (cc)
        ]
    | inr not ↦
        let was = a.first q x (sym (first_kept q not) ∙ e) in
        let other : x ≢ c = λ is.
        let none : previous_of old c ≡ None = ap (λ v. previous_of old v) (sym is) ∙ was.1 in
        not (led.first none ∙ sym has ∙ ap (λ v. parent_of old v) (sym is) ∙ was.0) in
        let not_next : next_of old c ≢ Some x = λ f. let bad : None ≡ Some c = sym was.1 ∙ (a.next c x f).0 in absurd (cc) in
        (kept x other ∙ was.0, before_kept x other not_next ∙ was.1)
  ]

  foremost_from : (q x : ℕ) → parent_of new x ≡ Some q → previous_of new x ≡ None → first_of new q ≡ Some x
  foremost_from q x e none =
      let other = other_than x q e in
      let was : parent_of old x ≡ Some q = sym (kept x other) ∙ e in
      elim (is_place (next_of old c) x) [
        | inl follows ↦
            let same : p ≡ q = same_Some _ _ (sym has ∙ sym (a.next c x follows).1.0 ∙ was) in
            let l : o ≡ Some p = led.first (sym (before_is x other follows) ∙ none) in
            first_is q (l ∙ ap Some same) ∙ follows
        | inr not ↦
            let leading = a.foremost q x was (sym (before_kept x other not) ∙ none) in
            elim (is_place o q) [
              | inl is ↦ elim leads [
                | inl l ↦
                    let same : p ≡ q = same_Some _ _ (sym l.1 ∙ is) in
                    let itself : c ≡ x = same_Some _ _ (sym (a.foremost p c has l.0) ∙ ap (λ v. first_of old v) same ∙ leading) in absurd (other (sym itself))
                | inr l ↦ let bad : None ≡ Some q = sym l.1 ∙ is in absurd (cc)
              ]
              | inr off ↦ first_kept q off ∙ leading
            ]
      ]

  next_from : (x y : ℕ) → next_of new x ≡ Some y → (previous_of new y ≡ Some x) × ((parent_of new y ≡ parent_of new x) × (a.seniority y < a.seniority x))
  next_from x y e =
      let other : x ≢ c = λ is. let bad : None ≡ Some y = sym after_c ∙ ap (λ v. next_of new v) (sym is) ∙ e in absurd (cc) in
      elim (is_place (previous_of old c) x) [
        | inl precedes ↦
            let follows : next_of old c ≡ Some y = sym (after_is x other precedes) ∙ e in
            let up = a.next x c (a.previous x c precedes) in
            let down = a.next c y follows in
            let far = next_other y follows in
            let r = up.1.1 in
            let t = down.1.1 in
            (before_is y far follows ∙ precedes, (kept y far ∙ down.1.0 ∙ up.1.0 ∙ sym (kept x other), omega (arith, r, t)))
        | inr not ↦
            let was = a.next x y (sym (after_kept x other not) ∙ e) in
            let far : y ≢ c = λ is. not (ap (λ v. previous_of old v) (sym is) ∙ was.0) in
            let apart : next_of old c ≢ Some y = λ f. other (same_Some _ _ (sym was.0 ∙ (a.next c y f).0)) in
            (before_kept y far apart ∙ was.0, (kept y far ∙ was.1.0 ∙ sym (kept x other), was.1.1))
      ]

  previous_from : (x y : ℕ) → previous_of new y ≡ Some x → next_of new x ≡ Some y
  previous_from x y e =
      let far : y ≢ c = λ is. let bad : None ≡ Some x = sym before_c ∙ ap (λ v. previous_of new v) (sym is) ∙ e in absurd (cc) in
      elim (is_place (next_of old c) y) [
        | inl follows ↦
            let precedes : previous_of old c ≡ Some x = sym (before_is y far follows) ∙ e in
            after_is x (previous_other x precedes) precedes ∙ follows
        | inr not ↦
            let was = a.previous x y (sym (before_kept y far not) ∙ e) in
            let other : x ≢ c = λ is. not (ap (λ v. next_of old v) (sym is) ∙ was) in
            let apart : previous_of old c ≢ Some x = λ f. far (same_Some _ _ (sym was ∙ a.previous x c f)) in
            after_kept x other apart ∙ was
      ]

  single_from : (x : ℕ) → parent_of new x ≡ None → (next_of new x ≡ None) × (previous_of new x ≡ None)
  single_from x e = elim (cases_eq x c) [
    | inl same ↦ (ap (λ v. next_of new v) same ∙ after_c, ap (λ v. previous_of new v) same ∙ before_c)
    | inr other ↦
        let both = a.single x (sym (kept x other) ∙ e) in
        let not_before : previous_of old c ≢ Some x = λ f. let bad : None ≡ Some c = sym both.0 ∙ a.previous x c f in absurd (cc) in
        let not_behind : next_of old c ≢ Some x = λ f. let bad : None ≡ Some c = sym both.1 ∙ (a.next c x f).0 in absurd (cc) in
        (after_kept x other not_before ∙ both.0, before_kept x other not_behind ∙ both.1)
  ]

  pub chained-part-some : AreChained new
  chained-part-some = record { few = subst (λ n. n < 2 ^ 32) (sym s.long) a.few; seniority = a.seniority; top = a.top; below = a.below; within = within_from; first = first_from; foremost = foremost_from; next = next_from; previous = previous_from; single = single_from }

-- the six that part it from its siblings
pub parted : (old l1 l2 l3 l4 l5 new : List ChainNode) (c : ℕ) (own none o next previous : Option ℕ) → own ≡ Some c → none ≡ None → next ≡ next_of old c → previous ≡ previous_of old c →
    Show l1 (length old) (parent_of old) (previous_of old) (next_of old) (put o next (first_of old)) →
    Show l2 (length l1) (parent_of l1) (previous_of l1) (put previous next (next_of l1)) (first_of l1) →
    Show l3 (length l2) (parent_of l2) (put next previous (previous_of l2)) (next_of l2) (first_of l2) →
    Show l4 (length l3) (parent_of l3) (previous_of l3) (put own none (next_of l3)) (first_of l3) →
    Show l5 (length l4) (parent_of l4) (put own none (previous_of l4)) (next_of l4) (first_of l4) →
    Show new (length l5) (put (Some c) none (parent_of l5)) (previous_of l5) (next_of l5) (first_of l5) →
    Show new (length old) (put (Some c) None (parent_of old)) (put (Some c) None (put (next_of old c) (previous_of old c) (previous_of old))) (put (Some c) None (put (previous_of old c) (next_of old c) (next_of old))) (put o (next_of old c) (first_of old))
parted old l1 l2 l3 l4 l5 new c own none o next previous is_own is_none is_next is_previous s t u v w z =
    let written : (f : ℕ → Option ℕ) → put own none f ≡ put (Some c) None f = λ f. ap (λ q. put q none f) is_own ∙ ap (λ q. put (Some c) q f) is_none in
    let around : (f : ℕ → Option ℕ) → put next previous f ≡ put (next_of old c) (previous_of old c) f = λ f. ap (λ q. put q previous f) is_next ∙ ap (λ q. put (next_of old c) q f) is_previous in
    let across : (f : ℕ → Option ℕ) → put previous next f ≡ put (previous_of old c) (next_of old c) f = λ f. ap (λ q. put q next f) is_previous ∙ ap (λ q. put (previous_of old c) q f) is_next in
    let parents = everywhere z.parents ∙ ap (λ f. put (Some c) none f) (everywhere w.parents ∙ everywhere v.parents ∙ everywhere u.parents ∙ everywhere t.parents ∙ everywhere s.parents) ∙ ap (λ q. put (Some c) q (parent_of old)) is_none in
    let before = everywhere z.before ∙ everywhere w.before ∙ ap (λ f. put own none f) (everywhere v.before ∙ everywhere u.before ∙ ap (λ f. put next previous f) (everywhere t.before ∙ everywhere s.before) ∙ around (previous_of old)) ∙ written (put (next_of old c) (previous_of old c) (previous_of old)) in
    let after = everywhere z.after ∙ everywhere w.after ∙ everywhere v.after ∙ ap (λ f. put own none f) (everywhere u.after ∙ everywhere t.after ∙ ap (λ f. put previous next f) (everywhere s.after) ∙ across (next_of old)) ∙ written (put (previous_of old c) (next_of old c) (next_of old)) in
    let firsts = everywhere z.firsts ∙ everywhere w.firsts ∙ everywhere v.firsts ∙ everywhere u.firsts ∙ everywhere t.firsts ∙ everywhere s.firsts ∙ ap (λ q. put o q (first_of old)) is_next in
    record {
      long = z.long ∙ w.long ∙ v.long ∙ u.long ∙ t.long ∙ s.long;
      parents = λ x. ap (λ f. f x) parents;
      before = λ x. ap (λ f. f x) before;
      after = λ x. ap (λ f. f x) after;
      firsts = λ x. ap (λ f. f x) firsts;
    }

-- a place that is shown to be none's, in a chain of nobody
module _ (nodes : List ChainNode) (a : AreChained nodes) (c : ℕ) where
  -- where it has no parent, all stays
  pub part-alone : (o : Option ℕ) (new : List ChainNode) → parent_of nodes c ≡ None → o ≡ None →
      Show new (length nodes) (put (Some c) None (parent_of nodes)) (put (Some c) None (put (next_of nodes c) (previous_of nodes c) (previous_of nodes))) (put (Some c) None (put (previous_of nodes c) (next_of nodes c) (next_of nodes))) (put o (next_of nodes c) (first_of nodes)) →
      (x : ℕ) → node_at new x ≡ node_at nodes x
  part-alone o new none off s x =
      let both = a.single c none in
      let no_next : (value : Option ℕ) (f : ℕ → Option ℕ) → put (next_of nodes c) value f x ≡ f x = λ value f. ap (λ q. put q value f x) both.0 in
      let no_previous : (value : Option ℕ) (f : ℕ → Option ℕ) → put (previous_of nodes c) value f x ≡ f x = λ value f. ap (λ q. put q value f x) both.1 in
      let first : first_of new x ≡ first_of nodes x = s.firsts x ∙ ap (λ q. put q (next_of nodes c) (first_of nodes) x) off in
      elim (cases_eq x c) [
        | inl same ↦
            let parent : parent_of new x ≡ parent_of nodes x = s.parents x ∙ put_is (Some c) None (parent_of nodes) x (ap Some (sym same)) ∙ sym (ap (λ v. parent_of nodes v) same ∙ none) in
            let previous : previous_of new x ≡ previous_of nodes x = s.before x ∙ put_is (Some c) None (put (next_of nodes c) (previous_of nodes c) (previous_of nodes)) x (ap Some (sym same)) ∙ sym (ap (λ v. previous_of nodes v) same ∙ both.1) in
            let next : next_of new x ≡ next_of nodes x = s.after x ∙ put_is (Some c) None (put (previous_of nodes c) (next_of nodes c) (next_of nodes)) x (ap Some (sym same)) ∙ sym (ap (λ v. next_of nodes v) same ∙ both.0) in
            λ i. record { parent = parent i; previous = previous i; next = next i; first = first i }
        | inr other ↦
            let parent : parent_of new x ≡ parent_of nodes x = s.parents x ∙ put_off c None (parent_of nodes) x other in
            let previous : previous_of new x ≡ previous_of nodes x = s.before x ∙ put_off c None (put (next_of nodes c) (previous_of nodes c) (previous_of nodes)) x other ∙ no_next (previous_of nodes c) (previous_of nodes) in
            let next : next_of new x ≡ next_of nodes x = s.after x ∙ put_off c None (put (previous_of nodes c) (next_of nodes c) (next_of nodes)) x other ∙ no_previous (next_of nodes c) (next_of nodes) in
            λ i. record { parent = parent i; previous = previous i; next = next i; first = first i }
      ]

-- the parent whose chain it leads is an animal
pub led-within : (nodes : List ChainNode) → AreChained nodes → (c : ℕ) (o : Option ℕ) → (previous_of nodes c ≡ None → o ≡ parent_of nodes c) → ((q : ℕ) → previous_of nodes c ≡ Some q → o ≡ None) → (p : ℕ) → o ≡ Some p → p < length nodes
led-within nodes a c o first later p e = elim (option_cases (previous_of nodes c)) [
  | inl none ↦ a.within c p (sym (first none) ∙ e)
  | inr some ↦ let bad : None ≡ Some p = sym (later some.0 some.1) ∙ e in absurd (cc)
]

-- whether it had a parent or not
pub chained-part : (old new : List ChainNode) → AreChained old → (c : ℕ) (o : Option ℕ) → (previous_of old c ≡ None → o ≡ parent_of old c) → ((q : ℕ) → previous_of old c ≡ Some q → o ≡ None) →
    Show new (length old) (put (Some c) None (parent_of old)) (put (Some c) None (put (next_of old c) (previous_of old c) (previous_of old))) (put (Some c) None (put (previous_of old c) (next_of old c) (next_of old))) (put o (next_of old c) (first_of old)) →
    AreChained new
chained-part old new a c o first later s = elim (option_cases (parent_of old c)) [
  | inl none ↦ chained-same old new a (subst (λ n. n < 2 ^ 32) (sym s.long) a.few) (part-alone old a c o new none (first (a.single c none).1 ∙ none) s) (λ x p e. let w = a.within x p e in let n = s.long in omega (arith, w, n))
  | inr some ↦ chained-part-some old new a c some.0 some.1 o (record { first = λ n. first n ∙ some.1; later = later }) s
]
