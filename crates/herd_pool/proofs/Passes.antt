-- Each step of the pool keeps the rule.
use Rattle.std.proofs.Common.{◌≡◌, ◌≢◌, ◌==◌, ℕ, zero, suc, ◌+◌, ◌-◌, ◌<◌, ◌≤◌, ◌⊎◌, Bool, cond, List, [], ◌∷◌, ◌++◌, set, sym, refl, ap, ◌∙◌, subst, ⊎_elim, arith}
use Rattle.std.specs.List.{count_by}
use Rattle.std.proofs.lemmas.Bool.Decides.{nat_tests}
use Rattle.std.proofs.lemmas.List.{map-append}
use Rattle.std.proofs.lemmas.List.Sums.{sum_by-append}
use mathlib.Core.Option.{some, some-injective, some-ne-none}
use lib.ListN.{get_elem?}
use Rattle.crossbeam_deque.proofs.Lists.{at_set, at_snoc}
use Rattle.crossbeam_deque.specs.Tasks.{Pushes, Takes, Finds, Forks, Merges}
use Rattle.herd_pool.specs.declared.queue.PassView.{PassView}
use Rattle.herd_pool.specs.declared.work.ComputedBlock.{ComputedBlock}
use Rattle.herd_pool.specs.Blocks.{pass_view, once_below, total, EachOnce}
use Rattle.herd_pool.specs.Workers.{numbers}

-- what is counted in two lists that are joined
count_by-append : {X : Type 0} (test : X → Bool) (xs ys : List X) → count_by test (xs ++ ys) ≡ count_by test xs + count_by test ys
count_by-append test xs ys = sum_by-append (λ x. cond (test x) 1 0) xs ys

once_below-more : (x n : ℕ) → once_below x (n + 1) ≡ once_below x n + count_by (λ n. n == x) (n ∷ [])
once_below-more x n = grind (arith, nat_tests)

total-append : (f : PassView → ℕ) (vs ws : List PassView) → total f (vs ++ ws) ≡ total f vs + total f ws
total-append f [] ws = omega arith
total-append f (v ∷ vs) ws = let e = total-append f vs ws in omega arith

-- the total after one view has changed
total_set : (f : PassView → ℕ) (views : List PassView) (port : ℕ) (v w : PassView) → get_elem? views port ≡ some v → total f (set views port w) + f v ≡ total f views + f w
total_set f [] port v w at = absurd (some-ne-none v (sym at))
total_set f (u ∷ us) zero v w at = let e : f u ≡ f v = ap f (some-injective u v at) in omega arith
total_set f (u ∷ us) (suc port) v w at = let e = total_set f us port v w at in omega arith

total-none : (f : PassView → ℕ) (vs : List PassView) → ((port : ℕ) (v : PassView) → get_elem? vs port ≡ some v → f v ≡ 0) → total f vs ≡ 0
total-none f [] none = refl
total-none f (v ∷ vs) none =
    let here = none 0 v refl in let rest = total-none f vs (λ port u at. none (suc port) u at) in omega arith

-- one of the views counts no more than all
total-at : (f : PassView → ℕ) (vs : List PassView) (port : ℕ) (v : PassView) → get_elem? vs port ≡ some v → f v ≤ total f vs
total-at f [] port v at = absurd (some-ne-none v (sym at))
total-at f (u ∷ us) zero v at = let e : f u ≡ f v = ap f (some-injective u v at) in omega arith
total-at f (u ∷ us) (suc port) v at = let e = total-at f us port v at in omega arith

-- a spent view has taken nothing
abbrev SpentIsEmpty : List PassView → Type 0
SpentIsEmpty views = (port : ℕ) (v : PassView) → get_elem? views port ≡ some v → v.out ≡ 0 → v.taken ≡ []

spent_set : (views : List PassView) (port : ℕ) (w : PassView) → (w.out ≡ 0 → w.taken ≡ []) → SpentIsEmpty views → SpentIsEmpty (set views port w)
spent_set views port w mine all j u at none =
    ⊎_elim (λ (x : (j ≡ port) × (w ≡ u)). ap (λ (y : PassView). y.taken) (sym x.1) ∙ mine (ap (λ (y : PassView). y.out) x.1 ∙ none))
    (λ (x : (j ≢ port) × (get_elem? views j ≡ some u)). all j u x.1 none) (at_set views port j w u at)

-- the view that the starter has is the first
starter_first : (v s : PassView) (items : List ℕ) (others : List PassView) → some s ≡ some v → EachOnce items (s ∷ others) → EachOnce items (v ∷ others)
starter_first v s items others at rule = subst (λ u. EachOnce items (u ∷ others)) (some-injective s v at) rule

pushes_first : (v : PassView) (block : ℕ) → block ≡ v.pushed → Pushes EachOnce 0 v (block ∷ []) (λ w. w ≡ pass_view v.out (v.pushed + 1) v.taken)
pushes_first v block next items [] rule at = absurd rule
pushes_first v block next items (s ∷ others) before at =
    let rule = starter_first v s items others at before in (
      pass_view v.out (v.pushed + 1) v.taken,
      (
        rule.0,
        (λ x.
            let b = rule.1 x in
            let n : count_by (λ n. n == x) (block ∷ []) ≡ count_by (λ n. n == x) (v.pushed ∷ []) = ap (λ y. count_by (λ n. n == x) (y ∷ [])) next in
            omega (arith, count_by-append (λ n. n == x) items (block ∷ []), once_below-more x v.pushed)),
        rule.2,
      ),
      refl,
    )

-- the starter pushes the next block
pub pushes : (port : ℕ) (v : PassView) (block : ℕ) → port ≡ 0 → block ≡ v.pushed → Pushes EachOnce port v (block ∷ []) (λ w. w ≡ pass_view v.out (v.pushed + 1) v.taken)
pushes port v block first next = subst (λ p. Pushes EachOnce p v (block ∷ []) (λ w. w ≡ pass_view v.out (v.pushed + 1) v.taken)) (sym first) (pushes_first v block next)

-- the starter, or a worker whose pass is out, takes a block
pub takes : (port : ℕ) (v : PassView) → (port ≡ 0) ⊎ (0 < v.out) → Takes EachOnce port v 1 (λ xs w. w ≡ pass_view v.out v.pushed (v.taken ++ xs))
takes port v may xs items [] some_task one rule at = absurd rule
takes zero v may xs items (s ∷ others) some_task one before at =
    let rule = starter_first v s (xs ++ items) others at before in (
      pass_view v.out v.pushed (v.taken ++ xs),
      (
        rule.0,
        (λ x.
            let b = rule.1 x in
            omega (arith, count_by-append (λ n. n == x) xs items, count_by-append (λ n. n == x) v.taken xs)),
        rule.2,
      ),
      refl,
    )
takes (suc port) v may xs items (s ∷ others) some_task one rule at =
    let w = pass_view v.out v.pushed (v.taken ++ xs) in
    let is_out : 0 < v.out = ⊎_elim (λ (z : suc port ≡ 0). absurd (omega arith)) (λ (h : 0 < v.out). h) may in (
      w,
      (
        (let t = total_set (λ u. u.out) others port v w at in let r = rule.0 in omega arith),
        (λ x.
            let b = rule.1 x in
            let t = total_set (λ u. count_by (λ n. n == x) u.taken) others port v w at in
            omega (arith, count_by-append (λ n. n == x) xs items, count_by-append (λ n. n == x) v.taken xs)),
        spent_set others port w (λ none. absurd (omega arith)) rule.2,
      ),
      refl,
    )

finds_first : (v : PassView) → Finds EachOnce 0 v (v.out ≡ 0 → (x : ℕ) → count_by (λ n. n == x) v.taken ≡ once_below x v.pushed)
finds_first v [] rule at = absurd rule
finds_first v (s ∷ others) before at = λ all_back x.
    let rule = starter_first v s [] others at before in
    let b = rule.1 x in
    let none = total-none (λ u. count_by (λ n. n == x) u.taken) others (λ port u there.
    let o = total-at (λ y. y.out) others port u there in
    let r = rule.0 in
    let empty = rule.2 port u there (omega arith) in
    ap (count_by (λ n. n == x)) empty) in
    omega arith

-- where no pass is out and the queue is empty, the starter has taken each block once
pub finds : (port : ℕ) (v : PassView) → port ≡ 0 → Finds EachOnce port v (v.out ≡ 0 → (x : ℕ) → count_by (λ n. n == x) v.taken ≡ once_below x v.pushed)
finds port v first = subst (λ p. Finds EachOnce p v (v.out ≡ 0 → (x : ℕ) → count_by (λ n. n == x) v.taken ≡ once_below x v.pushed)) (sym first) (finds_first v)

forks_first : (v : PassView) → Forks EachOnce 0 v (pass_view (v.out + 1) v.pushed v.taken) (pass_view 1 0 [])
forks_first v items [] rule at = absurd rule
forks_first v items (s ∷ others) before at =
    let rule = starter_first v s items others at before in
    let right = pass_view 1 0 [] in (
      (let r = rule.0 in omega (arith, total-append (λ u. u.out) others (right ∷ []))),
      (λ x.
          let b = rule.1 x in
          omega (arith, total-append (λ u. count_by (λ n. n == x) u.taken) others (right ∷ []))),
      (λ j u there none. ⊎_elim (λ (old : get_elem? others j ≡ some u). rule.2 j u old none)
          (λ (is : right ≡ u). ap (λ (y : PassView). y.taken) (sym is)) (at_snoc others right u j there)),
    )

-- a pass goes out
pub forks : (port : ℕ) (v : PassView) → port ≡ 0 → Forks EachOnce port v (pass_view (v.out + 1) v.pushed v.taken) (pass_view 1 0 [])
forks port v first = subst (λ p. Forks EachOnce p v (pass_view (v.out + 1) v.pushed v.taken) (pass_view 1 0 [])) (sym first) (forks_first v)

merges_first : (v : PassView) (other : ℕ) (w : PassView) → w.out ≡ 1 → Merges EachOnce 0 v other w (pass_view (v.out - 1) v.pushed (v.taken ++ w.taken)) (pass_view 0 0 [])
merges_first v other w one items [] rule at two there = absurd rule
merges_first v zero w one items (s ∷ others) rule at two there = absurd (two refl)
merges_first v (suc other) w one items (s ∷ others) before at two there =
    let rule = starter_first v s items others at before in
    let spent = pass_view 0 0 [] in (
      (let r = rule.0 in let t = total_set (λ u. u.out) others other w spent there in omega arith),
      (λ x.
          let b = rule.1 x in
          let m = total_set (λ u. count_by (λ n. n == x) u.taken) others other w spent there in
          omega (arith, count_by-append (λ n. n == x) v.taken w.taken)),
      spent_set others other spent (λ none. refl) rule.2,
    )

-- a worker's pass comes back, and is spent
pub merges : (port : ℕ) (v : PassView) (other : ℕ) (w : PassView) → port ≡ 0 → w.out ≡ 1 → Merges EachOnce port v other w (pass_view (v.out - 1) v.pushed (v.taken ++ w.taken)) (pass_view 0 0 [])
merges port v other w first one = subst (λ p. Merges EachOnce p v other w (pass_view (v.out - 1) v.pushed (v.taken ++ w.taken)) (pass_view 0 0 [])) (sym first) (merges_first v other w one)

-- the starter's view, once it has taken a worker's over
pub absorbed : {O : Type 0} (n p : ℕ) (v w u : PassView) (xs ys all : List (ComputedBlock O)) → v ≡ pass_view n p (numbers xs) → w ≡ pass_view 1 0 (numbers ys) → u ≡ pass_view (v.out - 1) v.pushed (v.taken ++ w.taken) → all ≡ xs ++ ys → u ≡ pass_view (n - 1) p (numbers all)
absorbed {O = O} n p v w u xs ys all is_v is_w is_u joined =
    is_u
    ∙ ap (λ (x : PassView). pass_view (x.out - 1) x.pushed (x.taken ++ w.taken)) is_v
    ∙ ap (λ (x : PassView). pass_view (n - 1) p (numbers xs ++ x.taken)) is_w
    ∙ ap (pass_view (n - 1) p) (sym (map-append (λ (block : ComputedBlock O). block.number) xs ys) ∙ ap numbers (sym joined))

-- one more block is taken and computed
pub one_more : {O : Type 0} (n p number : ℕ) (v u : PassView) (blocks more : List (ComputedBlock O)) → v ≡ pass_view n p (numbers blocks) → u ≡ pass_view v.out v.pushed (v.taken ++ number ∷ []) → numbers more ≡ numbers blocks ++ number ∷ [] → u ≡ pass_view n p (numbers more)
one_more n p number v u blocks more is_v is_u is =
    is_u ∙ ap (λ (x : PassView). pass_view x.out x.pushed (x.taken ++ number ∷ [])) is_v ∙ ap (pass_view n p) (sym is)

-- what the starter knows at the end, where a pop finds nothing
pub all_taken : (v : PassView) (out pushed : ℕ) (taken : List ℕ) → v ≡ pass_view out pushed taken → (v.out ≡ 0 → (x : ℕ) → count_by (λ n. n == x) v.taken ≡ once_below x v.pushed) → out ≡ 0 → (x : ℕ) → count_by (λ n. n == x) taken ≡ once_below x pushed
all_taken v out pushed taken is once none x =
    let all = once (ap (λ (h : PassView). h.out) is ∙ none) x in
    let t : count_by (λ n. n == x) v.taken ≡ count_by (λ n. n == x) taken = ap (λ (h : PassView). count_by (λ n. n == x) h.taken) is in
    let p : once_below x v.pushed ≡ once_below x pushed = ap (λ (h : PassView). once_below x h.pushed) is in
    sym t ∙ all ∙ p
