-- Keys that are sorted by their birth days, and then each day by itself.
use Rattle.std.proofs.Common.{ℕ, ◌+◌, ◌-◌, ◌<◌, ◌≤◌, ◌≡◌, ◌≢◌, ⊎_elim, false, All, arith, refl, sym, ap, ◌∙◌, subst, List, ◌++◌, length, get_or, take, drop}
use Rattle.std.specs.Prelude.{ℤ, ◌<ℤ◌, IsPermutation, IsSorted}
use Rattle.std.specs.declared.cmp.Ordering.{Ordering}
use Rattle.std.specs.declared.cmp.Ordering.TheVariants.{Less, Equal, Greater}
use Rattle.std.specs.List.Sorted.{IsSortedBy, IsSortedWithin}
use Rattle.std.specs.Ordering.{MatchOrdering, int_cmp, is_lt, ordering_then}
use Rattle.std.proofs.lemmas.Bool.{cases_lt}
use Rattle.std.proofs.lemmas.Cmp.{int_ranked}
use Rattle.std.proofs.lemmas.List.{get_or-append_right, get_or_append_left, get_or-drop, get_or-take, length-drop, length-take-le}
use Rattle.std.proofs.lemmas.List.Sorted.{All-permutation, IsPermutation-put_mid, IsPermutation-refl, IsPermutation-trans, length_permutation}
use borrow.Rule.Slice.PartMut.{mid_of, post_of, put_mid}
use Rattle.herd_frozen.specs.declared.freezing.age_order.AgeKey.{AgeKey}
use Rattle.herd_frozen.specs.freezing.AgeOrder.{IsDayEnd}
use Rattle.herd_frozen.specs.freezing.Freeze.{key_cmp}

module _ {X : Type 0} (xs ys : List X) (a n : ℕ) (within : a + n ≤ length xs) (long : length ys ≡ n) where
  front : length (take a xs) ≡ a
  front = length-take-le a xs (omega arith)

  before-at : (i : ℕ) (d : X) → i < a → get_or (put_mid a n xs ys) i d ≡ get_or xs i d
  before-at i d low =
      get_or_append_left (take a xs) (ys ++ post_of a n xs) d i (omega (arith, front, low))
      ∙ get_or-take a xs i d low

  part-at : (i : ℕ) (d : X) → a ≤ i → i < a + n → get_or (put_mid a n xs ys) i d ≡ get_or ys (i - a) d
  part-at i d low high =
      get_or-append_right (take a xs) (ys ++ post_of a n xs) a i d front low
      ∙ get_or_append_left ys (post_of a n xs) d (i - a) (omega (arith, long, low, high))

  past-at : (i : ℕ) (d : X) → a + n ≤ i → get_or (put_mid a n xs ys) i d ≡ get_or xs i d
  past-at i d high =
      get_or-append_right (take a xs) (ys ++ post_of a n xs) a i d front (omega arith)
      ∙ get_or-append_right ys (post_of a n xs) n (i - a) d long (omega arith)
      ∙ get_or-drop n (drop a xs) (i - a - n) d
      ∙ get_or-drop a xs (n + (i - a - n)) d
      ∙ ap (λ j. get_or xs j d) (omega (arith, high))

-- the keys are those that were there, each day before a place is sorted, and the others are as they were
pub record IsSortedByDay (old keys : List AgeKey) (from : ℕ) : Type 0 where
  pub within : from ≤ length keys
  pub same : IsPermutation old keys
  pub births : (i : ℕ) (d : AgeKey) → (get_or keys i d).birth ≡ (get_or old i d).birth
  pub sorted : IsSortedWithin (λ (x y : AgeKey). is_lt (key_cmp x y)) keys 0 from
  pub apart : (i : ℕ) (d : AgeKey) → i + 1 ≡ from → from < length keys → (get_or keys (i + 1) d).birth ≢ (get_or keys i d).birth

pub by_day-start : (old : List AgeKey) → IsSortedByDay old old 0
by_day-start old = record {
  within = omega arith;
  same = IsPermutation-refl old;
  births = λ i d. refl;
  sorted = λ k d low high. absurd (omega (arith, high));
  apart = λ i d is. absurd (omega (arith, is));
}

pub by_day-end : (old keys : List AgeKey) (from : ℕ) → IsSortedByDay old keys from → length keys ≤ from → IsSorted key_cmp keys
by_day-end old keys from by past k d low high = by.sorted k d low (omega (arith, past, high))

-- another day that isn't earlier is later
later : (first rest : Ordering) → is_lt first ≡ false → first ≢ Equal → is_lt (ordering_then first rest) ≡ false
later Less rest low other = low
later Equal rest low other = absurd (other refl)
later Greater rest low other = refl

days_equal : (x y : ℤ) → int_cmp x y ≡ Equal → x ≡ y
days_equal x y is = subst (λ (o : Ordering). MatchOrdering o (x <ℤ y) (x ≡ y) (y <ℤ x)) is (int_ranked x y (int_cmp x y) refl)

later-day : (x y : AgeKey) → is_lt (int_cmp x.birth y.birth) ≡ false → x.birth ≢ y.birth → is_lt (key_cmp x y) ≡ false
later-day x y low other = later (int_cmp x.birth y.birth) _ low (λ is. other (days_equal x.birth y.birth is))

module _ (old keys ys : List AgeKey) (from end : ℕ) (by : IsSortedByDay old keys from) (day : IsDayEnd keys from end)
    (same : IsPermutation (mid_of from (end - from) keys) ys) where
  whole : from + (end - from) ≤ length keys
  whole = let a = day.within in let b = day.later in omega (arith, a, b)

  mid-long : length (mid_of from (end - from) keys) ≡ (end - from)
  mid-long = length-take-le (end - from) (drop from keys) (omega (arith, length-drop from keys, whole))

  long : length ys ≡ (end - from)
  long = length_permutation (mid_of from (end - from) keys) ys same ∙ mid-long

  mid-at : (j : ℕ) (d : AgeKey) → j < (end - from) → get_or (mid_of from (end - from) keys) j d ≡ get_or keys (from + j) d
  mid-at j d low = get_or-take (end - from) (drop from keys) j d low ∙ get_or-drop from keys j d

  one-day : (e : AgeKey) → All (λ (x : AgeKey). x.birth ≡ (get_or keys from e).birth) (mid_of from (end - from) keys)
  one-day e = λ k d low.
      let b = day.later in
      ap (λ (x : AgeKey). x.birth) (mid-at k d (omega (arith, low, mid-long)))
      ∙ day.same (from + k) d e (omega arith) (omega (arith, low, mid-long, b))

  births-same : (i : ℕ) (d : AgeKey) → (get_or (put_mid from (end - from) keys ys) i d).birth ≡ (get_or keys i d).birth
  births-same i d =
      ⊎_elim
      (λ (low : i < from). ap (λ (x : AgeKey). x.birth) (before-at keys ys from (end - from) whole long i d low))
      (λ (high : from ≤ i).
      ⊎_elim
      (λ (low : i < from + (end - from)).
      let b = day.later in
      ap (λ (x : AgeKey). x.birth) (part-at keys ys from (end - from) whole long i d high low)
      ∙ All-permutation (λ (x : AgeKey). x.birth ≡ (get_or keys from d).birth) (mid_of from (end - from) keys) ys same (one-day d) (i - from) d (omega (arith, long, low, high))
      ∙ sym (day.same i d d high (omega (arith, low, b))))
      (λ (past : from + (end - from) ≤ i). ap (λ (x : AgeKey). x.birth) (past-at keys ys from (end - from) whole long i d past))
      (cases_lt i (from + (end - from))))
      (cases_lt i from)

  pub by_day-more : IsSortedBy (λ (x y : AgeKey). is_lt (int_cmp x.birth y.birth)) old → IsSorted key_cmp ys → IsSortedByDay old (put_mid from (end - from) keys ys) end
  by_day-more by_birth sorted = record {
    within = let a = day.within in omega (arith, a, length-new);
    same = IsPermutation-trans old keys new by.same moved;
    births = λ i d. births-same i d ∙ by.births i d;
    sorted = λ k d low high.
        ⊎_elim
        (λ (before : k + 1 < from).
        rw (before-at keys ys from (end - from) whole long (k + 1) d before, before-at keys ys from (end - from) whole long k d (omega (arith, before))) (by.sorted k d low before))
        (λ (after : from ≤ k + 1).
        ⊎_elim
        (λ (edge : k < from).
        let at : k + 1 ≡ from = omega (arith, after, edge) in
        let more = day.later in
        let in_all = day.within in
        let far : from < length keys = omega (arith, more, in_all) in
        let other = by.apart k d at far in
        let low_birth : is_lt (int_cmp (get_or old (k + 1) d).birth (get_or old k d).birth) ≡ false = by_birth k d low (omega (arith, length_permutation old keys by.same, at, far)) in
        later-day (get_or new (k + 1) d) (get_or new k d)
        (rw (births-same (k + 1) d ∙ by.births (k + 1) d, births-same k d ∙ by.births k d) low_birth)
        (λ is. other (sym (births-same (k + 1) d) ∙ is ∙ births-same k d)))
        (λ (inside : from ≤ k).
        let more = day.later in
        let step : k + 1 - from ≡ (k - from) + 1 = omega (arith, inside) in
        rw (
          part-at keys ys from (end - from) whole long (k + 1) d after (omega (arith, high, more)) ∙ ap (λ j. get_or ys j d) step,
          part-at keys ys from (end - from) whole long k d inside (omega (arith, high, more)),
        )
        (sorted (k - from) d (omega arith) (omega (arith, long, high, inside, more))))
        (cases_lt k from))
        (cases_lt (k + 1) from);
    apart = λ i d is far.
        λ same_day. day.apart i d is (omega (arith, far, length-new)) (sym (births-same (i + 1) d) ∙ same_day ∙ births-same i d);
  } where
    new : List AgeKey
    new = put_mid from (end - from) keys ys

    moved : IsPermutation keys new
    moved = IsPermutation-put_mid from (end - from) keys ys same

    length-new : length new ≡ length keys
    length-new = length_permutation keys new moved
