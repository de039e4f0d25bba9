-- An index of numbers grows rank by rank, and a bucket is followed down to its first rank.
use Rattle.std.proofs.Common.{ℕ, ◌+◌, ◌<◌, ◌≤◌, ◌≡◌, ◌≢◌, ⊎_elim, arith, sym, ap, ◌∙◌, subst, true, false, List, [], ◌∷◌, ◌++◌, Some, length, slice_get, set}
use Rattle.std.specs.Prelude.{slice_index}
use Rattle.std.specs.Str.{bytes_eq}
use Rattle.std.proofs.lemmas.Bool.{cases_lt, cases_eq}
use Rattle.std.proofs.lemmas.List.{length-set, get_or-set_same, get_or-set_other, get_or_push, get_or_append_left, length_push}
use Rattle.std.proofs.lemmas.Option.{same_Some, slice_get_within}
use Rattle.herd_frozen.specs.freezing.NumberIndex.{IsAfterLast, AreBucketed, bucket_of}
use Rattle.herd_frozen.proofs.lemmas.rules.BookFacts.{bytes_itself}

module _ (numbers : List (List ℕ)) (i : ℕ) (number : List ℕ) (at : slice_get numbers i ≡ Some number) where
  -- the last rank of its bucket
  after-this : IsAfterLast numbers (length numbers + 1) (i + 1) (bucket_of (length numbers + 1) number) (i + 1)
  after-this = record {
    within = omega arith;
    here = λ rank x e there.
        let same_rank : rank ≡ i = omega (arith, e) in
        let same : x ≡ number = same_Some x number (sym there ∙ ap (λ p. slice_get numbers p) same_rank ∙ at) in
        ap (λ y. bucket_of (length numbers + 1) y) same;
    last = λ rank x before there same. before;
  }

  -- another bucket
  after-other : (bucket after : ℕ) → bucket ≢ bucket_of (length numbers + 1) number → IsAfterLast numbers (length numbers + 1) i bucket after → IsAfterLast numbers (length numbers + 1) (i + 1) bucket after
  after-other bucket after other old = record {
    within = let w = old.within in omega (arith, w);
    here = old.here;
    last = λ rank x before there same.
        ⊎_elim
        (λ (earlier : rank < i). old.last rank x earlier there same)
        (λ (late : i ≤ rank).
        let same_rank : rank ≡ i = omega (arith, before, late) in
        let is : x ≡ number = same_Some x number (sym there ∙ ap (λ p. slice_get numbers p) same_rank ∙ at) in
        absurd (other (sym same ∙ ap (λ y. bucket_of (length numbers + 1) y) is)))
        (cases_lt rank i);
  }

  -- one more rank
  pub index-more : (lasts earlier : List ℕ) (bucket : ℕ) → bucket ≡ bucket_of (length numbers + 1) number → bucket < length numbers + 1 → AreBucketed numbers i lasts earlier →
      AreBucketed numbers (i + 1) (set lasts bucket (i + 1)) (earlier ++ slice_index lasts bucket ∷ [])
  index-more lasts earlier bucket is within old = record {
    wide = length-set lasts bucket (i + 1) ∙ old.wide;
    long = length_push earlier (slice_index lasts bucket) ∙ ap (λ n. n + 1) old.long;
    lasts_are = λ b h.
        ⊎_elim
        (λ (e : b ≡ bucket).
        let in_lasts : bucket < length lasts = let w = old.wide in omega (arith, w, within) in
        let written : slice_index (set lasts bucket (i + 1)) b ≡ i + 1 = ap (λ p. slice_index (set lasts bucket (i + 1)) p) e ∙ get_or-set_same lasts bucket (i + 1) 0 in_lasts in
        rw (written, e, is) after-this)
        (λ (other : b ≢ bucket).
        let kept : slice_index (set lasts bucket (i + 1)) b ≡ slice_index lasts b = get_or-set_other lasts bucket b (i + 1) 0 other in
        rw kept (after-other b (slice_index lasts b) (λ e. other (e ∙ sym is)) (old.lasts_are b h)))
        (cases_eq b bucket);
    earlier_are = λ rank x before there.
        ⊎_elim
        (λ (low : rank < i).
        let in_earlier : rank < length earlier = let l = old.long in omega (arith, l, low) in
        let kept : slice_index (earlier ++ slice_index lasts bucket ∷ []) rank ≡ slice_index earlier rank = get_or_append_left earlier (slice_index lasts bucket ∷ []) 0 rank in_earlier in
        rw kept (old.earlier_are rank x low there))
        (λ (late : i ≤ rank).
        let same_rank : rank ≡ i = omega (arith, before, late) in
        let same : x ≡ number = same_Some x number (sym there ∙ ap (λ p. slice_get numbers p) same_rank ∙ at) in
        let pushed : slice_index (earlier ++ slice_index lasts bucket ∷ []) rank ≡ slice_index lasts bucket = get_or_push earlier (slice_index lasts bucket) 0 rank (old.long ∙ sym same_rank) in
        rw (pushed, same, same_rank, ← is) (old.lasts_are bucket within))
        (cases_lt rank i);
  }

-- all ranks of the number are before this one of its bucket
pub record IsFollowed (numbers : List (List ℕ)) (number : List ℕ) (after : ℕ) : Type 0 where
  pub within : after ≤ length numbers
  pub here : (rank : ℕ) (x : List ℕ) → after ≡ rank + 1 → slice_get numbers rank ≡ Some x → bucket_of (length numbers + 1) x ≡ bucket_of (length numbers + 1) number
  pub rest : (rank : ℕ) → slice_get numbers rank ≡ Some number → rank < after

module _ (numbers : List (List ℕ)) (n : ℕ) (all : n ≡ length numbers) (lasts earlier : List ℕ) (index : AreBucketed numbers n lasts earlier) (number : List ℕ) where
  pub follow-next : (after rank : ℕ) (x : List ℕ) → after ≡ rank + 1 → slice_get numbers rank ≡ Some x → x ≢ number → IsFollowed numbers number after → IsFollowed numbers number (slice_index earlier rank)
  follow-next after rank x e at other followed =
      let within = slice_get_within numbers rank x at in
      let next = index.earlier_are rank x (omega (arith, within, all)) at in
      let same = followed.here rank x e at in
      record {
        within = let w = next.within in omega (arith, w, within);
        here = λ q y f there. next.here q y f there ∙ same;
        rest = λ q there.
            let before = followed.rest q there in
            ⊎_elim
            (λ (low : q < rank). next.last q number low there (sym same))
            (λ (late : rank ≤ q).
            let same_rank : q ≡ rank = omega (arith, before, late, e) in
            absurd (other (same_Some x number (sym at ∙ ap (λ p. slice_get numbers p) (sym same_rank) ∙ there))))
            (cases_lt q rank);
      }

  -- the next one stands before it
  pub follow-smaller : (rank : ℕ) (x : List ℕ) → slice_get numbers rank ≡ Some x → slice_index earlier rank ≤ rank
  follow-smaller rank x at = let within = slice_get_within numbers rank x at in (index.earlier_are rank x (omega (arith, within, all)) at).within

-- numbers that compare unequal
pub apart : (x y : List ℕ) → bytes_eq x y ≡ false → x ≢ y
apart x y unequal same = let t : bytes_eq x y ≡ true = subst (λ v. bytes_eq v y ≡ true) (sym same) (bytes_itself y) in absurd (cc)
