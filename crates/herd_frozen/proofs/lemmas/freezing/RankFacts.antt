-- Ranks are written key by key.
use Rattle.std.proofs.Common.{ℕ, ◌+◌, ◌<◌, ◌≤◌, ◌≡◌, ◌≢◌, ⊎_elim, arith, refl, sym, ap, ◌∙◌, subst, List, Some, length, slice_get, get_or, set, All, Contains}
use Rattle.std.specs.Prelude.{slice_index, IsPermutation}
use Rattle.std.specs.List.{range_with_len}
use Rattle.std.proofs.lemmas.Bool.{cases_lt, cases_eq}
use Rattle.std.proofs.lemmas.List.{length-map, get_or-set_same, get_or-set_other}
use Rattle.std.proofs.lemmas.List.Elements.{All-get_or}
use Rattle.std.proofs.lemmas.List.FromFn.{length-range_with_len, get_or-range_with_len}
use Rattle.std.proofs.lemmas.List.Sorted.{All-permutation, Contains-permutation}
use Rattle.std.proofs.lemmas.Option.{slice_get-map, slice_get-get_or, slice_get_within, get_or_from_slice_get, same_Some}
use Rattle.herd_frozen.specs.declared.freezing.age_order.AgeKey.{AgeKey}
use Rattle.herd_frozen.specs.freezing.Freeze.{AreRanks, places_of}

-- the keys before i have their ranks
abbrev pub AreRanksBelow : List AgeKey → List ℕ → ℕ → Type 0
AreRanksBelow keys ranks i = (k place : ℕ) → k < i → slice_get (places_of keys) k ≡ Some place → slice_get (places_of keys) (slice_index ranks place) ≡ Some place

-- the place of the key that stands there
pub place-at : (keys : List AgeKey) (i : ℕ) (key : AgeKey) → slice_get keys i ≡ Some key → slice_get (places_of keys) i ≡ Some key.place
place-at keys i key at = slice_get-map (λ k. k.place) keys i ∙ rw at refl

module _ (keys : List AgeKey) (same : IsPermutation (range_with_len 0 (length keys)) (places_of keys)) where
  places-lt : All (λ place. place < length keys) (places_of keys)
  places-lt =
      All-permutation (λ place. place < length keys) (range_with_len 0 (length keys)) (places_of keys) same
      (λ k d h.
      let w : k < length keys = subst (λ n. k < n) (length-range_with_len 0 (length keys)) h in
      let is : get_or (range_with_len 0 (length keys)) k d ≡ 0 + k = get_or-range_with_len 0 (length keys) k d w in
      omega arith)

  -- the place of a key is one of the places
  pub place-lt : (i : ℕ) (key : AgeKey) → slice_get keys i ≡ Some key → key.place < length keys
  place-lt i key at =
      let here = place-at keys i key at in
      subst (λ place. place < length keys) (get_or_from_slice_get (places_of keys) i key.place key.place here)
      (All-get_or (λ place. place < length keys) (places_of keys) i key.place (slice_get_within (places_of keys) i key.place here) places-lt)

  -- one more rank
  pub ranks-more : (i : ℕ) (key : AgeKey) (ranks : List ℕ) → slice_get keys i ≡ Some key → length ranks ≡ length keys → AreRanksBelow keys ranks i → AreRanksBelow keys (set ranks key.place i) (i + 1)
  ranks-more i key ranks at long below k place le here =
      let mine = place-at keys i key at in
      ⊎_elim
      (λ (e : place ≡ key.place).
      let within : key.place < length ranks = subst (λ n. key.place < n) (sym long) (place-lt i key at) in
      let written : slice_index (set ranks key.place i) place ≡ i = ap (λ p. slice_index (set ranks key.place i) p) e ∙ get_or-set_same ranks key.place i 0 within in
      rw written (mine ∙ ap Some (sym e)))
      (λ (other : place ≢ key.place).
      let kept : slice_index (set ranks key.place i) place ≡ slice_index ranks place = get_or-set_other ranks key.place place i 0 other in
      ⊎_elim
      (λ (earlier : k < i). rw kept (below k place earlier here))
      (λ (last : i ≤ k).
      let same_index : k ≡ i = omega arith in
      absurd (other (same_Some place key.place (sym here ∙ ap (λ j. slice_get (places_of keys) j) same_index ∙ mine))))
      (cases_lt k i))
      (cases_eq place key.place)

  -- the ranks of all
  pub ranks-all : (i : ℕ) (ranks : List ℕ) → length keys ≤ i → length ranks ≡ length keys → AreRanksBelow keys ranks i → AreRanks keys ranks
  ranks-all i ranks past long below = record {
    long = long;
    each = λ place rank at.
        let within : place < length keys = subst (λ n. place < n) long (slice_get_within ranks place rank at) in
        let w : place < length (range_with_len 0 (length keys)) = subst (λ n. place < n) (sym (length-range_with_len 0 (length keys))) within in
        let zero_more : 0 + place ≡ place = omega arith in
        let found : Contains (places_of keys) place =
        Contains-permutation (range_with_len 0 (length keys)) (places_of keys) place same (place, w, get_or-range_with_len 0 (length keys) place place within ∙ zero_more) in
        let here : slice_get (places_of keys) found.0 ≡ Some place = slice_get-get_or (places_of keys) found.0 place found.1 ∙ ap Some found.2 in
        let early : found.0 < length keys = subst (λ n. found.0 < n) (length-map keys (λ k. k.place)) found.1 in
        let read : slice_index ranks place ≡ rank = get_or_from_slice_get ranks place rank 0 at in
        subst (λ r. slice_get (places_of keys) r ≡ Some place) read (below found.0 place (omega arith) here);
  }
