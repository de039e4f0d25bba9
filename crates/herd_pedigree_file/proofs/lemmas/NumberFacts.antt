-- The animal whose number a text is.
use Rattle.std.proofs.Common.{◌≡◌, ◌≢◌, ℕ, zero, suc, ◌+◌, ◌-◌, ◌^◌, ◌<◌, ◌≤◌, ⊎_elim, Bool, true, false, List, Some, None, decimal, refl, sym, ap, ◌∙◌, arith}
use Rattle.std.specs.List.{find, range_with_len}
use Rattle.std.specs.Str.{bytes_eq}
use Rattle.std.proofs.lemmas.Bool.{cases_eq, false_from_ne_true}
use Rattle.std.proofs.lemmas.Fmt.{decimal_injective}
use Rattle.std.proofs.lemmas.Slice.Eq.{bytes_eq-Decides}
use Rattle.herd_pedigree_file.specs.Number.{number_text, rank_in}

-- the first of some numbers on which a test holds, where it holds on none
find-none : (test : ℕ → Bool) (a n : ℕ) → ((k : ℕ) → a ≤ k → k < a + n → test k ≡ false) → find test (range_with_len a n) ≡ None
find-none test a zero none = refl
find-none test a (suc n) none =
    rw (none a (omega arith) (omega arith)) (find-none test (a + 1) n (λ k low high. none k (omega arith) (omega arith)))

-- and where it holds on this one and none before it
find-first : (test : ℕ → Bool) (a n r : ℕ) → a ≤ r → r < a + n → test r ≡ true → ((k : ℕ) → k < r → test k ≡ false)
    → find test (range_with_len a n) ≡ Some r
find-first test a zero r low high holds before = absurd (omega arith)
find-first test a (suc n) r low high holds before =
    ⊎_elim
    (λ (here : a ≡ r). let yes : test a ≡ true = ap test here ∙ holds in rw yes (ap Some here))
    (λ (later : a ≢ r).
    rw (before a (omega arith)) (find-first test (a + 1) n r (omega arith) (omega arith) holds before))
    (cases_eq a r)

-- a text that writes another number isn't this one's
other_text : (text : List ℕ) (number rank : ℕ) → text ≡ decimal number → number < 2 ^ 32 → rank + 1 < 2 ^ 33 → number ≢ rank + 1
    → bytes_eq text (number_text rank) ≡ false
other_text text number rank is small low other =
    false_from_ne_true (bytes_eq text (number_text rank)) (λ same.
    other (decimal_injective number (rank + 1) (omega arith) (omega arith) (sym is ∙ (bytes_eq-Decides text (number_text rank)).0 same)))

module _ (animals : ℕ) (few : animals < 2 ^ 32) (text : List ℕ) where
  -- a text that writes no number is nobody's
  pub rank_in-no_number : ((number : ℕ) → number < 2 ^ 32 → text ≡ decimal number → ⊥) → rank_in animals text ≡ None
  unfolding rank_in
  rank_in-no_number none =
      find-none (λ rank. bytes_eq text (number_text rank)) 0 animals (λ rank low high.
      false_from_ne_true (bytes_eq text (number_text rank)) (λ same.
      none (rank + 1) (omega arith) ((bytes_eq-Decides text (number_text rank)).0 same)))

  -- nor is one that writes 0 or a number that is too great
  pub rank_in-outside : (number : ℕ) → text ≡ decimal number → number < 2 ^ 32 → ((rank : ℕ) → rank < animals → number ≢ rank + 1)
      → rank_in animals text ≡ None
  unfolding rank_in
  rank_in-outside number is small outside =
      find-none (λ rank. bytes_eq text (number_text rank)) 0 animals (λ rank low high.
      other_text text number rank is small (omega arith) (outside rank (omega arith)))

  -- a text that writes the number of an animal is its
  pub rank_in-number : (number : ℕ) → text ≡ decimal number → 0 < number → number ≤ animals → rank_in animals text ≡ Some (number - 1)
  unfolding rank_in
  rank_in-number number is some within =
      let back : number ≡ number - 1 + 1 = omega arith in
      find-first (λ rank. bytes_eq text (number_text rank)) 0 animals (number - 1) (omega arith) (omega arith)
      ((bytes_eq-Decides text (number_text (number - 1))).1 (is ∙ ap decimal back))
      (λ rank before. other_text text number rank is (omega arith) (omega arith) (λ same. omega arith))
