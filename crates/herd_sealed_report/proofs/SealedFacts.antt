-- The place of a number of the book is its rank.
use Rattle.std.proofs.Common.{◌≡◌, ◌∙◌, ℕ, zero, suc, ◌+◌, ◌<◌, not, List, [], ◌∷◌, length, slice_get, Some, inl, inr, sym, ap, arith, subst}
use Rattle.std.proofs.lemmas.Bool.{cases_Bool, cond-true, cond-false}
use Rattle.std.proofs.lemmas.Option.{get_or_from_slice_get, same_Some, slice_get_within}
use Rattle.std.specs.List.{position_or_len}
use Rattle.std.specs.Str.{bytes_eq}
use Rattle.herd_frozen.proofs.lemmas.rules.BookFacts.{bytes_itself, same_bytes}
use Rattle.herd_frozen.specs.declared.freezing.frozen.Row.{Row}
use Rattle.herd_frozen.specs.declared.TheConstants.{DEPTH_LIMIT, MOST_ANIMALS}
use Rattle.herd_frozen.specs.freezing.Frozen.{IsFrozen, numbers_of}
use Rattle.herd_advice.proofs.lemmas.FrozenFacts.{length-numbers_of, same_rank}
use Rattle.herd_sealed_report.specs.SealedCertificate.{place_of}

-- a text that stands once stands at its position
position_is : (numbers : List (List ℕ)) (number : List ℕ) (rank : ℕ) → slice_get numbers rank ≡ Some number
    → ((earlier : ℕ) → earlier < rank → slice_get numbers earlier ≡ Some number → ⊥) → position_or_len (λ other. bytes_eq other number) numbers ≡ rank
position_is [] number rank at once = absurd (cc)
position_is (first ∷ rest) number zero at once =
    let same : first ≡ number = same_Some _ _ at in
    cond-false _ _ _ (ap not (ap (λ (n : List ℕ). bytes_eq n number) same ∙ bytes_itself number))
position_is (first ∷ rest) number (suc rank) at once =
    elim (cases_Bool (bytes_eq first number)) [
      | inl here ↦ absurd (once 0 (omega arith) (ap (λ (n : List ℕ). Some n) (same_bytes first number here)))
      | inr other ↦
          (let later = position_is rest number rank at (λ earlier low there. once (suc earlier) (omega (arith, low)) there) in
          let one_more : 1 + rank ≡ suc rank = omega arith in
          cond-true _ _ _ (ap not other) ∙ ap (λ (n : ℕ). 1 + n) later ∙ one_more)
    ]

pub place_is : (rows : List Row) → IsFrozen DEPTH_LIMIT MOST_ANIMALS rows → (rank : ℕ) (number : List ℕ) → slice_get (numbers_of rows) rank ≡ Some number
    → place_of rows number ≡ rank
place_is rows frozen rank number at =
    let long = length-numbers_of rows in
    let within : rank < length rows = subst (λ n. rank < n) long (slice_get_within (numbers_of rows) rank number at) in
    position_is (numbers_of rows) number rank at
    (λ earlier low there.
    let here : earlier < length rows = omega (arith, low, within) in
    let same : earlier ≡ rank =
    same_rank DEPTH_LIMIT MOST_ANIMALS rows frozen earlier rank here within
    (get_or_from_slice_get (numbers_of rows) earlier number [] there ∙ sym (get_or_from_slice_get (numbers_of rows) rank number [] at)) in
    absurd (omega (arith, low, same)))
