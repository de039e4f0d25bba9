-- `AnimalNumberPartialEq::eq`: its result.
use Rattle.std.proofs.Common.{◌≡◌, ℕ, List, get_or, nat_eq, ap, ◌∙◌, subst}
use Rattle.std.specs.Cmp.{unsigned_Decides}
use Rattle.std.specs.Cmp.Lexicographic.{pointwise}
use Rattle.std.specs.Str.{bytes_eq}
use Rattle.std.proofs.lemmas.Bool.Decides.{same_from_decides}
use Rattle.std.proofs.lemmas.Slice.Eq.{bytes_eq-Decides, slice_eq-Decides}
use Rattle.herd_animal.specs.AnimalNumber.{IsAnimalNumber}
use Rattle.herd_animal.specs.Pieces.{pieces}
use Rattle.herd_animal.proofs.PieceFacts.{same-pieces}
use Rattle.herd_animal.proofs.number.AnimalNumberPartialEq.eq.Goals as goal

pub returns : goal.returns
returns c =
    let a : List ℕ = c.args.self.now in
    let b : List ℕ = c.args.other.now in
    let first : c.pieces.result ≡ pieces a = c.pieces.ensures ∙ ap pieces c.self.view_is in
    let second : c.pieces-2.result ≡ pieces b = c.pieces-2.ensures ∙ ap pieces c.other.view_is in
    let is = slice_eq-Decides unsigned_Decides (pieces a) (pieces b) c.eq.result
    (c.eq.ensures ∙ (ap (λ l. pointwise nat_eq l c.pieces-2.result) first ∙ ap (λ l. pointwise nat_eq (pieces a) l) second)) in
    same_from_decides c.eq.result (bytes_eq a b) (
      (λ yes. let e = is.0 yes in same-pieces a b (subst IsAnimalNumber c.self.view_is c.self.invariant) (subst IsAnimalNumber c.other.view_is c.other.invariant)
          (ap (λ l. get_or l 0 0) e) (ap (λ l. get_or l 1 0) e) (ap (λ l. get_or l 2 0) e)),
      (λ same. is.1 (ap pieces same)),
    )
    (bytes_eq-Decides a b)
