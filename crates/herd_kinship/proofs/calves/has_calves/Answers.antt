-- `has_calves`: its loop and its clauses `no` and `yes`.
use Rattle.std.proofs.Common.{◌≡◌, ℕ, ◌<◌, ◌≤◌, ◌⊎◌, ⊎_elim, false, is_some, true, None, Some, arith, subst}
use Rattle.std.proofs.lemmas.Bool.{cases_lt}
use Rattle.herd_kinship.specs.CalfLinks.{IsCalf}
use Rattle.herd_kinship.proofs.lemmas.Lists.{if-none, if-some}
use Rattle.herd_kinship.proofs.lemmas.sires.CalfFacts.{calf-pair, calf-within, no-calf}
use Rattle.herd_kinship.proofs.calves.has_calves.Goals as goal

pub loop-calf-preserved : goal.loop-calf-preserved
loop-calf-preserved g c =
    let rows = c.args.lineage.now in
    let i : ℕ = c.loop-calf.calf in
    let none : is_some c.sire_of_pair.result ≡ false = cc in
    let unknown : (c.parents.result.sire ≡ None) ⊎ (c.parents.result.dam ≡ None) = if-none c.sire_of_pair.result none c.sire_of_pair.ensures.unknown in
    λ s x low calf.
    ⊎_elim
    (λ (below : x < i). c.loop-calf.invariant s x below calf)
    (λ (at : i ≤ x).
    let same : x ≡ i = omega arith in
    no-calf rows i c.parents.result c.parents.ensures.parents unknown s (subst (λ v. IsCalf rows s v) same calf))
    (cases_lt x i)

pub returns-clause-no : goal.returns-clause-no
returns-clause-no g c = λ _ s x calf.
    let within = calf-within c.args.lineage.now s x calf in
    let end = c.len-calf-end.ensures.value in
    let past = c.loop-calf-test.false in
    c.loop-calf.invariant s x (omega arith) calf

pub returns-then-is_some-clause-yes : goal.returns-then-is_some-clause-yes
returns-then-is_some-clause-yes g c = λ _.
    let some : is_some c.sire_of_pair.result ≡ true = cc in
    let sire = if-some (λ s. c.parents.result.sire ≡ Some s) c.sire_of_pair.result some c.sire_of_pair.ensures.sire in
    let dam = if-some (λ s. is_some c.parents.result.dam ≡ true) c.sire_of_pair.result some c.sire_of_pair.ensures.dam in
    (sire.0, c.loop-calf.calf, calf-pair c.args.lineage.now c.loop-calf.calf sire.0 c.parents.result c.parents.ensures.parents sire.1 dam.1)
