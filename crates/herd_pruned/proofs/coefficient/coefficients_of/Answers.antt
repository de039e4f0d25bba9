-- `coefficients_of`: what `spread` requires, and its result.
use Rattle.std.proofs.Common.{◌≡◌, ℕ, ◌<◌, Contains, List, length, get_or, arith, ap, subst, sym, ◌∙◌}
use Rattle.std.proofs.lemmas.List.{length-replicate}
use Rattle.herd_lineage.specs.Lineage.{IsLineage}
use Rattle.herd_lineage.specs.declared.lineage.Parents.{Parents}
use Rattle.herd_lineage.specs.declared.TheConstants.{DEPTH_LIMIT, MOST_ANIMALS}
use Rattle.herd_kinship.proofs.lemmas.Lists.{take-written}
use Rattle.herd_kinship.specs.Coefficients.{AreCoefficients}
use Rattle.herd_pruned.specs.Known.{AreCoefficientsOf}
use Rattle.herd_pruned.specs.Pruned.{Pruned}
use Rattle.herd_pruned.proofs.lemmas.EntryFacts.{coefficients-spread, kept-within}
use Rattle.herd_pruned.proofs.coefficient.coefficients_of.Given.{Over}
use Rattle.herd_pruned.proofs.coefficient.coefficients_of.Goals.{After-deref_mut}
use Rattle.herd_pruned.proofs.coefficient.coefficients_of.Goals as goal

-- the animals that are kept make a lineage
its_lineage : (g : Over) (c : After-deref_mut g) → IsLineage DEPTH_LIMIT MOST_ANIMALS c.in_ok-pruned.pruned.lineage
its_lineage g c = subst (λ (rows : List Parents). IsLineage DEPTH_LIMIT MOST_ANIMALS rows) c.lineage.ensures.value c.lineage.ensures.lineage

-- there is room for all animals of the whole
room : (g : Over) (c : After-deref_mut g) → length c.deref_mut.result.now ≡ length c.args.lineage.now
room g c = ap length (c.deref_mut.ensures.value ∙ c.in_ok-known.ensures.items_if_clones_equal (λ y e. e)) ∙ length-replicate c.len.result 0 ∙ c.len.ensures.value

pub spread-requires-clause-within : goal.spread-requires-clause-within
spread-requires-clause-within g c = λ k d low.
    let at = goal.at.spread-requires-clause-within g c in
    let pruned : Pruned = c.in_ok-pruned.pruned in
    let within : k < length pruned.ranks = subst (λ xs. k < length xs) c.ranks.ensures low in
    rw (c.ranks.ensures, room g c) (kept-within DEPTH_LIMIT MOST_ANIMALS c.args.lineage.now pruned (its_lineage g c) c.in_ok-pruned.ensures.pruned k d within)

pub returns : goal.returns
returns g c =
    let rows = c.args.lineage.now in
    let at = (goal.at.returns g c).After-deref_mut in
    let pruned : Pruned = c.in_ok-pruned.pruned in
    let numerators : List ℕ = c.in_ok-coefficients.coefficients in
    let known : List ℕ = c.spread.new.known in
    let items : List ℕ = c.in_ok-known.known.items in
    let n : ℕ = c.in_ok-known.known.len in
    let ok = c.in_ok-known.known.ok in
    let right : AreCoefficients DEPTH_LIMIT pruned.lineage numerators = subst (λ (rows : List Parents). AreCoefficients DEPTH_LIMIT rows numerators) c.lineage.ensures.value c.in_ok-coefficients.ensures in
    let long : length known ≡ length rows = c.spread.ensures.long ∙ room g at in
    let filled : n ≡ length known = (let a = c.spread.ensures.long in let b = ap length c.deref_mut.ensures.value in omega (arith, a, b, ok)) in
    let written : (i : ℕ) → i < length pruned.ranks → get_or known (get_or pruned.ranks i 0) 0 ≡ get_or numerators i 0 =
    λ i low. subst (λ xs. get_or known (get_or xs i 0) 0 ≡ get_or numerators i 0) c.ranks.ensures
    (c.spread.ensures.written i (subst (λ xs. i < length xs) (sym c.ranks.ensures) low) ∙ ap (λ xs. get_or xs i 0) c.list.ensures.value) in
    rw c.from_list.ensures
    (subst (λ xs. AreCoefficientsOf DEPTH_LIMIT rows (Contains c.args.animals.now) xs) (sym (take-written n known items filled))
    (coefficients-spread DEPTH_LIMIT MOST_ANIMALS rows pruned (its_lineage g at) c.in_ok-pruned.ensures.pruned c.args.animals.now numerators known c.in_ok-pruned.ensures.kept right long written))
