-- `contributions`: its result.
use Rattle.std.proofs.Common.{◌≡◌, ℕ, Option, Some, None, cond, lit<, subst, sym}
use Rattle.std.proofs.lemmas.Bool.{eq-eqb, ne_eqb}
use Rattle.herd_lineage.specs.declared.TheConstants.{DEPTH_LIMIT, MOST_ANIMALS}
use Rattle.herd_kinship.specs.declared.contribution.Contributions.{Contributions}
use Rattle.herd_kinship.specs.Contributions.{Lists, crossed, selfed, weighted}
use Rattle.herd_kinship.proofs.lemmas.lineages.ContributionFacts.{AreListed, listed-are}
use Rattle.herd_kinship.proofs.inverse.contributions.Given.{Over}
use Rattle.herd_kinship.proofs.inverse.contributions.Goals.{After-of-weights}
use Rattle.herd_kinship.proofs.inverse.contributions.Goals as goal

-- what is listed by the weights, for the two parents of the row
listed : (g : Over) (c : After-of-weights g) (s d : Option ℕ) → c.parents-parents.result.sire ≡ s → c.parents-parents.result.dam ≡ d → (contributions : Contributions) →
    Lists contributions c.of-weights.result.alpha (weighted c.of-weights.result.alpha c.of-weights.result.minus_half c.of-weights.result.quarter c.of-weights.result.minus_whole c.args.rank s d) →
    AreListed DEPTH_LIMIT c.args.lineage.now c.args.rank contributions
listed g c s d =
    let weights = c.of-weights.ensures in
    listed-are DEPTH_LIMIT MOST_ANIMALS c.args.lineage.now c.parents-parents.ensures.lineage (lit< tt) (lit< tt) c.args.rank c.requires.rank c.parents-parents.result c.parents-parents.ensures.parents
    c.mendelian.result c.mendelian.ensures.value c.mendelian.type_inv c.of-weights.result.alpha c.of-weights.result.minus_half c.of-weights.result.quarter c.of-weights.result.minus_whole
    weights.alpha weights.minus_half weights.quarter weights.minus_whole s d

pub returns-in-None-None : goal.returns-in-None-None
returns-in-None-None g c =
    listed g (goal.at.returns-in-None-None g c).After-of-weights None None c.in-None-None.is-0 c.in-None-None.is-1 c.without_parents.result c.without_parents.ensures

pub returns-in-None-Some : goal.returns-in-None-Some
returns-in-None-Some g c =
    listed g (goal.at.returns-in-None-Some g c).After-of-weights None (Some c.in-None-Some.parent) c.in-None-Some.is-0 c.in-None-Some.is-1
    c.with_one_parent.result c.with_one_parent.ensures

pub returns-in-Some-None : goal.returns-in-Some-None
returns-in-Some-None g c =
    listed g (goal.at.returns-in-Some-None g c).After-of-weights (Some c.in-Some-None.parent) None c.in-Some-None.is-0 c.in-Some-None.is-1
    c.with_one_parent-in-Some-None.result c.with_one_parent-in-Some-None.ensures

pub returns-then-sire-dam : goal.returns-then-sire-dam
returns-then-sire-dam g c =
    let w = (goal.at.returns-then-sire-dam g c).After-of-weights.of-weights.result in
    listed g (goal.at.returns-then-sire-dam g c).After-of-weights (Some c.in-Some-Some.sire) (Some c.in-Some-Some.dam) c.in-Some-Some.is-0 c.in-Some-Some.is-1
    c.with_selfed_parent.result (subst (λ b. Lists c.with_selfed_parent.result w.alpha (cond b (selfed w.alpha w.minus_whole c.args.rank c.in-Some-Some.sire) (crossed w.alpha w.minus_half w.quarter c.args.rank c.in-Some-Some.sire c.in-Some-Some.dam))) (sym (eq-eqb c.in-Some-Some.sire c.in-Some-Some.dam c.if-sire-dam.true)) c.with_selfed_parent.ensures)

pub returns-else-sire-dam : goal.returns-else-sire-dam
returns-else-sire-dam g c =
    let w = (goal.at.returns-else-sire-dam g c).After-of-weights.of-weights.result in
    listed g (goal.at.returns-else-sire-dam g c).After-of-weights (Some c.in-Some-Some.sire) (Some c.in-Some-Some.dam) c.in-Some-Some.is-0 c.in-Some-Some.is-1
    c.with_both_parents.result (subst (λ b. Lists c.with_both_parents.result w.alpha (cond b (selfed w.alpha w.minus_whole c.args.rank c.in-Some-Some.sire) (crossed w.alpha w.minus_half w.quarter c.args.rank c.in-Some-Some.sire c.in-Some-Some.dam))) (sym (ne_eqb c.in-Some-Some.sire c.in-Some-Some.dam c.if-sire-dam.false)) c.with_both_parents.ensures)
