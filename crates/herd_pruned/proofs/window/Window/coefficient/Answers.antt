-- `Window::coefficient`: the parents are of the last animals, and half their entry is the coefficient.
use Rattle.std.proofs.Common.{ℕ, ◌*◌, ◌≡◌, ◌∙◌, Some, length, subst}
use Rattle.herd_lineage.specs.declared.TheConstants.{DEPTH_LIMIT, MOST_ANIMALS}
use Rattle.herd_lineage.specs.Lineage.{IsLineage}
use Rattle.herd_kinship.specs.Ranks.{ranked}
use Rattle.herd_kinship.specs.Table.{entry}
use Rattle.herd_pruned.specs.Window.{HasParentsWithin, IsLast, IsWindow, Window}
use Rattle.herd_pruned.proofs.lemmas.WindowFacts.{dam_near, half-of_parents, near-last, none-of_dam, none-of_sire, sire_near}
use Rattle.herd_pruned.proofs.window.Window.coefficient.Given.{Over}
use Rattle.herd_pruned.proofs.window.Window.coefficient.Goals.{After-len}
use Rattle.herd_pruned.proofs.window.Window.coefficient.Goals as goal

-- what is known of the window
known : (g : Over) (c : After-len g) → IsLineage DEPTH_LIMIT MOST_ANIMALS c.args.self.now.lineage × HasParentsWithin c.args.self.now.lineage c.args.self.now.places × IsWindow DEPTH_LIMIT c.args.self.now
known g c = (
  subst (λ (b : Window). IsLineage DEPTH_LIMIT MOST_ANIMALS b.lineage) c.self.view_is c.self.invariant.0,
  subst (λ (b : Window). HasParentsWithin b.lineage b.places) c.self.view_is c.self.invariant.1,
  subst (λ (b : Window). IsWindow DEPTH_LIMIT b) c.self.view_is c.self.invariant.2,
)

-- the parents are of the last animals
sire-last : (g : Over) (c : After-len g) (sire : ℕ) → c.args.parents.sire ≡ Some sire → IsLast c.args.self.now.places (length c.args.self.now.coefficients) sire
sire-last g c sire is =
    let window : Window = c.args.self.now in
    let it = known g c in
    near-last (length window.coefficients) window.places sire (sire_near DEPTH_LIMIT window it.0 it.1 it.2 c.args.parents c.requires sire is)

dam-last : (g : Over) (c : After-len g) (dam : ℕ) → c.args.parents.dam ≡ Some dam → IsLast c.args.self.now.places (length c.args.self.now.coefficients) dam
dam-last g c dam is =
    let window : Window = c.args.self.now in
    let it = known g c in
    near-last (length window.coefficients) window.places dam (dam_near DEPTH_LIMIT window it.0 it.1 it.2 c.args.parents c.requires dam is)

pub entry-requires-clause-x : goal.entry-requires-clause-x
entry-requires-clause-x g c = sire-last g (goal.at.entry-requires-clause-x g c).After-len c.in-Some-Some.sire c.in-Some-Some.is-0

pub entry-requires-clause-y : goal.entry-requires-clause-y
entry-requires-clause-y g c = dam-last g (goal.at.entry-requires-clause-y g c).After-len c.in-Some-Some.dam c.in-Some-Some.is-1

pub returns-in-Some-Some : goal.returns-in-Some-Some
returns-in-Some-Some g c =
    let window : Window = c.args.self.now in
    let before = (goal.at.returns-in-Some-Some g c).After-len in
    let it = known g before in
    let sire = sire-last g before c.in-Some-Some.sire c.in-Some-Some.is-0 in
    let dam = dam-last g before c.in-Some-Some.dam c.in-Some-Some.is-1 in
    let read : c.entry.result ≡ entry (ranked window.lineage) (2 * DEPTH_LIMIT) (Some c.in-Some-Some.sire) (Some c.in-Some-Some.dam) = c.entry.ensures ∙ it.2.entries_are c.in-Some-Some.sire c.in-Some-Some.dam sire dam in
    half-of_parents DEPTH_LIMIT window.lineage it.0 (length window.coefficients) c.in-Some-Some.sire c.in-Some-Some.dam c.entry.result c.args.parents c.requires c.in-Some-Some.is-0 c.in-Some-Some.is-1 read

pub returns-in_default : goal.returns-in_default
returns-in_default g c =
    let window : Window = c.args.self.now in
    none-of_dam DEPTH_LIMIT window.lineage (known g (goal.at.returns-in_default g c).After-len).0 (length window.coefficients) c.args.parents c.requires c.in_default.is-1

pub returns-in_default-2 : goal.returns-in_default-2
returns-in_default-2 g c =
    let window : Window = c.args.self.now in
    none-of_sire DEPTH_LIMIT window.lineage (known g (goal.at.returns-in_default-2 g c).After-len).0 (length window.coefficients) c.args.parents c.requires c.in_default.is-0
