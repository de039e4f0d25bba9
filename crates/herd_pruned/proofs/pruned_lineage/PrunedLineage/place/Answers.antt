-- `PrunedLineage::place`: its index, and its result.
use Rattle.std.proofs.Common.{◌≡◌, ℕ, Contains, List, Some, slice_get, arith, ap, subst, sym, ◌∙◌}
use Rattle.std.proofs.lemmas.Option.{get_or_from_slice_get, slice_get-get_or, slice_get_within}
use Rattle.herd_pruned.specs.Pruned.{Pruned}
use Rattle.herd_pruned.proofs.pruned_lineage.PrunedLineage.place.Given.{Over}
use Rattle.herd_pruned.proofs.pruned_lineage.PrunedLineage.place.Goals.{After-self}
use Rattle.herd_pruned.proofs.pruned_lineage.PrunedLineage.place.Goals as goal

-- the place at which the rank stands
its_place : (g : Over) (c : After-self g) → (place : ℕ) × (slice_get c.self.inside.ranks.items place ≡ Some c.args.rank) × (slice_get c.self.inside.places.items c.args.rank ≡ Some place)
its_place g c =
    let ranks : List ℕ = c.self.inside.ranks.items in
    let kept : Contains c.args.self.now.ranks c.args.rank = c.requires in
    let same : c.args.self.now.ranks ≡ ranks = sym (ap (λ (v : Pruned). v.ranks) c.self.view_is) in
    let there : Contains ranks c.args.rank = subst (λ xs. Contains xs c.args.rank) same kept in
    let at : slice_get ranks there.0 ≡ Some c.args.rank = slice_get-get_or ranks there.0 c.args.rank there.1 ∙ ap Some there.2 in
    (there.0, at, c.self.invariant.1 there.0 c.args.rank at)

pub index-requires : goal.index-requires
index-requires g c =
    let it = its_place g c in
    let within = slice_get_within c.self.inside.places.items c.args.rank it.0 it.2 in
    let ok = c.self.inside.places.ok.0 in
    omega (arith, within, ok)

pub returns : goal.returns
returns g c =
    let it = its_place g (goal.at.returns g c).After-self in
    let same : c.self.inside.ranks.items ≡ c.args.self.now.ranks = ap (λ (v : Pruned). v.ranks) c.self.view_is in
    let place : c.index.result.now ≡ it.0 = c.index.ensures ∙ get_or_from_slice_get c.self.inside.places.items c.args.rank it.0 c.index.result.now it.2 in
    rw place (subst (λ xs. slice_get xs it.0 ≡ Some c.args.rank) same it.1)
