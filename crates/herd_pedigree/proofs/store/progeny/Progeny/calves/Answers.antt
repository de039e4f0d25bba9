-- `Progeny::calves`: the invariant of the calves, and its result.
use Rattle.std.proofs.Common.{ap, sym, ◌∙◌, subst, ◌<◌, ◌≡◌, ◌↔◌, ℕ, List, Some, Contains, length}
use Rattle.std.specs.Option.{ForSome}
use Rattle.herd_pedigree.specs.declared.store.progeny.ChainNode.{ChainNode}
use Rattle.herd_pedigree.specs.store.Calves.{AreChained, Progeny, chain, first_of, node_at}
use Rattle.herd_frozen.specs.places.Places.{parent_at}
use Rattle.herd_pedigree.proofs.lemmas.store.ChainFacts.{calves-shown, first-within}
use Rattle.herd_pedigree.proofs.store.progeny.Progeny.calves.Goals as goal

pub invariant_of-result : goal.invariant_of-result
invariant_of-result g c =
    let nodes : List ChainNode = c.self.inside.nodes.items in
    let place : ℕ = c.args.place in
    let first : c.get.result ≡ first_of nodes place = c.get.ensures ∙ ap (λ (f : ChainNode). f.first) (c.node_at.ensures ∙ ap (λ fs. node_at fs place) c.deref.ensures.value) in
    subst (λ (fs : List ChainNode). AreChained fs × ForSome c.get.result (λ calf. calf < length fs)) (sym c.as_slice.ensures.value)
    (c.self.invariant, λ calf e. first-within nodes c.self.invariant place calf (sym first ∙ e))

pub returns : goal.returns
returns g c =
    let nodes : List ChainNode = c.self.inside.nodes.items in
    let place : ℕ = c.args.place in
    let first : c.get.result ≡ first_of nodes place = c.get.ensures ∙ ap (λ (f : ChainNode). f.first) (c.node_at.ensures ∙ ap (λ fs. node_at fs place) c.deref.ensures.value) in
    let P : Progeny → Type 0 = λ p. (calf : ℕ) → Contains (chain c.as_slice.result.now (length c.as_slice.result.now) c.get.result) calf ↔ (parent_at p.parents calf ≡ Some place) in
    subst P c.self.view_is (calves-shown nodes c.self.invariant place c.as_slice.result.now c.get.result c.as_slice.ensures.value first)
