-- `Progeny::has_calves`: its clauses `some` and `none`.
use Rattle.std.proofs.Common.{sym, ap, ◌∙◌, ◌≡◌, ℕ, List, None, is_some}
use Rattle.herd_frozen.proofs.lemmas.ListFacts.{is_some_with, none_if}
use Rattle.herd_pedigree.specs.declared.store.progeny.ChainNode.{ChainNode}
use Rattle.herd_pedigree.specs.store.Calves.{node_at, first_of}
use Rattle.herd_frozen.specs.places.Places.{parent_at}
use Rattle.herd_pedigree.proofs.lemmas.store.ChainFacts.{no-calves}
use Rattle.herd_pedigree.proofs.lemmas.store.ProgenyFacts.{parents-seen}
use Rattle.herd_pedigree.proofs.store.progeny.Progeny.has_calves.Goals as goal

pub returns-clause-some : goal.returns-clause-some
returns-clause-some g c =
    λ yes.
    let nodes : List ChainNode = c.self.inside.nodes.items in
    let place : ℕ = c.args.place in
    let first : c.get.result ≡ first_of nodes place = c.get.ensures ∙ ap (λ (f : ChainNode). f.first) (c.node_at.ensures ∙ ap (λ fs. node_at fs place) c.deref.ensures.value) in
    let calf = is_some_with (first_of nodes place) (ap (λ o. is_some o) (sym first) ∙ sym c.is_some.ensures ∙ yes) in
    (calf.0, ap (λ p. parent_at p.parents calf.0) (sym c.self.view_is) ∙ parents-seen nodes calf.0 ∙ (c.self.invariant.first place calf.0 calf.1).0)

pub returns-clause-none : goal.returns-clause-none
returns-clause-none g c =
    λ no calf e.
    let nodes : List ChainNode = c.self.inside.nodes.items in
    let place : ℕ = c.args.place in
    let first : c.get.result ≡ first_of nodes place = c.get.ensures ∙ ap (λ (f : ChainNode). f.first) (c.node_at.ensures ∙ ap (λ fs. node_at fs place) c.deref.ensures.value) in
    let none : first_of nodes place ≡ None = none_if (first_of nodes place) (ap (λ o. is_some o) (sym first) ∙ sym c.is_some.ensures ∙ no) in
    no-calves nodes c.self.invariant place none calf (sym (parents-seen nodes calf) ∙ ap (λ p. parent_at p.parents calf) c.self.view_is ∙ e)
