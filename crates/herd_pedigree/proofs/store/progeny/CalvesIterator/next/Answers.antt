-- `Calves::next`: the invariant, and its clauses `steps` and `goes`.
use Rattle.std.proofs.Common.{◌≡◌, ◌∷◌, ◌∙◌, length, ap, sym, rules}
use Rattle.herd_pedigree.specs.declared.store.progeny.ChainNode.{ChainNode}
use Rattle.herd_pedigree.specs.store.Calves.{chain, next_of}
use Rattle.herd_pedigree.proofs.lemmas.store.ChainFacts.{chain-next}
use Rattle.herd_pedigree.proofs.lemmas.store.ProgenyFacts.{next-within}
use Rattle.herd_pedigree.proofs.store.progeny.CalvesIterator.next.Goals as goal

pub invariant_of-self : goal.invariant_of-self
invariant_of-self c =
    let nodes = c.self.inside.nodes.now in
    let calf = c.in_ok-calf.calf in
    let next : c.get-self-inside.result ≡ next_of nodes calf = c.get-self-inside.ensures ∙ ap (λ (f : ChainNode). f.next) c.node_at.ensures in
    (c.self.invariant.0, λ x e. next-within nodes c.self.invariant.0 calf x (sym next ∙ e))

pub returns-clause-steps : goal.returns-clause-steps
returns-clause-steps c =
    let nodes = c.self.inside.nodes.now in
    let calf = c.in_ok-calf.calf in
    let within = c.self.invariant.1 calf c.in_ok-calf.was in
    sym c.self.view_is
    ∙ ap (chain nodes (length nodes)) c.in_ok-calf.was
    ∙ chain-next nodes c.self.invariant.0 calf within
    ∙ ap (λ next. calf ∷ chain nodes (length nodes) next) (sym (c.get-self-inside.ensures ∙ ap (λ (f : ChainNode). f.next) c.node_at.ensures))

pub returns-clause-goes : goal.returns-clause-goes
returns-clause-goes c = let steps = returns-clause-steps c in search rules
