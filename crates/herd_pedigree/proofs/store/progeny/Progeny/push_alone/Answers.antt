-- `Progeny::push_alone`: the invariant.
use Rattle.std.proofs.Common.{rules, arith, ap, ◌≡◌, [], ◌∷◌, ◌++◌}
use Rattle.herd_pedigree.specs.store.Calves.{alone}
use Rattle.herd_pedigree.proofs.lemmas.store.PopFacts.{chained-append}
use Rattle.herd_pedigree.proofs.lemmas.store.ProgenyFacts.{length-nodes}
use Rattle.herd_pedigree.proofs.store.progeny.Progeny.push_alone.Goals as goal

pub invariant_of-self : goal.invariant_of-self
invariant_of-self g c =
    let inside = c.self.inside in
    let nodes : c.push_reserved.new.self.items ≡ inside.nodes.items ++ alone ∷ [] = search rules in
    let long = length-nodes inside.nodes.items c.args.self.now.parents (ap (λ p. p.parents) c.self.view_is) in
    let few = c.requires.few in
    rw nodes (chained-append inside.nodes.items c.self.invariant (omega (arith, long, few)))
