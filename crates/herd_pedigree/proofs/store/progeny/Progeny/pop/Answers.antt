-- `Progeny::pop`: the invariant and its result.
use Rattle.std.proofs.Common.{arith, ap, ◌∙◌, ◌≡◌, ◌-◌, ℕ, List, Option, length}
use Rattle.herd_pedigree.specs.store.Calves.{AreChained, parents_of}
use Rattle.herd_pedigree.specs.store.Undo.{without_last}
use Rattle.herd_pedigree.proofs.lemmas.store.PopFacts.{popped}
use Rattle.herd_pedigree.proofs.lemmas.store.ProgenyFacts.{length-nodes}
use Rattle.herd_pedigree.proofs.store.progeny.Progeny.pop.Given.{Over}
use Rattle.herd_pedigree.proofs.store.progeny.Progeny.pop.Goals.{After-truncate}
use Rattle.herd_pedigree.proofs.store.progeny.Progeny.pop.Goals as goal

-- the animals that are left
left : (g : Over) (c : After-truncate g) → AreChained c.truncate.new.self.items × (parents_of c.truncate.new.self.items ≡ without_last c.args.self.now.parents)
left g c =
    let parents : List (Option ℕ) = c.args.self.now.parents in
    let len : c.len-last.result ≡ length parents = c.len-last.ensures ∙ c.self.inside.nodes.ok.0 ∙ length-nodes c.self.inside.nodes.items parents (ap (λ p. p.parents) c.self.view_is) in
    let some = c.requires.some in
    rw (c.truncate.ensures.items, len)
    (popped c.self-2.inside.nodes.items parents c.self-2.invariant (length parents - 1) (omega (arith, some)) (ap (λ p. p.parents) c.self-2.view_is ∙ (rw len at c.part.ensures)) c.requires.childless)

pub invariant_of-self : goal.invariant_of-self
invariant_of-self g c = (left g (goal.at.invariant_of-self g c).After-truncate).0

pub returns : goal.returns
returns g c = (left g (goal.at.returns g c).After-truncate).1
