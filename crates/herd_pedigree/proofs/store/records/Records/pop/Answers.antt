-- `Records::pop`: the invariant and its result.
use Rattle.std.proofs.Common.{◌≡◌, ap}
use Rattle.herd_pedigree.specs.store.Records.{AreClosed, stored_book}
use Rattle.herd_pedigree.specs.store.Undo.{without_last}
use Rattle.herd_pedigree.proofs.lemmas.store.RecordsFacts.{popped}
use Rattle.herd_pedigree.proofs.store.records.Records.pop.Given.{Over}
use Rattle.herd_pedigree.proofs.store.records.Records.pop.Goals.{After-pop}
use Rattle.herd_pedigree.proofs.store.records.Records.pop.Goals as goal

-- the entries that are left
left : (g : Over) (c : After-pop g) → AreClosed c.pop.new.self.entries × (stored_book c.pop.new.self.entries ≡ without_last c.args.self.now.book)
left g c =
    popped c.self.inside.entries.entries c.pop.new.self.entries c.pop.result c.pop.ensures.entries (λ some. c.pop.ensures.found.1 some) c.self.invariant
    c.args.self.now.book (ap (λ r. r.book) c.self.view_is) c.requires.once c.requires.childless

pub invariant_of-self : goal.invariant_of-self
invariant_of-self g c = (left g (goal.at.invariant_of-self g c).After-pop).0

pub returns : goal.returns
returns g c = (left g (goal.at.returns g c).After-pop).1
