-- `Pedigree::animal_at`: its result.
use Rattle.std.proofs.Common.{ap}
use Rattle.herd_pedigree.proofs.FoundFacts.{record-found}
use Rattle.herd_pedigree.proofs.pedigree.Pedigree.animal_at.Goals as goal

pub returns : goal.returns
returns g c =
    record-found c.self.inside.records.book c.args.self.now.book (ap (λ p. p.book) c.self.view_is) c.self.invariant.kept.lawful.once c.args.found.now c.requires c.animal_at.result c.animal_at.ensures
