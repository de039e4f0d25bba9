-- The parents of the animals so far were found.
use Rattle.std.proofs.Common.{◌≡◌, ◌-◌}
use Rattle.herd_pedigree.specs.store.Ancestors.{BeginsWith}
use Rattle.herd_pedigree.proofs.lemmas.store.AncestorFacts.{IsClosedTo}
use Rattle.herd_pedigree.proofs.store.ancestors.Ancestors.add_ancestors.Given as goal

abbrev pub invariant-loop-next : goal.invariant-loop-next
invariant-loop-next g l = record {
  animals : l.self.animals ≡ l.fn.self.animals;
  kept : BeginsWith l.fn.self.places l.self.places;
  closed : IsClosedTo (g.S.Searched.book l.records) l.self.places l.next;
}

abbrev pub decreases-loop-next : goal.decreases-loop-next
decreases-loop-next g l = l.self.animals - l.next
