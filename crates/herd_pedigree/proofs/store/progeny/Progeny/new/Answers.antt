-- `Progeny::new`: the invariant.
use Rattle.herd_pedigree.proofs.lemmas.store.PopFacts.{chained-empty}
use Rattle.herd_pedigree.proofs.store.progeny.Progeny.new.Goals as goal

pub invariant_of-result : goal.invariant_of-result
invariant_of-result g c = rw (c.new.ensures.items) chained-empty
