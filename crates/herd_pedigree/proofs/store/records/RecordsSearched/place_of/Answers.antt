-- `RecordsSearched::place_of`: its clauses `place` and `absent`.
use Rattle.herd_pedigree.proofs.lemmas.store.AncestorFacts.{place-absent, place-there}
use Rattle.herd_pedigree.proofs.store.records.RecordsSearched.place_of.Goals as goal

pub returns-clause-place : goal.returns-clause-place
returns-clause-place g c = place-there c.args.self.now.book c.args.number.now c.place_of.result c.place_of.ensures.index

pub returns-clause-absent : goal.returns-clause-absent
returns-clause-absent g c = place-absent c.args.self.now.book c.args.number.now c.place_of.result c.place_of.ensures.found
