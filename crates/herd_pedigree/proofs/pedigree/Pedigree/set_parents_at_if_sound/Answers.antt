-- `Pedigree::set_parents_at_if_sound`: its clauses `fault` and `by_records`.
use Rattle.std.proofs.Common.{refl, ap, Some, None}
use Rattle.std.specs.Map.{keys_of}
use Rattle.herd_pedigree.specs.store.Records.{animal_of}
use Rattle.herd_frozen.specs.declared.TheConstants.{DEPTH_LIMIT}
use Rattle.herd_pedigree.proofs.CheckFacts.{fault-first}
use Rattle.herd_pedigree.proofs.FoundFacts.{shown-found, told-found}
use Rattle.herd_pedigree.proofs.pedigree.Pedigree.set_parents_at_if_sound.Goals as goal

pub returns-in-Err-clause-fault : goal.returns-in-Err-clause-fault
returns-in-Err-clause-fault g c =
    told-found c.self.inside.records.book c.args.self.now.book (ap (λ p. p.book) c.self.view_is) c.self.invariant.kept.lawful.once c.args.found.now c.requires (animal_of (keys_of c.self.inside.records.book) c.stored_at-was.result) c.stored_at-was.ensures.animal DEPTH_LIMIT c.args.sire c.args.dam (Some c.in-Err.fault)
    (fault-first DEPTH_LIMIT c.self.inside.records.book c.args.found.now.number c.stored_at-was.result.birth c.args.sire c.args.dam c.stored_at-was.result.embryo c.in-Err.fault c.in-Err.ensures.fault)

pub returns-in-Err-clause-by_records : goal.returns-in-Err-clause-by_records
returns-in-Err-clause-by_records g c =
    shown-found c.self.inside.records.book c.args.self.now.book (ap (λ p. p.book) c.self.view_is) c.self.invariant.kept.lawful.once c.args.found.now c.requires (animal_of (keys_of c.self.inside.records.book) c.stored_at-was.result) c.stored_at-was.ensures.animal c.args.sire c.args.dam (Some c.in-Err.fault) c.in-Err.ensures.fault _ refl

pub returns-in-Ok-clause-by_records : goal.returns-in-Ok-clause-by_records
returns-in-Ok-clause-by_records g c =
    shown-found c.self.inside.records.book c.args.self.now.book (ap (λ p. p.book) c.self.view_is) c.self.invariant.kept.lawful.once c.args.found.now c.requires (animal_of (keys_of c.self.inside.records.book) c.stored_at-was.result) c.stored_at-was.ensures.animal c.args.sire c.args.dam None c.in-Ok.ensures.sound _ tt
