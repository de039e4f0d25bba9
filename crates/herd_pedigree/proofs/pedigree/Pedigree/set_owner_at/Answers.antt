-- `Pedigree::set_owner_at`: what `set_record` requires and its result.
use Rattle.std.proofs.Common.{ap, ◌∙◌, subst}
use Rattle.std.specs.Map.{keys_of}
use Rattle.herd_frozen.specs.rules.Book.{with_owner}
use Rattle.herd_pedigree.specs.Pedigree.{changed_to}
use Rattle.herd_pedigree.specs.store.Records.{IsStoredAt, animal_of}
use Rattle.herd_frozen.specs.declared.TheConstants.{DEPTH_LIMIT, MOST_ANIMALS}
use Rattle.herd_pedigree.proofs.lemmas.LawfulChanges.{lawful-owner}
use Rattle.herd_pedigree.proofs.FoundFacts.{lawful-found, set-found}
use Rattle.herd_pedigree.proofs.pedigree.Pedigree.set_owner_at.Goals as goal

pub set_record-requires-clause-stored : goal.set_record-requires-clause-stored
set_record-requires-clause-stored g c = subst (λ p. IsStoredAt p.book c.args.found.now.place c.stored_at-was.result) c.self.view_is c.stored_at-was.ensures

pub set_record-requires-clause-lawful : goal.set_record-requires-clause-lawful
set_record-requires-clause-lawful g c =
    lawful-found c.self.inside.records.book c.args.self.now.book (ap (λ p. p.book) c.self.view_is) c.self.invariant.kept.lawful.once c.args.found.now c.requires.found c.stored_at-was.result c.stored_at-was.ensures c.with_owner.result (with_owner c.args.herd c.args.day) (ap (λ e. animal_of (keys_of c.self.inside.records.book) e) c.with_owner.ensures)
    c.self.invariant.kept.lawful
    (λ lawful. lawful-owner DEPTH_LIMIT MOST_ANIMALS c.args.self.now.book c.args.found.now.number c.args.herd c.args.day lawful c.requires.present)

pub returns : goal.returns
returns g c =
    c.set_record.ensures
    ∙ ap (λ b. changed_to c.args.self.now b)
    (set-found c.self.inside.records.book c.args.self.now.book (ap (λ p. p.book) c.self.view_is) c.self.invariant.kept.lawful.once c.args.found.now c.requires.found c.stored_at-was.result c.stored_at-was.ensures c.with_owner.result (with_owner c.args.herd c.args.day) (ap (λ e. animal_of (keys_of c.self.inside.records.book) e) c.with_owner.ensures))
