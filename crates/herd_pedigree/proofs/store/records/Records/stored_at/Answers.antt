-- `Records::stored_at`: its result.
use Rattle.std.proofs.Common.{subst, ℕ, List}
use Rattle.herd_pedigree.specs.store.Records.{IsStoredAt}
use Rattle.herd_pedigree.specs.declared.store.records.StoredRecord.{StoredRecord}
use Rattle.herd_pedigree.proofs.lemmas.store.RecordsFacts.{stored-kept}
use Rattle.herd_pedigree.proofs.store.records.Records.stored_at.Goals as goal

pub returns : goal.returns
returns g c =
    let es : List (List ℕ × StoredRecord) = c.self.inside.entries.entries in
    let entry : StoredRecord = c.index.result.now in
    subst (λ r. IsStoredAt r.book c.args.place entry) c.self.view_is (stored-kept es c.args.place entry c.index.ensures c.self.invariant)
