-- `RecordsSearched::entry_at`: its result.
use Rattle.std.proofs.Common.{◌≡◌, ◌∙◌, sym, ap, ℕ, List, Some, slice_get}
use Rattle.std.specs.Map.{keys_of}
use Rattle.herd_frozen.proofs.lemmas.ListFacts.{entry_from_both}
use Rattle.herd_pedigree.specs.declared.store.records.StoredRecord.{StoredRecord}
use Rattle.herd_pedigree.proofs.lemmas.store.RecordsFacts.{keys-stored_book}
use Rattle.herd_pedigree.proofs.store.records.RecordsSearched.entry_at.Goals as goal

pub returns : goal.returns
returns g c =
    let es : List (List ℕ × StoredRecord) = c.self.inside.entries.entries in
    let keys : keys_of c.args.self.now.book ≡ keys_of es = ap (λ r. keys_of r.book) (sym c.self.view_is) ∙ keys-stored_book es in
    let number : slice_get (keys_of c.args.self.now.book) c.args.place ≡ Some c.index.result.now =
    ap (λ ks. slice_get ks c.args.place) (keys ∙ sym c.keys.ensures.rest) ∙ c.index.ensures in
    entry_from_both c.args.self.now.book c.args.place c.index.result.now c.animal_at.result number c.animal_at.ensures
