-- `Records::animal_at`: its result.
use Rattle.std.proofs.Common.{◌≡◌, ◌∙◌, sym, ap, subst, ℕ, List, Some, slice_get}
use Rattle.std.specs.Map.{keys_of, values_of}
use Rattle.herd_pedigree.specs.store.Records.{animal_of}
use Rattle.herd_pedigree.specs.declared.store.records.StoredRecord.{StoredRecord}
use Rattle.herd_pedigree.proofs.lemmas.store.RecordsFacts.{keys-stored_book, value-book_with}
use Rattle.herd_pedigree.proofs.store.records.Records.animal_at.Goals as goal

pub returns : goal.returns
returns g c =
    let es : List (List ℕ × StoredRecord) = c.self.inside.entries.entries in
    let entry : StoredRecord = c.index.result.now in
    let same : c.animal_of.result ≡ animal_of (keys_of es) entry = c.animal_of.ensures ∙ ap (λ ks. animal_of ks entry) (ap (λ r. keys_of r.book) (sym c.self.view_is) ∙ keys-stored_book es) in
    subst (λ r. slice_get (values_of r.book) c.args.place ≡ Some c.animal_of.result) c.self.view_is
    (value-book_with (keys_of es) es c.args.place entry c.index.ensures ∙ ap Some (sym same))
