-- `RecordsRegistered::kept_at`: its result.
use Rattle.std.proofs.Common.{◌≡◌, ◌∙◌, refl, sym, ap, subst, ℕ, List, Some, map, slice_get}
use Rattle.std.specs.Map.{keys_of}
use Rattle.std.proofs.lemmas.Option.{slice_get-map}
use Rattle.herd_frozen.specs.freezing.Rows.{kept_of}
use Rattle.herd_frozen.proofs.lemmas.ListFacts.{entry_from_both}
use Rattle.herd_pedigree.specs.declared.store.records.StoredRecord.{StoredRecord}
use Rattle.herd_pedigree.specs.store.Records.{animal_of, stored_book}
use Rattle.herd_pedigree.proofs.lemmas.store.RecordsFacts.{entry-book_with}
use Rattle.herd_pedigree.proofs.store.records.RecordsRegistered.kept_at.Goals as goal

pub returns : goal.returns
returns g c =
    let es : List (List ℕ × StoredRecord) = c.self.inside.entries.entries in
    let number : List ℕ = c.index.result.now in
    let stored : StoredRecord = c.index-stored.result.now in
    let entry : slice_get es c.args.place ≡ Some (number, stored) =
    entry_from_both es c.args.place number stored (ap (λ ks. slice_get ks c.args.place) (sym c.keys.ensures.rest) ∙ c.index.ensures) c.index-stored.ensures in
    let here : slice_get (stored_book es) c.args.place ≡ Some (number, animal_of (keys_of es) stored) = entry-book_with (keys_of es) es c.args.place ∙ rw entry refl in
    subst (λ r. slice_get (map kept_of r.book) c.args.place ≡ Some (kept_of (number, animal_of (keys_of es) stored))) c.self.view_is
    (slice_get-map kept_of (stored_book es) c.args.place ∙ rw here refl)
