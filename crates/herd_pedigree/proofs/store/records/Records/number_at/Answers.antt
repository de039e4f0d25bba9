-- `Records::number_at`: its result.
use Rattle.std.proofs.Common.{◌≡◌, ◌∙◌, sym, ap, subst, ℕ, List, Some, slice_get}
use Rattle.std.specs.Map.{keys_of}
use Rattle.std.specs.Option.{option_map}
use Rattle.std.proofs.lemmas.Option.{slice_get-map}
use Rattle.herd_pedigree.specs.store.Records.{stored_book}
use Rattle.herd_frozen.specs.places.Places.{number_at}
use Rattle.herd_pedigree.specs.declared.store.records.StoredRecord.{StoredRecord}
use Rattle.herd_pedigree.proofs.lemmas.store.RecordsFacts.{keys-stored_book}
use Rattle.herd_pedigree.proofs.store.records.Records.number_at.Goals as goal

pub returns : goal.returns
returns g c =
    let es : List (List ℕ × StoredRecord) = c.self.inside.entries.entries in
    let place : ℕ = c.in_ok-place.place in
    let at : Some c.in_ok-number.number.now ≡ slice_get (keys_of (stored_book es)) place =
    ap (λ o. option_map (λ (e : List ℕ × StoredRecord). e.0) o) c.in_ok-number.ensures.entry ∙ sym (slice_get-map (λ (e : List ℕ × StoredRecord). e.0) es place) ∙ ap (λ ks. slice_get ks place) (sym (keys-stored_book es)) in
    let told : Some c.in_ok-number.number.now ≡ number_at (keys_of (stored_book es)) c.args.place = rw c.in_ok-place.was at in
    subst (λ r. Some c.in_ok-number.number.now ≡ number_at (keys_of r.book) c.args.place) c.self.view_is told
