-- `Records::place_of`: its clauses `index`, `found` and `value`.
use Rattle.std.proofs.Common.{◌≡◌, ◌∙◌, sym, ap, subst, ℕ, List, IfSome, is_some, position, slice_get}
use Rattle.std.specs.Map.{keys_of, values_of, lookup}
use Rattle.std.specs.Str.{bytes_eq}
use Rattle.herd_frozen.specs.rules.Book.{is_there, record_of}
use Rattle.herd_pedigree.specs.store.Records.{animal_of}
use Rattle.herd_pedigree.specs.declared.store.records.StoredRecord.{StoredRecord}
use Rattle.herd_pedigree.proofs.lemmas.store.ListFacts.{is_some-map}
use Rattle.herd_pedigree.proofs.lemmas.store.RecordsFacts.{keys-stored_book, lookup-book_with, value-found}
use Rattle.herd_pedigree.proofs.store.records.Records.place_of.Goals as goal

pub returns-clause-index : goal.returns-clause-index
returns-clause-index g c =
    let es : List (List ℕ × StoredRecord) = c.self.inside.entries.entries in
    let number : List ℕ = c.args.number.now in
    subst (λ r. c.get_index_of.result ≡ position (bytes_eq number) (keys_of r.book)) c.self.view_is
    (c.get_index_of.ensures.index ∙ ap (λ ks. position (bytes_eq number) ks) (sym (keys-stored_book es)))

pub returns-clause-found : goal.returns-clause-found
returns-clause-found g c =
    let es : List (List ℕ × StoredRecord) = c.self.inside.entries.entries in
    let number : List ℕ = c.args.number.now in
    subst (λ r. is_some c.get_index_of.result ≡ is_there r.book number) c.self.view_is
    (c.get_index_of.ensures.found ∙ sym (is_some-map (animal_of (keys_of es)) (lookup (bytes_eq number) es)) ∙ sym (ap (λ o. is_some o) (lookup-book_with (keys_of es) (bytes_eq number) es)))

pub returns-clause-value : goal.returns-clause-value
returns-clause-value g c =
    let es : List (List ℕ × StoredRecord) = c.self.inside.entries.entries in
    let number : List ℕ = c.args.number.now in
    subst (λ r. IfSome c.get_index_of.result (λ place. slice_get (values_of r.book) place ≡ record_of r.book number)) c.self.view_is
    (value-found es number c.get_index_of.result c.get_index_of.ensures.found c.get_index_of.ensures.value)
