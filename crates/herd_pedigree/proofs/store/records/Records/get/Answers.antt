-- `Records::get`: its result.
use Rattle.std.proofs.Common.{rules, ◌≡◌, ◌∙◌, sym, ap, subst, ℕ, List, None, Some}
use Rattle.std.specs.Map.{keys_of}
use Rattle.std.specs.Option.{option_map}
use Rattle.std.specs.Str.{bytes_eq}
use Rattle.herd_frozen.specs.rules.Book.{record_of}
use Rattle.herd_pedigree.specs.store.Records.{stored_book, animal_of}
use Rattle.herd_pedigree.specs.declared.store.records.StoredRecord.{StoredRecord}
use Rattle.herd_pedigree.proofs.lemmas.store.RecordsFacts.{keys-stored_book, lookup-book_with}
use Rattle.herd_pedigree.proofs.store.records.Records.get.Goals as goal

pub returns-in_err-stored : goal.returns-in_err-stored
returns-in_err-stored g c =
    let es : List (List ℕ × StoredRecord) = c.self.inside.entries.entries in
    let number : List ℕ = c.args.number.now in
    let told : None ≡ record_of (stored_book es) number =
    ap (λ o. option_map (animal_of (keys_of es)) o) c.in_err-stored.ensures.value ∙ sym (lookup-book_with (keys_of es) (bytes_eq number) es) in
    let none : c.from_residual.result ≡ None = search rules in
    none ∙ subst (λ r. None ≡ record_of r.book number) c.self.view_is told

pub returns : goal.returns
returns g c =
    let es : List (List ℕ × StoredRecord) = c.self.inside.entries.entries in
    let number : List ℕ = c.args.number.now in
    let same : c.animal_of.result ≡ animal_of (keys_of es) c.in_ok-stored.stored.now =
    c.animal_of.ensures ∙ ap (λ ks. animal_of ks c.in_ok-stored.stored.now) (ap (λ r. keys_of r.book) (sym c.self.view_is) ∙ keys-stored_book es) in
    subst (λ r. Some c.animal_of.result ≡ record_of r.book number) c.self.view_is
    (ap Some same ∙ ap (λ o. option_map (animal_of (keys_of es)) o) c.in_ok-stored.ensures.value ∙ sym (lookup-book_with (keys_of es) (bytes_eq number) es))
