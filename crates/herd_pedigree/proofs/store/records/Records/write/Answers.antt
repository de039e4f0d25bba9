-- `Records::write`: the invariant and its result.
use Rattle.std.proofs.Common.{◌≡◌, ◌<◌, ◌∙◌, sym, ap, subst, ℕ, List, IfSome, length}
use Rattle.std.specs.Map.{keys_of}
use Rattle.herd_pedigree.specs.store.Records.{AreClosed, animal_of, set_value_at, stored_book}
use Rattle.herd_pedigree.specs.declared.store.records.StoredRecord.{StoredRecord}
use Rattle.herd_pedigree.proofs.lemmas.store.ListFacts.{map-set}
use Rattle.herd_pedigree.proofs.lemmas.store.RecordsFacts.{closed-set, keys-stored_book, length-stored_book, stored_book-set}
use Rattle.herd_pedigree.proofs.store.records.Records.write.Goals as goal

pub invariant_of-self : goal.invariant_of-self
invariant_of-self g c =
    let es : List (List ℕ × StoredRecord) = c.self.inside.entries.entries in
    let stored : StoredRecord = c.args.stored in
    let long : length c.args.self.now.book ≡ length es = ap (λ r. length r.book) (sym c.self.view_is) ∙ length-stored_book es in
    subst (λ es. AreClosed es) (sym (map-set es c.args.place _))
    (closed-set es c.self.invariant c.args.place _
    (subst (λ n. IfSome stored.sire (λ p. p < n)) long c.requires.sire)
    (subst (λ n. IfSome stored.dam (λ p. p < n)) long c.requires.dam))

pub returns : goal.returns
returns g c =
    let es : List (List ℕ × StoredRecord) = c.self.inside.entries.entries in
    let stored : StoredRecord = c.args.stored in
    ap (λ es. stored_book es) (map-set es c.args.place stored)
    ∙ subst (λ r. stored_book (set_value_at es c.args.place stored) ≡ set_value_at r.book c.args.place (animal_of (keys_of r.book) stored)) c.self.view_is
    (stored_book-set es c.args.place stored ∙ ap (λ ks. set_value_at (stored_book es) c.args.place (animal_of ks stored)) (sym (keys-stored_book es)))
