-- `Records::push_if_new`: the invariant and its result.
use Rattle.std.proofs.Common.{rules, arith, ◌≡◌, ◌∙◌, sym, ap, subst, ℕ, false, true, not, is_some, List, [], ◌∷◌, ◌++◌, None, Option, Result, Ok, Err, OnErr}
use Rattle.std.specs.Map.{keys_of, lookup}
use Rattle.std.specs.Option.{option_map}
use Rattle.std.specs.Str.{bytes_eq}
use Rattle.std.proofs.lemmas.Grind.{common_steps}
use Rattle.indexmap.specs.IndexMap.{get}
use Rattle.indexmap.proofs.CallerLemmas.{insert_entry-new}
use Rattle.herd_frozen.specs.declared.rules.animal.Animal.{Animal}
use Rattle.herd_frozen.specs.rules.Book.{Book, is_there, record_of}
use Rattle.herd_frozen.specs.places.Places.{IsIndexIn}
use Rattle.herd_pedigree.specs.Pedigree.{birth_record}
use Rattle.herd_pedigree.specs.store.Records.{AreClosed, stored_book, animal_of, stored_of}
use Rattle.herd_pedigree.specs.declared.store.records.StoredRecord.{StoredRecord}
use Rattle.herd_pedigree.proofs.lemmas.store.ListFacts.{is_some-map}
use Rattle.herd_pedigree.proofs.lemmas.store.RecordsFacts.{animal_of-stored, closed-push, keys-stored_book, lookup-book_with, stored_book-push}
use Rattle.herd_pedigree.proofs.store.records.Records.push_if_new.Goals as goal

-- entries that are as they were stand among themselves
closed-kept : (es new : List (List ℕ × StoredRecord)) → AreClosed es → new ≡ es → AreClosed new
closed-kept es new closed kept = rw kept closed

-- whether the number is there, and what is there of none
there : (es : List (List ℕ × StoredRecord)) (number : List ℕ) → is_there (stored_book es) number ≡ is_some (lookup (bytes_eq number) es)
there es number = ap (λ o. is_some o) (lookup-book_with (keys_of es) (bytes_eq number) es) ∙ is_some-map (animal_of (keys_of es)) (lookup (bytes_eq number) es)

absent : (es : List (List ℕ × StoredRecord)) (number : List ℕ) → lookup (bytes_eq number) es ≡ None → record_of (stored_book es) number ≡ None
absent es number none = lookup-book_with (keys_of es) (bytes_eq number) es ∙ ap (λ o. option_map (animal_of (keys_of es)) o) none

on_err : {A E : Type 0} (result : Result A E) (P : Type 0) → P → OnErr result P
on_err (Ok value) P told = tt
on_err (Err error) P told = told

-- entries with one more, whose places are those of the parents
module _ (es new : List (List ℕ × StoredRecord)) (closed : AreClosed es) (book : Book) (same : stored_book es ≡ book) (x : List ℕ) (e : StoredRecord) (animal : Animal) (sire dam : Option ℕ) (is : e ≡ stored_of animal sire dam)
    (sire_is : IsIndexIn (keys_of book) sire animal.sire) (dam_is : IsIndexIn (keys_of book) dam animal.dam) (pushed : new ≡ es ++ (x, e) ∷ []) where
  keys : keys_of book ≡ keys_of es
  keys = ap (λ b. keys_of b) (sym same) ∙ keys-stored_book es

  its_sire : IsIndexIn (keys_of es) e.sire animal.sire
  its_sire = rw (is, ← keys) sire_is

  its_dam : IsIndexIn (keys_of es) e.dam animal.dam
  its_dam = rw (is, ← keys) dam_is

  closed-more : AreClosed new
  closed-more = rw pushed (closed-push es closed x e animal its_sire its_dam)

  book-more : stored_book new ≡ book ++ (x, animal) ∷ []
  book-more =
      ap (λ l. stored_book l) pushed ∙ stored_book-push es closed x e animal its_sire its_dam
      ∙ (λ i. same i ++ (x, animal_of-stored (keys_of es) e animal sire dam is its_sire its_dam i) ∷ [])

pub invariant_of-self : goal.invariant_of-self
invariant_of-self g c = closed-kept c.self.inside.entries.entries _ c.self.invariant (search rules)

pub returns-in_err-entry-clause-absent : goal.returns-in_err-entry-clause-absent
returns-in_err-entry-clause-absent g c =
    on_err c.from_residual.result _
    (subst (λ r. record_of r.book c.args.number ≡ None) c.self.view_is (absent c.self.inside.entries.entries c.args.number c.in_err-entry.ensures.absent))

pub invariant_of-self-in_default : goal.invariant_of-self-in_default
invariant_of-self-in_default g c = closed-kept c.self.inside.entries.entries _ c.self.invariant (search rules)

pub returns-in_default-clause-new : goal.returns-in_default-clause-new
returns-in_default-clause-new g c =
    let es : List (List ℕ × StoredRecord) = c.self.inside.entries.entries in
    let told : false ≡ not (is_some (get bytes_eq c.self.inside.entries c.args.number)) = grind (arith, common_steps) in
    subst (λ r. false ≡ not (is_there r.book c.args.number)) c.self.view_is (told ∙ ap (λ t. not t) (sym (there es c.args.number)))

pub invariant_of-self-2 : goal.invariant_of-self-2
invariant_of-self-2 g c =
    let none : get bytes_eq c.self.inside.entries c.args.number ≡ None = rw c.in-Vacant.is at c.in_ok-entry.ensures.found in
    let last = insert_entry-new bytes_eq c.self.inside.entries c.args.number c.new-stored.result none in
    let put = c.in_ok-entry.ensures.update.1 c.new-stored.result in
    closed-more c.self.inside.entries.entries _ c.self.invariant c.args.self.now.book (ap (λ r. r.book) c.self.view_is) c.args.number c.new-stored.result (birth_record c.args.newborn) c.args.sire c.args.dam c.new-stored.ensures c.requires.sire c.requires.dam
    (search (rules, last, put))

pub returns-clause-new : goal.returns-clause-new
returns-clause-new g c =
    let es : List (List ℕ × StoredRecord) = c.self.inside.entries.entries in
    let none : get bytes_eq c.self.inside.entries c.args.number ≡ None = rw c.in-Vacant.is at c.in_ok-entry.ensures.found in
    subst (λ r. true ≡ not (is_there r.book c.args.number)) c.self.view_is (ap (λ o. not (is_some o)) (sym none) ∙ ap (λ t. not t) (sym (there es c.args.number)))

pub returns-clause-added : goal.returns-clause-added
returns-clause-added g c =
    let none : get bytes_eq c.self.inside.entries c.args.number ≡ None = rw c.in-Vacant.is at c.in_ok-entry.ensures.found in
    let last = insert_entry-new bytes_eq c.self.inside.entries c.args.number c.new-stored.result none in
    let put = c.in_ok-entry.ensures.update.1 c.new-stored.result in
    λ _. book-more c.self.inside.entries.entries _ c.self.invariant c.args.self.now.book (ap (λ r. r.book) c.self.view_is) c.args.number c.new-stored.result (birth_record c.args.newborn) c.args.sire c.args.dam c.new-stored.ensures c.requires.sire c.requires.dam
    (search (rules, last, put))
