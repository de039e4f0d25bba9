-- `Pedigree::set_record`: what `write` requires, the invariant, and its result.
use Rattle.std.proofs.Common.{◌<◌, sym, ap, ◌∙◌, subst, ◌≡◌, ℕ, List, Option, IfSome, Some, length}
use Rattle.std.specs.Map.{keys_of}
use Rattle.herd_frozen.specs.rules.Book.{Book}
use Rattle.herd_frozen.specs.rules.Lawful.{IsLawful}
use Rattle.herd_frozen.specs.places.Places.{number_at}
use Rattle.herd_pedigree.specs.declared.store.records.StoredRecord.{StoredRecord}
use Rattle.herd_pedigree.specs.declared.store.undo.Undo.TheVariants.{Record}
use Rattle.herd_pedigree.specs.Pedigree.{changed_to}
use Rattle.herd_pedigree.specs.store.Records.{IsStoredAt, animal_of, set_value_at}
use Rattle.herd_pedigree.specs.store.Undo.{IsHeld}
use Rattle.herd_frozen.specs.declared.TheConstants.{DEPTH_LIMIT, MOST_ANIMALS}
use Rattle.herd_frozen.proofs.lemmas.ListFacts.{entry_from_value}
use Rattle.herd_pedigree.proofs.lemmas.store.RecordsFacts.{stored-parents}
use Rattle.herd_pedigree.proofs.lemmas.store.SetFacts.{IsHeld-same, set-view}
use Rattle.herd_pedigree.proofs.pedigree.Pedigree.set_record.Goals as goal

pub write-requires-clause-sire : goal.write-requires-clause-sire
write-requires-clause-sire g c =
    subst (λ o. IfSome o (λ p. p < length c.self.inside.records.book)) (sym c.requires.sire)
    (subst (λ r. IfSome c.args.was.sire (λ p. p < length r.book)) (sym c.self.view_is) c.requires.stored.sire)

pub write-requires-clause-dam : goal.write-requires-clause-dam
write-requires-clause-dam g c =
    subst (λ o. IfSome o (λ p. p < length c.self.inside.records.book)) (sym c.requires.dam)
    (subst (λ r. IfSome c.args.was.dam (λ p. p < length r.book)) (sym c.self.view_is) c.requires.stored.dam)

pub invariant_of-self : goal.invariant_of-self
invariant_of-self g c =
    let book : Book = c.self.inside.records.book in
    let sires : List (Option ℕ) = c.self.inside.sires.parents in
    let dams : List (Option ℕ) = c.self.inside.dams.parents in
    let depths : List ℕ = c.self.inside.depths.items in
    let log : List (ℕ × ℕ) = c.clear.new.self.items in
    let place : ℕ = c.args.place in
    let was : StoredRecord = c.args.was in
    let becomes : StoredRecord = c.args.becomes in
    let kept = c.self.invariant.kept in
    let stored : IsStoredAt book place was = subst (λ p. IsStoredAt p.book place was) (sym c.self.view_is) c.requires.stored in
    let lawful : IsLawful DEPTH_LIMIT MOST_ANIMALS (set_value_at book place (animal_of (keys_of book) becomes)) =
    subst (λ p. IsLawful DEPTH_LIMIT MOST_ANIMALS (set_value_at p.book place (animal_of (keys_of p.book) becomes))) (sym c.self.view_is) c.requires.lawful in
    let entry = entry_from_value book place (animal_of (keys_of book) was) stored.animal in
    subst (λ b. IsHeld DEPTH_LIMIT MOST_ANIMALS b sires dams depths log (Record place was)) (sym c.write.ensures)
    (IsHeld-same DEPTH_LIMIT MOST_ANIMALS book sires dams depths kept place entry.0 was (animal_of (keys_of book) becomes) entry.1
    (ap (λ o. number_at (keys_of book) o) c.requires.sire) (ap (λ o. number_at (keys_of book) o) c.requires.dam) lawful log c.clear.ensures.items
    (stored-parents book sires dams kept.lawful.once kept.sires_are kept.dams_are place entry.0 was entry.1 stored))

pub returns : goal.returns
returns g c =
    let book : Book = c.self.inside.records.book in
    let place : ℕ = c.args.place in
    let was : StoredRecord = c.args.was in
    let becomes : StoredRecord = c.args.becomes in
    let stored : IsStoredAt book place was = subst (λ p. IsStoredAt p.book place was) (sym c.self.view_is) c.requires.stored in
    let entry = entry_from_value book place (animal_of (keys_of book) was) stored.animal in
    let same : book ≡ c.args.self.now.book = ap (λ p. p.book) c.self.view_is in
    subst (λ b. record { book = b; before = Some (set_value_at b place (animal_of (keys_of b) was)) } ≡ changed_to c.args.self.now (set_value_at c.args.self.now.book place (animal_of (keys_of c.args.self.now.book) becomes))) (sym c.write.ensures)
    (set-view c.args.self.now book place entry.0 was (animal_of (keys_of book) becomes) entry.1 same
    ∙ ap (λ b. changed_to c.args.self.now (set_value_at c.args.self.now.book place (animal_of (keys_of b) becomes))) same)
