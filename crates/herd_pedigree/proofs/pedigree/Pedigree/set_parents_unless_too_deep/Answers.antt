-- `Pedigree::set_parents_unless_too_deep`: what `carry_if_shallow`, `write` and `set` require, the invariant, and its clauses `fault` and `set`.
use Rattle.std.proofs.Common.{arith, sym, ap, ◌∙◌, subst, ◌≡◌, ◌<◌, ℕ, List, [], Option, Some, None, IfSome, All, length, slice_index, slice_get, slice_set}
use Rattle.std.specs.Map.{keys_of}
use Rattle.std.specs.Vec.{with_items}
use Rattle.std.proofs.lemmas.List.{with_items_is}
use Rattle.herd_frozen.specs.declared.rules.animal.Animal.{Animal}
use Rattle.herd_pedigree.specs.declared.store.records.StoredRecord.{StoredRecord}
use Rattle.herd_pedigree.specs.declared.store.undo.Undo.TheVariants.{Record}
use Rattle.herd_frozen.specs.rules.Book.{Book, changed, with_parents}
use Rattle.herd_frozen.specs.rules.ParentFault.{fault_by_records, parent_fault}
use Rattle.herd_frozen.specs.places.Places.{IsIndexIn}
use Rattle.herd_pedigree.specs.Pedigree.{IsCorrection, IsFaultWith, changed_to}
use Rattle.herd_frozen.specs.declared.rules.parent_fault.ParentFault.{ParentFault}
use Rattle.herd_frozen.specs.declared.rules.parent_fault.ParentFault.TheVariants.{TooDeep}
use Rattle.herd_pedigree.specs.store.Carrying.{IsSettled}
use Rattle.herd_pedigree.specs.store.Exchange.{exchanged}
use Rattle.herd_pedigree.specs.store.Records.{IsStoredAt, animal_of, set_value_at}
use Rattle.herd_pedigree.specs.store.Undo.{IsHeld, TakesBack}
use Rattle.herd_frozen.specs.declared.TheConstants.{DEPTH_LIMIT, MOST_ANIMALS}
use Rattle.herd_frozen.proofs.lemmas.rules.BookFacts.{lookup_at}
use Rattle.herd_pedigree.proofs.lemmas.store.RecordsFacts.{animal_of-parents, stored-entry, stored-parents}
use Rattle.herd_pedigree.proofs.lemmas.store.SetFacts.{record-view}
use Rattle.herd_pedigree.proofs.CheckFacts.{correction-depths, correction-sound, fault-deep, fault-none, named-in, named-parent}
use Rattle.herd_pedigree.proofs.FoundFacts.{its-number, told-found}
use Rattle.herd_pedigree.proofs.HeldFacts.{IsHeld-corrected}
use Rattle.herd_pedigree.proofs.pedigree.Pedigree.set_parents_unless_too_deep.Given.{Over}
use Rattle.herd_pedigree.proofs.pedigree.Pedigree.set_parents_unless_too_deep.Goals.{After-carry_if_shallow}
use Rattle.herd_pedigree.proofs.pedigree.Pedigree.set_parents_unless_too_deep.Goals as goal

pub invariant_of-correction : goal.invariant_of-correction
invariant_of-correction g c =
    let i = c.self.inside in
    let parents = c.args.parents in
    let within = subst (λ p. c.args.found.now.place < length p.book) (sym c.self.view_is) c.requires.found.within in
    let sire = subst (λ p. IsIndexIn (keys_of p.book) parents.sire c.args.sire.now) (sym c.self.view_is) c.requires.sire in
    let dam = subst (λ p. IsIndexIn (keys_of p.book) parents.dam c.args.dam.now) (sym c.self.view_is) c.requires.dam in
    record {
      sound = correction-sound DEPTH_LIMIT MOST_ANIMALS i.records.book i.sires.parents i.dams.parents i.depths.items c.self.invariant.kept c.args.found.now.place parents.sire parents.dam
          within (named-in i.records.book parents.sire c.args.sire.now sire) (named-in i.records.book parents.dam c.args.dam.now dam);
    }

-- what is required, of the book that is inside
within : (g : Over) (c : After-carry_if_shallow g) → c.args.found.now.place < length c.self.inside.records.book
within g c = subst (λ p. c.args.found.now.place < length p.book) (sym c.self.view_is) c.requires.found.within

stored : (g : Over) (c : After-carry_if_shallow g) → IsStoredAt c.self.inside.records.book c.args.found.now.place c.args.was
stored g c = subst (λ p. IsStoredAt p.book c.args.found.now.place c.args.was) (sym c.self.view_is) c.requires.stored

sound : (g : Over) (c : After-carry_if_shallow g) → fault_by_records c.self.inside.records.book c.args.was.birth c.args.sire.now c.args.dam.now c.args.was.embryo ≡ None
sound g c = subst (λ p. fault_by_records p.book c.args.was.birth c.args.sire.now c.args.dam.now c.args.was.embryo ≡ None) (sym c.self.view_is) c.requires.sound

sire : (g : Over) (c : After-carry_if_shallow g) → IsIndexIn (keys_of c.self.inside.records.book) c.args.parents.sire c.args.sire.now
sire g c = subst (λ p. IsIndexIn (keys_of p.book) c.args.parents.sire c.args.sire.now) (sym c.self.view_is) c.requires.sire

dam : (g : Over) (c : After-carry_if_shallow g) → IsIndexIn (keys_of c.self.inside.records.book) c.args.parents.dam c.args.dam.now
dam g c = subst (λ p. IsIndexIn (keys_of p.book) c.args.parents.dam c.args.dam.now) (sym c.self.view_is) c.requires.dam

number_at : (g : Over) (c : After-carry_if_shallow g) → slice_get (keys_of c.self.inside.records.book) c.args.found.now.place ≡ Some c.args.found.now.number
number_at g c = its-number c.self.inside.records.book c.args.self.now.book (ap (λ p. p.book) c.self.view_is) c.self.invariant.kept.lawful.once c.args.found.now c.requires.found

-- the first fault of the new parents by the book that is inside is that by the book that is shown
told : (g : Over) (c : After-carry_if_shallow g) (fault : Option ParentFault) →
    fault ≡ parent_fault DEPTH_LIMIT c.self.inside.records.book c.args.found.now.number c.args.was.birth c.args.sire.now c.args.dam.now c.args.was.embryo →
    IsFaultWith DEPTH_LIMIT c.args.self.now.book c.args.found.now.number c.args.sire.now c.args.dam.now fault
told g c fault first =
    told-found c.self.inside.records.book c.args.self.now.book (ap (λ p. p.book) c.self.view_is) c.self.invariant.kept.lawful.once c.args.found.now c.requires.found
    (animal_of (keys_of c.self.inside.records.book) c.args.was) (stored g c).animal DEPTH_LIMIT c.args.sire.now c.args.dam.now fault first

pub carry_if_shallow-requires : goal.carry_if_shallow-requires
carry_if_shallow-requires g c =
    correction-depths DEPTH_LIMIT MOST_ANIMALS c.self.inside.records.book c.self.inside.depths.items _ c.self.invariant.kept _ c.deref_mut.ensures.value

-- depths that were carried on and given back are those that the pedigree keeps
given_back : (g : Over) (c : After-carry_if_shallow g) → c.carry_if_shallow.new.depths ≡ c.deref_mut.result.now → (with_items c.self.inside.depths c.carry_if_shallow.new.depths).items ≡ c.self.inside.depths.items
given_back g c same =
    with_items_is c.self.inside.depths c.carry_if_shallow.new.depths (c.carry_if_shallow.auto.depths ∙ c.deref_mut.ensures.len) ∙ same ∙ c.deref_mut.ensures.value

pub invariant_of-self : goal.invariant_of-self
invariant_of-self g c = rw (given_back g (goal.at.invariant_of-self g c).After-carry_if_shallow c.in_err-log.ensures.err) c.self.invariant

pub invariant_of-self-in_default : goal.invariant_of-self-in_default
invariant_of-self-in_default g c =
    rw (given_back g (goal.at.invariant_of-self-in_default g c).After-carry_if_shallow (rw c.in_default.is at c.in_ok-log.ensures.same)) c.self.invariant

pub returns-in_default-clause-fault : goal.returns-in_default-clause-fault
returns-in_default-clause-fault g c =
    let here = (goal.at.returns-in_default-clause-fault g c).After-carry_if_shallow in
    told g here (Some TooDeep)
    (fault-deep DEPTH_LIMIT MOST_ANIMALS _ _ _ _ c.self.invariant.kept _ _ (number_at g here) _ _ _ _ (sire g here) (dam g here) _ _ (sound g here) (rw c.in_default.is at c.in_ok-log.ensures.deep))

pub write-requires-clause-sire : goal.write-requires-clause-sire
write-requires-clause-sire g c =
    let here = (goal.at.write-requires-clause-sire g c).After-carry_if_shallow in
    let sire = sire g here in
    subst (λ (e : StoredRecord). IfSome e.sire (λ p. p < length c.self.inside.records.book)) (sym c.with_parents.ensures) (named-in c.self.inside.records.book c.args.parents.sire c.args.sire.now sire)

pub write-requires-clause-dam : goal.write-requires-clause-dam
write-requires-clause-dam g c =
    let here = (goal.at.write-requires-clause-dam g c).After-carry_if_shallow in
    let dam = dam g here in
    subst (λ (e : StoredRecord). IfSome e.dam (λ p. p < length c.self.inside.records.book)) (sym c.with_parents.ensures) (named-in c.self.inside.records.book c.args.parents.dam c.args.dam.now dam)

-- Depths were carried on to the end, so that the new parents have no fault: the correction is one that the book may take.
pub invariant_of-self-2 : goal.invariant_of-self-2
invariant_of-self-2 g c =
    let here = (goal.at.invariant_of-self-2 g c).After-carry_if_shallow in
    let stored = stored g here in
    let sound = sound g here in
    let sire = sire g here in
    let dam = dam g here in
    let i = c.self.inside in
    let place : ℕ = c.args.found.now.place in
    let parents = c.args.parents in
    let number_at = number_at g here in
    let book : Book = i.records.book in
    let sires : List (Option ℕ) = i.sires.parents in
    let dams : List (Option ℕ) = i.dams.parents in
    let kept = c.self.invariant.kept in
    let was : StoredRecord = c.args.was in
    let entry : slice_get book place ≡ Some (c.args.found.now.number, animal_of (keys_of book) was) = stored-entry book place c.args.found.now.number was number_at stored in
    let becomes : Animal = with_parents c.args.sire.now c.args.dam.now (animal_of (keys_of book) was) in
    let written : c.write.new.self.book ≡ set_value_at book place becomes =
    c.write.ensures ∙ ap (λ v. set_value_at book place v) (ap (λ e. animal_of (keys_of book) e) c.with_parents.ensures ∙ animal_of-parents (keys_of book) was parents.sire parents.dam c.args.sire.now c.args.dam.now sire dam) in
    let asked : IsCorrection DEPTH_LIMIT book c.args.found.now.number c.args.sire.now c.args.dam.now = record {
      animal = animal_of (keys_of book) was;
      there = lookup_at book kept.lawful.once place c.args.found.now.number (animal_of (keys_of book) was) entry;
      parents = sym (fault-none DEPTH_LIMIT MOST_ANIMALS book sires dams i.depths.items kept c.args.found.now.number place number_at parents.sire parents.dam c.args.sire.now c.args.dam.now sire dam was.birth was.embryo sound
          (rw c.in-Some.is at c.in_ok-log.ensures.shallow));
    } in
    let log : List (ℕ × ℕ) = c.in-Some.log.items in
    let after : List ℕ = c.carry_if_shallow.new.depths in
    let long : length after ≡ length i.depths.items = c.carry_if_shallow.auto.depths ∙ ap (λ hs. length hs) c.deref_mut.ensures.value in
    let settled : IsSettled DEPTH_LIMIT (exchanged sires dams place parents.sire parents.dam) (slice_index after) [] = rw c.in-Some.is at c.in_ok-log.ensures.settled in
    let taken : TakesBack log after c.deref_mut.result.now = rw c.in-Some.is at c.in_ok-log.ensures.logged in
    let held : IsHeld DEPTH_LIMIT MOST_ANIMALS (set_value_at book place becomes) (slice_set sires place parents.sire) (slice_set dams place parents.dam) after log (Record place was) =
    IsHeld-corrected DEPTH_LIMIT MOST_ANIMALS book sires dams i.depths.items kept c.args.found.now.number place number_at was entry parents.sire parents.dam c.args.sire.now c.args.dam.now sire dam asked after long settled log
    (subst (λ n. All (λ (write : ℕ × ℕ). write.0 < n) log) long taken.within) (taken.undone ∙ c.deref_mut.ensures.value)
    (stored-parents book sires dams kept.lawful.once kept.sires_are kept.dams_are place c.args.found.now.number was entry stored) in
    let back : (with_items i.depths after).items ≡ after = with_items_is i.depths after (c.carry_if_shallow.auto.depths ∙ c.deref_mut.ensures.len) in
    let Q : Book → List (Option ℕ) → List (Option ℕ) → List ℕ → Type 0 = λ b ss ds hs. IsHeld DEPTH_LIMIT MOST_ANIMALS b ss ds hs log (Record place was) in
    subst (λ b. Q b c.set.new.self.parents c.set-2.new.self.parents (with_items i.depths after).items) (sym written)
    (subst (λ ss. Q (set_value_at book place becomes) ss c.set-2.new.self.parents (with_items i.depths after).items) (sym c.set.ensures)
    (subst (λ ds. Q (set_value_at book place becomes) (slice_set sires place parents.sire) ds (with_items i.depths after).items) (sym c.set-2.ensures)
    (subst (λ hs. Q (set_value_at book place becomes) (slice_set sires place parents.sire) (slice_set dams place parents.dam) hs) (sym back) held)))

pub returns-clause-fault : goal.returns-clause-fault
returns-clause-fault g c =
    let here = (goal.at.returns-clause-fault g c).After-carry_if_shallow in
    told g here None
    (fault-none DEPTH_LIMIT MOST_ANIMALS _ _ _ _ c.self.invariant.kept _ _ (number_at g here) _ _ _ _ (sire g here) (dam g here) _ _ (sound g here) (rw c.in-Some.is at c.in_ok-log.ensures.shallow))

pub returns-clause-set : goal.returns-clause-set
returns-clause-set g c =
    let here = (goal.at.returns-clause-set g c).After-carry_if_shallow in
    let stored = stored g here in
    let sire = sire g here in
    let dam = dam g here in
    let book : Book = c.self.inside.records.book in
    let number : List ℕ = c.args.found.now.number in
    let place : ℕ = c.args.found.now.place in
    let was : StoredRecord = c.args.was in
    let change : Animal → Animal = with_parents c.args.sire.now c.args.dam.now in
    let number_at = number_at g here in
    let written : c.write.new.self.book ≡ set_value_at book place (change (animal_of (keys_of book) was)) =
    c.write.ensures
    ∙ ap (λ v. set_value_at book place v) (ap (λ e. animal_of (keys_of book) e) c.with_parents.ensures ∙ animal_of-parents (keys_of book) was c.args.parents.sire c.args.parents.dam c.args.sire.now c.args.dam.now sire dam) in
    λ _.
    subst (λ b. record { book = b; before = Some (set_value_at b place (animal_of (keys_of b) was)) } ≡ changed_to c.args.self.now (changed c.args.self.now.book number change)) (sym written)
    (record-view c.args.self.now book c.self.invariant.kept.lawful.once place number was change (stored-entry book place number was number_at stored) (ap (λ p. p.book) c.self.view_is))

pub write-requires-clause-within : goal.write-requires-clause-within
write-requires-clause-within g c = within g (goal.at.write-requires-clause-within g c).After-carry_if_shallow

pub set-requires-clause-here : goal.set-requires-clause-here
set-requires-clause-here g c =
    let within = within g (goal.at.set-requires-clause-here g c).After-carry_if_shallow in
    let long = c.self.invariant.kept.sires_are.long in
    omega (arith, within, long)

pub set-requires-clause-within : goal.set-requires-clause-within
set-requires-clause-within g c = named-parent _ _ _ c.self.invariant.kept.sires_are _ _ (sire g (goal.at.set-requires-clause-within g c).After-carry_if_shallow)

pub set-requires-2-clause-here : goal.set-requires-2-clause-here
set-requires-2-clause-here g c =
    let within = within g (goal.at.set-requires-2-clause-here g c).After-carry_if_shallow in
    let long = c.self.invariant.kept.dams_are.long in
    omega (arith, within, long)

pub set-requires-2-clause-within : goal.set-requires-2-clause-within
set-requires-2-clause-within g c = named-parent _ _ _ c.self.invariant.kept.dams_are _ _ (dam g (goal.at.set-requires-2-clause-within g c).After-carry_if_shallow)
