-- `Pedigree::take_back`: what `pop`, `write` and `set` require and the invariant.
use Rattle.std.proofs.Common.{rules, sym, ap, ◌∙◌, ◌≡◌, ℕ, List, length}
use Rattle.std.proofs.lemmas.List.{with_items_is}
use Rattle.herd_frozen.specs.rules.Book.{Book}
use Rattle.herd_pedigree.specs.store.Undo.{undone_writes, without_last}
use Rattle.herd_frozen.specs.declared.TheConstants.{DEPTH_LIMIT, MOST_ANIMALS}
use Rattle.herd_pedigree.proofs.HeldFacts.{IsHeld-before, childless-dam, childless-sire, names_its_own-before, undo-dam, undo-dam_within, undo-sire, undo-sire_within}
use Rattle.herd_pedigree.proofs.lemmas.store.UndoFacts.{IsHeld-undone}
use Rattle.herd_pedigree.proofs.pedigree.Pedigree.take_back.Goals as goal

pub pop-requires-clause-childless : goal.pop-requires-clause-childless
pop-requires-clause-childless g c =
    let i = c.self.inside in
    names_its_own-before DEPTH_LIMIT MOST_ANIMALS i.records.book i.sires.parents i.dams.parents i.depths.items i.old_depths.items i.undo c.in-Birth.is c.self.invariant

pub pop-requires-in-Birth-clause-childless : goal.pop-requires-in-Birth-clause-childless
pop-requires-in-Birth-clause-childless g c =
    let i = c.self.inside in
    childless-sire DEPTH_LIMIT MOST_ANIMALS i.records.book i.sires.parents i.dams.parents i.depths.items i.old_depths.items i.undo c.in-Birth.is c.self.invariant

pub pop-requires-in-Birth-2-clause-childless : goal.pop-requires-in-Birth-2-clause-childless
pop-requires-in-Birth-2-clause-childless g c =
    let i = c.self.inside in
    childless-dam DEPTH_LIMIT MOST_ANIMALS i.records.book i.sires.parents i.dams.parents i.depths.items i.old_depths.items i.undo c.in-Birth.is c.self.invariant

pub invariant_of-self : goal.invariant_of-self
invariant_of-self g c =
    let i = c.self.inside in
    let depths : c.pop-in-Birth-3.new.self.items ≡ without_last i.depths.items = search rules in
    rw (c.pop.ensures, c.pop-in-Birth.ensures, c.pop-in-Birth-2.ensures, depths) (IsHeld-before DEPTH_LIMIT MOST_ANIMALS i.records.book i.sires.parents i.dams.parents i.depths.items i.old_depths.items i.undo c.in-Birth.is c.self.invariant)

pub write-requires-clause-sire : goal.write-requires-clause-sire
write-requires-clause-sire g c =
    let i = c.self.inside in
    undo-sire_within DEPTH_LIMIT MOST_ANIMALS i.records.book i.sires.parents i.dams.parents i.depths.items i.old_depths.items i.undo c.in-Record.place c.in-Record.was c.in-Record.is c.self.invariant

pub write-requires-clause-dam : goal.write-requires-clause-dam
write-requires-clause-dam g c =
    let i = c.self.inside in
    undo-dam_within DEPTH_LIMIT MOST_ANIMALS i.records.book i.sires.parents i.dams.parents i.depths.items i.old_depths.items i.undo c.in-Record.place c.in-Record.was c.in-Record.is c.self.invariant

pub set-requires-clause-within : goal.set-requires-clause-within
set-requires-clause-within g c =
    let i = c.self.inside in
    λ p e. undo-sire DEPTH_LIMIT MOST_ANIMALS i.records.book i.sires.parents i.dams.parents i.depths.items i.old_depths.items i.undo c.in-Record.place c.in-Record.was c.in-Record.is c.self.invariant p (sym c.parents-parents.ensures.sire ∙ e)

pub set-requires-in-Record-clause-within : goal.set-requires-in-Record-clause-within
set-requires-in-Record-clause-within g c =
    let i = c.self.inside in
    λ p e. undo-dam DEPTH_LIMIT MOST_ANIMALS i.records.book i.sires.parents i.dams.parents i.depths.items i.old_depths.items i.undo c.in-Record.place c.in-Record.was c.in-Record.is c.self.invariant p (sym c.parents-parents.ensures.dam ∙ e)

pub invariant_of-self-in-Record : goal.invariant_of-self-in-Record
invariant_of-self-in-Record g c =
    let book : Book = c.self.inside.records.book in
    let depths : List ℕ = c.self.inside.depths.items in
    let log : List (ℕ × ℕ) = c.self.inside.old_depths.items in
    let place : ℕ = c.in-Record.place in
    let undone : c.undo_writes.new.depths ≡ undone_writes log depths = c.undo_writes.ensures.undone ∙ ap (λ ds. undone_writes log ds) c.deref_mut.ensures.value in
    let held = IsHeld-undone DEPTH_LIMIT MOST_ANIMALS book c.self.inside.sires.parents c.self.inside.dams.parents depths log c.self.inside.undo c.self.invariant place c.in-Record.was c.in-Record.is c.undo_writes.new.log.items in
    let long : length c.undo_writes.new.depths ≡ c.self.inside.depths.len = c.undo_writes.auto.depths ∙ c.deref_mut.ensures.len in
    let back = with_items_is c.self.inside.depths c.undo_writes.new.depths long ∙ undone in
    rw (c.write.ensures, c.set.ensures, c.set-in-Record.ensures, c.parents-parents.ensures.sire, c.parents-parents.ensures.dam, back) held
