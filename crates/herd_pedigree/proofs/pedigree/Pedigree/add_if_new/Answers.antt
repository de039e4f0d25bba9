-- `Pedigree::add_if_new`: the first fault of the parents, and what is held once the animal was added.
use Rattle.std.proofs.Common.{true, sym, ap, ◌∙◌, subst, ◌≡◌, ◌<◌, ℕ, List, [], ◌∷◌, ◌++◌, Option, Some, length, slice_index}
use Rattle.herd_frozen.specs.declared.rules.parent_fault.ParentFault.TheVariants.{TooDeep}
use Rattle.herd_frozen.specs.rules.Book.{Book}
use Rattle.herd_frozen.specs.rules.Depths.{depth_from}
use Rattle.herd_pedigree.specs.declared.registration.Registration.TheVariants.{Added}
use Rattle.herd_pedigree.specs.Pedigree.{IsBirth, birth_record, registration, unsound}
use Rattle.herd_frozen.specs.declared.TheConstants.{DEPTH_LIMIT, MOST_ANIMALS}
use Rattle.herd_pedigree.proofs.CheckFacts.{fault-first, newborn-deep, newborn-none}
use Rattle.herd_pedigree.proofs.KeptFacts.{IsHeld-push}
use Rattle.herd_pedigree.proofs.RegistrationFacts.{absent-new, registration-added, registration-told}
use Rattle.herd_pedigree.proofs.pedigree.Pedigree.add_if_new.Given.{Over}
use Rattle.herd_pedigree.proofs.pedigree.Pedigree.add_if_new.Goals.{After-depth_with-depth, In_ok-new}
use Rattle.herd_pedigree.proofs.pedigree.Pedigree.add_if_new.Goals as goal

pub returns-in-Err-clause-outcome : goal.returns-in-Err-clause-outcome
returns-in-Err-clause-outcome g c =
    let a = c.args.newborn in
    let number : List ℕ = c.args.number in
    let book : Book = c.self.inside.records.book in
    c.unsound.ensures
    ∙ subst (λ p. unsound p.book number c.in-Err.fault ≡ registration DEPTH_LIMIT p.book number a) c.self.view_is
    (registration-told DEPTH_LIMIT book number a (Some c.in-Err.fault)
    (λ _. fault-first DEPTH_LIMIT book number a.birth a.sire a.dam a.embryo c.in-Err.fault c.in-Err.ensures.fault))

-- the depth that was computed
depth : (g : Over) (c : After-depth_with-depth g) → c.depth_with-depth.result ≡ depth_from (slice_index c.self.inside.depths.items) c.in-Ok.parents.sire c.in-Ok.parents.dam
depth g c = c.depth_with-depth.ensures.depth ∙ ap (λ ds. depth_from (slice_index ds) c.in-Ok.parents.sire c.in-Ok.parents.dam) c.deref.ensures.value

pub returns-then-depth-from-clause-outcome : goal.returns-then-depth-from-clause-outcome
returns-then-depth-from-clause-outcome g c =
    let i = c.self.inside in
    let a = c.args.newborn in
    let number : List ℕ = c.args.number in
    let parents = c.in-Ok.ensures in
    rw c.unsound-then-depth-from.ensures
    (subst (λ p. unsound p.book number TooDeep ≡ registration DEPTH_LIMIT p.book number a) c.self.view_is
    (registration-told DEPTH_LIMIT i.records.book number a (Some TooDeep)
    (λ absent.
    newborn-deep DEPTH_LIMIT MOST_ANIMALS i.records.book i.sires.parents i.dams.parents i.depths.items c.self.invariant.kept number absent
    a parents.sound c.in-Ok.parents.sire c.in-Ok.parents.dam parents.sire parents.dam c.from.result c.depth_with-depth.result c.from.ensures (depth g (goal.at.returns-then-depth-from-clause-outcome g c).After-depth_with-depth) c.if-depth-from.true)))

-- the animal that was added was born
birth : (g : Over) (c : In_ok-new g) → c.in_ok-new.new ≡ true → c.depth_with-depth.result ≡ depth_from (slice_index c.self.inside.depths.items) c.in-Ok.parents.sire c.in-Ok.parents.dam → IsBirth DEPTH_LIMIT MOST_ANIMALS c.self.inside.records.book c.args.number c.args.newborn
birth g c new depth =
    let i = c.self.inside in
    let absent = absent-new i.records.book c.args.number _ c.in_ok-new.ensures.new new in
    record {
      absent = absent;
      room = subst (λ p. length p.book < MOST_ANIMALS) (sym c.self.view_is) c.requires;
      parents = sym (newborn-none DEPTH_LIMIT MOST_ANIMALS i.records.book i.sires.parents i.dams.parents i.depths.items c.self.invariant.kept c.args.number absent
          c.args.newborn c.in-Ok.ensures.sound c.in-Ok.parents.sire c.in-Ok.parents.dam c.in-Ok.ensures.sire c.in-Ok.ensures.dam c.from.result c.depth_with-depth.result c.from.ensures depth c.if-depth-from.false);
    }

pub invariant_of-self-2 : goal.invariant_of-self-2
invariant_of-self-2 g c =
    let i = c.self.inside in
    let book : Book = i.records.book in
    let sires : List (Option ℕ) = i.sires.parents in
    let dams : List (Option ℕ) = i.dams.parents in
    let depths : List ℕ = i.depths.items in
    let parents = c.in-Ok.parents in
    let here = goal.at.invariant_of-self-2 g c in
    let depth = depth g here.After-depth_with-depth in
    let birth = birth g here.In_ok-new c.if-not-new.false depth in
    let entries : c.push_all_if_new.new.records.book ≡ book ++ (c.args.number, birth_record c.args.newborn) ∷ [] = rw c.if-not-new.false at c.in_ok-new.ensures.records in
    let sires_are : c.push_all_if_new.new.sires.parents ≡ sires ++ parents.sire ∷ [] = rw c.if-not-new.false at c.in_ok-new.ensures.sires in
    let dams_are : c.push_all_if_new.new.dams.parents ≡ dams ++ parents.dam ∷ [] = rw c.if-not-new.false at c.in_ok-new.ensures.dams in
    let depths_are : c.push_all_if_new.new.depths.items ≡ depths ++ depth_from (slice_index depths) parents.sire parents.dam ∷ [] = rw (c.if-not-new.false, depth) at c.in_ok-new.ensures.depths in
    rw (entries, sires_are, dams_are, depths_are)
    (IsHeld-push DEPTH_LIMIT MOST_ANIMALS book sires dams depths c.self.invariant.kept c.args.number c.args.newborn birth.absent parents.sire parents.dam c.in-Ok.ensures.sire c.in-Ok.ensures.dam birth i.old_depths.items)

pub returns-clause-outcome : goal.returns-clause-outcome
returns-clause-outcome g c =
    let here = goal.at.returns-clause-outcome g c in
    let birth = birth g here.In_ok-new c.if-not-new.false (depth g here.After-depth_with-depth) in
    subst (λ p. Added ≡ registration DEPTH_LIMIT p.book c.args.number c.args.newborn) c.self.view_is
    (registration-added DEPTH_LIMIT c.self.inside.records.book c.args.number c.args.newborn birth.absent (sym birth.parents))
