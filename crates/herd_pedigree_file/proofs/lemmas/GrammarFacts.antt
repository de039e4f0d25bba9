-- A record whose fields tell two parents is their offspring, or too deep.
use Rattle.std.proofs.Common.{◌≡◌, ◌∙◌, ℕ, ◌<◌, ◌≤◌, Bool, true, false, cond, ltb, ◌==◌, List, length, Option, Some, None, Ok, Err, refl, sym, ap, ap₂, arith}
use Rattle.std.specs.Prelude.{IfSome, unwrap_or}
use Rattle.std.proofs.lemmas.Bool.{false≢true, le-ltb, lt-ltb, ne_eqb}
use Rattle.csv_records.specs.Fields.{Fields as Texts, field}
use Rattle.herd_lineage.specs.Builder.{first_fault, is_earlier, offspring}
use Rattle.herd_lineage.specs.declared.TheConstants.{DEPTH_LIMIT, MOST_ANIMALS}
use Rattle.herd_lineage.specs.declared.lineage.Parents.{Parents}
use Rattle.herd_lineage.specs.declared.lineage_fault.LineageFault.{LineageFault}
use Rattle.herd_lineage.specs.declared.lineage_fault.LineageFault.TheVariants as fault
use Rattle.herd_pedigree_file.specs.Grammar.{animal_in, animal_of, parent_in}
use Rattle.herd_pedigree_file.specs.PedigreeCause.{cause_of, is_interruption}
use Rattle.herd_pedigree_file.specs.declared.pedigree_fault.PedigreeCause.{PedigreeCause}
use Rattle.herd_pedigree_file.specs.declared.pedigree_fault.PedigreeCause.TheVariants as cause

-- the fields of a record tell these parents, and there is room for their offspring
pub record TellsParents (most : ℕ) (lineage : List Parents) (texts : Texts) (sire dam : Option ℕ) : Type 0 where
  pub room : length lineage < most
  pub few : most ≤ MOST_ANIMALS
  pub two : length texts ≡ 2
  pub sire_is : parent_in (length lineage) (field 0 texts) ≡ Some sire
  pub dam_is : parent_in (length lineage) (field 1 texts) ≡ Some dam
  pub sire_earlier : IfSome sire (λ rank. rank < length lineage)
  pub dam_earlier : IfSome dam (λ rank. rank < length lineage)

is_earlier-yes : (animals : ℕ) (parent : Option ℕ) → IfSome parent (λ rank. rank < animals) → is_earlier animals parent ≡ true
is_earlier-yes animals None earlier = refl
is_earlier-yes animals (Some rank) earlier = lt-ltb rank animals earlier

module _ (most : ℕ) (lineage : List Parents) (texts : Texts) (sire dam : Option ℕ) (told : TellsParents most lineage texts sire dam) where
  -- the record is their offspring, or too deep
  animal_told : animal_in most lineage texts ≡ animal_of lineage (Some sire) (Some dam)
  unfolding animal_in
  animal_told =
      let room : ltb (length lineage) most ≡ true = lt-ltb (length lineage) most told.room in
      rw (room, told.two, told.sire_is, told.dam_is) refl

  -- of the faults of a lineage only its depth is left
  fault_told : first_fault DEPTH_LIMIT MOST_ANIMALS lineage sire dam
      ≡ cond (ltb DEPTH_LIMIT (offspring lineage sire dam).depth) (Some fault.TooDeep) None
  unfolding first_fault
  fault_told =
      let few = told.few in
      let room = told.room in
      let other : (length lineage == MOST_ANIMALS) ≡ false = ne_eqb (length lineage) MOST_ANIMALS (λ same. omega arith) in
      rw (other, is_earlier-yes (length lineage) sire told.sire_earlier, is_earlier-yes (length lineage) dam told.dam_earlier) refl

  by_depth : (deep : Bool) → ◌≡◌ {A = Option LineageFault} (cond deep (Some fault.TooDeep) None) None → cond deep (Err cause.TooDeep) (Ok (offspring lineage sire dam)) ≡ Ok (offspring lineage sire dam)
  by_depth true none = absurd (cc)
  by_depth false none = refl

  -- where the lineage takes it, it is their offspring
  pub told_adds : first_fault DEPTH_LIMIT MOST_ANIMALS lineage sire dam ≡ None → animal_in most lineage texts ≡ Ok (offspring lineage sire dam)
  told_adds none = animal_told ∙ by_depth (ltb DEPTH_LIMIT (offspring lineage sire dam).depth) (sym fault_told ∙ none)

  by_fault : (deep : Bool) (c : PedigreeCause) → c ≡ cause_of (unwrap_or (cond deep (Some fault.TooDeep) None) fault.Memory) → is_interruption c ≡ false
      → cond deep (Err cause.TooDeep) (Ok (offspring lineage sire dam)) ≡ Err c
  by_fault true c is told_of = ap Err (sym is)
  by_fault false c is told_of = absurd (false≢true (sym told_of ∙ ap is_interruption is))

  -- where it refuses it, that is the record's fault, or an interruption
  pub told_fails : (c : PedigreeCause) → c ≡ cause_of (unwrap_or (first_fault DEPTH_LIMIT MOST_ANIMALS lineage sire dam) fault.Memory)
      → is_interruption c ≡ false → animal_in most lineage texts ≡ Err c
  told_fails c is told_of =
      animal_told ∙ by_fault (ltb DEPTH_LIMIT (offspring lineage sire dam).depth) c (is ∙ ap (λ f. cause_of (unwrap_or f fault.Memory)) fault_told) told_of

-- the numbers of a lineage's animals, and a field, as they were read
pub parent_read : (n animals : ℕ) (text other : List ℕ) (read told : Option (Option ℕ)) → n ≡ animals → text ≡ other → read ≡ parent_in n text → read ≡ told → parent_in animals other ≡ told
parent_read n animals text other read told count same is tells = ap₂ parent_in (sym count) (sym same) ∙ sym is ∙ tells

-- the faults of a record that tells no two parents
module _ (most : ℕ) (lineage : List Parents) (texts : Texts) where
  pub too_many : most ≤ length lineage → animal_in most lineage texts ≡ Err cause.TooMany
  unfolding animal_in
  too_many full = let none : ltb (length lineage) most ≡ false = le-ltb (length lineage) most full in rw none refl

  module _ (room : length lineage < most) where
    pub not_two : (length texts ≡ 2 → ⊥) → animal_in most lineage texts ≡ Err cause.Fields
    unfolding animal_in
    not_two other =
        let some : ltb (length lineage) most ≡ true = lt-ltb (length lineage) most room in
        let no : (length texts == 2) ≡ false = ne_eqb (length texts) 2 other in
        rw (some, no) refl

    module _ (two : length texts ≡ 2) where
      pub no_sire : parent_in (length lineage) (field 0 texts) ≡ None → animal_in most lineage texts ≡ Err cause.Sire
      unfolding animal_in
      no_sire none =
          let some : ltb (length lineage) most ≡ true = lt-ltb (length lineage) most room in
          rw (some, two, none) refl

      pub no_dam : (sire : Option ℕ) → parent_in (length lineage) (field 0 texts) ≡ Some sire → parent_in (length lineage) (field 1 texts) ≡ None
          → animal_in most lineage texts ≡ Err cause.Dam
      unfolding animal_in
      no_dam sire known none =
          let some : ltb (length lineage) most ≡ true = lt-ltb (length lineage) most room in
          rw (some, two, known, none) refl
