-- What becomes of a birth, by whether its number is free and what fault its parents have.
use Rattle.std.proofs.Common.{◌≡◌, ℕ, Bool, true, false, if◌then◌else◌, List, Option, None, refl, not, sym, ap, ◌∙◌}
use Rattle.std.specs.Option.{option_map_or}
use Rattle.std.proofs.lemmas.Bool.{not-true}
use Rattle.herd_frozen.specs.declared.rules.parent_fault.ParentFault.{ParentFault}
use Rattle.herd_frozen.specs.rules.Book.{Book, is_there, record_of}
use Rattle.herd_frozen.specs.rules.ParentFault.{parent_fault}
use Rattle.herd_frozen.proofs.lemmas.ListFacts.{none_if}
use Rattle.herd_pedigree.specs.declared.registration.Newborn.{Newborn}
use Rattle.herd_pedigree.specs.declared.registration.Registration.TheVariants.{Added, AlreadyThere, Unsound}
use Rattle.herd_pedigree.specs.Pedigree.{registration}

-- a number that was new had no record
pub absent-new : (book : Book) (number : List ℕ) (new : Bool) → new ≡ not (is_there book number) → new ≡ true → record_of book number ≡ None
absent-new book number new is added = none_if (record_of book number) (not-true (is_there book number) (sym is ∙ added))

module _ (l : ℕ) (book : Book) (number : List ℕ) (newborn : Newborn) where
  -- the fault that the parents have where the number is free
  pub registration-told : (fault : Option ParentFault) → (record_of book number ≡ None → fault ≡ parent_fault l book number newborn.birth newborn.sire newborn.dam newborn.embryo) →
      (if is_there book number then AlreadyThere else option_map_or Unsound fault Added) ≡ registration l book number newborn
  registration-told fault told = by (is_there book number) refl where
    by : (there : Bool) → is_there book number ≡ there → (if is_there book number then AlreadyThere else option_map_or Unsound fault Added) ≡ registration l book number newborn
    by true e = rw e refl
    by false e = rw e (ap (λ o. option_map_or Unsound o Added) (told (none_if (record_of book number) e)))

  pub registration-added : record_of book number ≡ None → None ≡ parent_fault l book number newborn.birth newborn.sire newborn.dam newborn.embryo → Added ≡ registration l book number newborn
  registration-added absent told = rw absent (ap (λ o. option_map_or Unsound o Added) told)
