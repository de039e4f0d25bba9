-- Births, and what a book keeps of them.
use Rattle.std.specs.Prelude.{ℕ, false, List, Option, Some, None}
use Rattle.herd_animal.specs.Day.{day_number}
use Rattle.herd_frozen.specs.declared.rules.animal.Animal.{Animal}
use Rattle.herd_pedigree.specs.Pedigree.{birth_record}
use Rattle.herd_pedigree.specs.declared.registration.Newborn.{Newborn}
use Rattle.herd_fixtures.specs.declared.birth.Birth.{Birth}
use Rattle.herd_fixtures.specs.declared.name.Name.{Name}
use Rattle.herd_fixtures.specs.Name.{number_named}

-- the number of a parent that is known
abbrev pub named : Option Name → Option (List ℕ)
named None = None
named (Some name) = Some (number_named name)

-- born in herd 1
abbrev pub newborn : Birth → Newborn
newborn birth = record {
  birth = day_number birth.1;
  sire = named birth.2.sire;
  dam = named birth.2.dam;
  embryo = false;
  herd = 1;
}

-- the animal in a book
abbrev pub entry : Birth → List ℕ × Animal
entry birth = (number_named birth.0, birth_record (newborn birth))
