-- A lawful book.
use Rattle.std.specs.Prelude.{◌≡◌, ℕ, ◌≤◌, ◌≤ℤ◌, ◌<ℤ◌, Bool, false, IsTrue, IsFalse, ℤ, List, length, Some}
use Rattle.std.specs.List.{IsDistinct}
use Rattle.std.specs.Map.{keys_of}
use Rattle.std.specs.Str.{bytes_eq}
use Rattle.herd_animal.specs.Sex.{is_male}
use Rattle.herd_frozen.specs.declared.rules.animal.Animal.{Animal}
use Rattle.herd_frozen.specs.rules.Book.{Book, record_of, is_shallow}
use Rattle.herd_frozen.specs.rules.ParentFault.{has_left_before}

-- a sire is a male of the book, born before its offspring; he may have left, since semen is stored
pub record IsSireOf (book : Book) (birth : ℤ) (number : List ℕ) : Type 0 where
  pub sire : Animal
  pub there : record_of book number ≡ Some sire
  pub male : IsTrue (is_male number)
  pub older : sire.birth <ℤ birth

-- a dam is a female of the book, born before its offspring, and hasn't left before its birth day unless it
-- comes from a stored embryo
pub record IsDamOf (book : Book) (birth : ℤ) (embryo : Bool) (number : List ℕ) : Type 0 where
  pub dam : Animal
  pub there : record_of book number ≡ Some dam
  pub female : IsFalse (is_male number)
  pub older : dam.birth <ℤ birth
  pub stayed : embryo ≡ false → IsFalse (has_left_before birth dam)

-- a record of a lawful book
pub record IsLawfulRecord (book : Book) (animal : Animal) : Type 0 where
  pub sire : (p : List ℕ) → animal.sire ≡ Some p → IsSireOf book animal.birth p
  pub dam : (p : List ℕ) → animal.dam ≡ Some p → IsDamOf book animal.birth animal.embryo p
  pub since : animal.birth ≤ℤ animal.since
  pub left : (day : ℤ) → animal.left ≡ Some day → animal.since ≤ℤ day

-- a book of at most so many animals, whose paths have at most l steps
pub record IsLawful (l most : ℕ) (book : Book) : Type 0 where
  pub once : IsDistinct bytes_eq (keys_of book)
  pub few : length book ≤ most
  pub shallow : IsTrue (is_shallow l book)
  pub records : (number : List ℕ) (animal : Animal) → record_of book number ≡ Some animal → IsLawfulRecord book animal
