-- What a pedigree keeps beside its book, and what a push onto it leaves.
use Rattle.std.specs.Prelude.{◌≡◌, ℕ, Bool, true, false, List, [], ◌++◌, ◌∷◌, length, slice_index, Option, Result, Ok, Err}
use Rattle.herd_frozen.specs.rules.Book.{Book}
use Rattle.herd_frozen.specs.rules.Lawful.{IsLawful}
use Rattle.herd_frozen.specs.places.Places.{AreParents, parentage_at}
use Rattle.herd_frozen.specs.rules.Depths.{AreDepths}

-- the book is lawful, and the parents and the depths by place are its own
pub record IsKept (l most : ℕ) (book : Book) (sires dams : List (Option ℕ)) (depths : List ℕ) : Type 0 where
  pub lawful : IsLawful l most book
  pub sires_are : AreParents book (λ animal. animal.sire) sires
  pub dams_are : AreParents book (λ animal. animal.dam) dams
  pub long : length depths ≡ length book
  pub depths_are : AreDepths l (parentage_at sires dams) (slice_index depths)

-- a list after a push that may be refused: with the element at its end where the answer is that it is new, and else as
-- it was
abbrev pub pushed_if : {X E : Type 0} → Result Bool E → List X → X → List X
pushed_if (Ok true) xs x = xs ++ x ∷ []
pushed_if (Ok false) xs x = xs
pushed_if (Err refused) xs x = xs
