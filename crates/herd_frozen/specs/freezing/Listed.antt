-- A list of records whose parents are looked up by number.
use Rattle.std.specs.Prelude.{ℕ, List, Option}
use Rattle.std.specs.Map.{keys_of}
use Rattle.herd_frozen.specs.rules.Book.{Book}
use Rattle.herd_frozen.specs.freezing.Freeze.{FindsPlaces}
use Rattle.herd_frozen.specs.rules.Lawful.{IsLawful}

-- the book is lawful, and what is found under each of its numbers is its place
pub record IsListed (l most : ℕ) (book : Book) (find : List ℕ → Option ℕ) : Type 0 where
  pub lawful : IsLawful l most book
  pub finds : FindsPlaces (keys_of book) find
