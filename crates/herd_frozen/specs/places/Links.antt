-- The places of the parents of a record.
use Rattle.std.specs.Prelude.{◌≡◌, ℕ, List, slice_get, Some}
use Rattle.std.specs.Map.{keys_of}
use Rattle.herd_frozen.specs.declared.rules.animal.Animal.{Animal}
use Rattle.herd_frozen.specs.declared.places.links.Link.{Link}
use Rattle.herd_frozen.specs.rules.Book.{Book}
use Rattle.herd_frozen.specs.places.Places.{IsIndexIn}

-- the link has the places of the parents of the record at a place
pub record IsLinkAt (book : Book) (place : ℕ) (link : Link) : Type 0 where
  pub sire : (entry : List ℕ × Animal) → slice_get book place ≡ Some entry
      → IsIndexIn (keys_of book) link.sire entry.1.sire
  pub dam : (entry : List ℕ × Animal) → slice_get book place ≡ Some entry
      → IsIndexIn (keys_of book) link.dam entry.1.dam
