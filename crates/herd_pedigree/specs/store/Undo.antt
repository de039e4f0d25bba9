-- What taking the last change back leaves.
use Rattle.std.specs.Prelude.{◌≡◌, ℕ, ◌-◌, ◌<◌, List, [], ◌∷◌, All, length, take, slice_set, Option, Some, None}
use Rattle.std.specs.Map.{keys_of}
use Rattle.herd_pedigree.specs.declared.store.undo.Undo.{Undo}
use Rattle.herd_pedigree.specs.declared.store.undo.Undo.TheVariants.{Nothing, Birth, Record}
use Rattle.herd_frozen.specs.rules.Book.{Book}
use Rattle.herd_pedigree.specs.store.Kept.{IsKept}
use Rattle.herd_pedigree.specs.store.Records.{animal_of, set_value_at}

-- a list without its last element
abbrev pub without_last : {X : Type 0} → List X → List X
without_last xs = take (length xs - 1) xs

-- the depths before the writes, each of which is logged with what it wrote over
abbrev pub undone_writes : List (ℕ × ℕ) → List ℕ → List ℕ
undone_writes [] depths = depths
undone_writes (write ∷ log) depths = slice_set (undone_writes log depths) write.0 write.1

-- the writes are within the depths, and taking them back leaves those of the past
pub record TakesBack (log : List (ℕ × ℕ)) (depths past : List ℕ) : Type 0 where
  pub within : All (λ write. write.0 < length depths) log
  pub undone : undone_writes log depths ≡ past

-- the book before the last change
abbrev pub undone_book : Undo → Book → Option Book
undone_book Nothing book = None
undone_book Birth book = Some (without_last book)
undone_book (Record place was) book = Some (set_value_at book place (animal_of (keys_of book) was))

-- the places of the sires before it
abbrev pub undone_sires : Undo → List (Option ℕ) → List (Option ℕ)
undone_sires Nothing sires = sires
undone_sires Birth sires = without_last sires
undone_sires (Record place was) sires = slice_set sires place was.sire

-- the places of the dams before it
abbrev pub undone_dams : Undo → List (Option ℕ) → List (Option ℕ)
undone_dams Nothing dams = dams
undone_dams Birth dams = without_last dams
undone_dams (Record place was) dams = slice_set dams place was.dam

-- the depths before it
abbrev pub undone_depths : Undo → List (ℕ × ℕ) → List ℕ → List ℕ
undone_depths Nothing log depths = depths
undone_depths Birth log depths = without_last depths
undone_depths (Record place was) log depths = undone_writes log depths

-- the change wrote within a book of n animals
abbrev pub IsWithin : Undo → List (ℕ × ℕ) → ℕ → Type 0
IsWithin Nothing log n = Unit {0}
IsWithin Birth log n = 0 < n
IsWithin (Record place was) log n = (place < n) × All (λ write. write.0 < n) log

-- what the pedigree keeps, now and before the last change
pub record IsHeld
    (l most : ℕ) (book : Book) (sires dams : List (Option ℕ)) (depths : List ℕ) (log : List (ℕ × ℕ)) (undo : Undo)
    : Type 0 where
  pub kept : IsKept l most book sires dams depths
  pub within : IsWithin undo log (length book)
  pub before : (old : Book) → undone_book undo book ≡ Some old
      → IsKept l most old (undone_sires undo sires) (undone_dams undo dams) (undone_depths undo log depths)
