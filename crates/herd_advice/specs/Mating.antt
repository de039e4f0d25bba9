-- Mating advice: why it can't be given for two animals of a book. l is the limit of depths.
use Rattle.std.specs.Prelude.{◌≡◌, ℕ, ◌<◌, Bool, ◌||◌, not, List, [], ◌∷◌, length, slice_get, Option, Some}
use Rattle.herd_animal.specs.Sex.{is_male}
use Rattle.herd_frozen.specs.rules.Book.{Book, is_there, parentage_of}
use Rattle.herd_frozen.specs.declared.TheConstants.{MOST_ANIMALS}
use Rattle.herd_frozen.specs.declared.freezing.frozen.Row.{Row}
use Rattle.herd_frozen.specs.freezing.Frozen.{IsFrozen, book_of, numbers_of}
use Rattle.herd_frozen.specs.rules.Paths.{has_path}
use Rattle.herd_frozen.specs.rules.ParentFault.{first_that_holds}
use Rattle.herd_advice.specs.declared.dam_matings.Dam.{Dam}
use Rattle.herd_advice.specs.declared.mating_advice.Candidate.{Candidate}
use Rattle.herd_advice.specs.declared.mating_advice.MatingFault.{MatingFault}
use Rattle.herd_advice.specs.declared.mating_advice.MatingFault.TheVariants.{SireMissing, DamMissing, SireNotMale}
use Rattle.herd_advice.specs.declared.mating_advice.MatingFault.TheVariants.{DamNotFemale, TooDeep, Memory}

-- the animal is as deep as a book allows, so that a calf of it would be too deep
abbrev pub is_deepest : ℕ → Book → List ℕ → Bool
is_deepest l book number = has_path (parentage_of book) l number

-- the faults of a mating in the order in which they are asked, each with its test
abbrev pub mating_faults : ℕ → Book → List ℕ → List ℕ → List (Bool × MatingFault)
mating_faults l book sire dam =
    (not (is_there book sire), SireMissing)
    ∷ (not (is_there book dam), DamMissing)
    ∷ (not (is_male sire), SireNotMale)
    ∷ (is_male dam, DamNotFemale)
    ∷ (is_deepest l book sire || is_deepest l book dam, TooDeep)
    ∷ []

-- the first fault of a mating
unfoldable pub mating_fault : ℕ → Book → List ℕ → List ℕ → Option MatingFault
mating_fault l book sire dam = first_that_holds (mating_faults l book sire dam)

-- the number of a fault; that of Memory is never told
abbrev pub number_of_mating_fault : MatingFault → ℕ
number_of_mating_fault SireMissing = 1
number_of_mating_fault DamMissing = 2
number_of_mating_fault SireNotMale = 3
number_of_mating_fault DamNotFemale = 4
number_of_mating_fault TooDeep = 5
number_of_mating_fault Memory = 6

-- a dam, and the book that it and its sires are looked up in
pub record DamAndBook : Type 0 where
  pub book : Book
  pub dam : List ℕ

-- this is what a book has of the animal of a number
pub record IsCandidate (l : ℕ) (rows : List Row) (number : List ℕ) (candidate : Candidate) : Type 0 where
  pub book : IsFrozen l MOST_ANIMALS rows
  pub within : candidate.rank < length rows
  pub rank : slice_get (numbers_of rows) candidate.rank ≡ Some number
  pub male : candidate.male ≡ is_male number
  pub deepest : candidate.deepest ≡ is_deepest l (book_of rows) number

-- the first fault of a mating of two animals that are in the book
abbrev pub candidates_fault : Candidate → Candidate → Option MatingFault
candidates_fault sire dam =
    first_that_holds
    ((not sire.male, SireNotMale) ∷ (dam.male, DamNotFemale) ∷ (sire.deepest || dam.deepest, TooDeep) ∷ [])

-- this is what is kept of a dam of a book
pub record IsDam {F A : Type 0} (l : ℕ) (rows : List Row) (number : List ℕ) (dam : Dam F A) : Type 0 where
  pub candidate : IsCandidate l rows number dam.candidate
  pub relationships : dam.relationships ≡ record { rows = rows; rank = dam.candidate.rank }
