-- Ancestors, by the paths of parents that lead to them.
use Rattle.std.specs.Prelude.{ℕ, zero, suc, List, [], ◌∷◌, ◌++◌, map, Option, Some}
use Rattle.std.specs.Option.{option_and_then}
use Rattle.herd_lineage.specs.declared.lineage.Parents.{Parents}
use Rattle.herd_frozen.specs.rules.Book.{Book, sire_of, dam_of}
use Rattle.herd_report.specs.declared.writing.ancestors.Parent.{Parent}
use Rattle.herd_report.specs.declared.writing.ancestors.Parent.TheVariants.{Sire, Dam}

-- the known parent of an animal
abbrev pub parent_of : Book → Parent → List ℕ → Option (List ℕ)
parent_of book Sire number = sire_of book number
parent_of book Dam number = dam_of book number

-- its rank among those of a row's parents, where it is known
abbrev pub parent_rank : Parent → Parents → Option ℕ
parent_rank Sire parents = parents.sire
parent_rank Dam parents = parents.dam

-- the ancestor to which a path of parents leads from an animal, the nearest parent first
abbrev pub ancestor_of : Book → List ℕ → List Parent → Option (List ℕ)
ancestor_of book number [] = Some number
ancestor_of book number (parent ∷ path) =
    option_and_then (λ known. ancestor_of book known path) (parent_of book parent number)

-- the paths of n parents, those through the sire before those through the dam
abbrev pub paths_of : ℕ → List (List Parent)
paths_of zero = [] ∷ []
paths_of (suc n) = map (λ path. Sire ∷ path) (paths_of n) ++ map (λ path. Dam ∷ path) (paths_of n)

-- the paths of one, of two and of three parents
abbrev pub three_generations : List (List Parent)
three_generations = paths_of 1 ++ paths_of 2 ++ paths_of 3

-- a parent's letter
abbrev pub letter_of : Parent → ℕ
letter_of Sire = 83
letter_of Dam = 68
