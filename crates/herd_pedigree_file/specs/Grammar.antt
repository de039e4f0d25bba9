-- What one record of a pedigree file means.
use Rattle.std.specs.Prelude.{ℕ, ◌==◌, ◌&&◌, ◌||◌, Bool, not, nat_lt, if◌then◌else◌, List, Option, Some, None, option_map, Result, Ok, Err, codes, length}
use Rattle.std.specs.Str.{bytes_eq}
use Rattle.csv_records.specs.Fields.{Fields as Texts, field}
use Rattle.herd_lineage.specs.Builder.{offspring}
use Rattle.herd_lineage.specs.declared.TheConstants.{DEPTH_LIMIT}
use Rattle.herd_lineage.specs.declared.lineage.Parents.{Parents}
use Rattle.herd_pedigree_file.specs.Number.{rank_in}
use Rattle.herd_pedigree_file.specs.declared.pedigree_fault.PedigreeCause.{PedigreeCause}
use Rattle.herd_pedigree_file.specs.declared.pedigree_fault.PedigreeCause.TheVariants.{TooMany, Fields, Sire, Dam, TooDeep}

-- whether a record is the header
abbrev pub is_header : Texts → Bool
is_header texts =
    (length texts == 2) && bytes_eq (field 0 texts) (codes "sire") && bytes_eq (field 1 texts) (codes "dam")

-- a parent is unknown
abbrev pub is_unknown : List ℕ → Bool
is_unknown text = (length text == 0) || bytes_eq text (codes "0")

-- the parent that a field tells, after so many animals: unknown, or the rank of one of them
unfoldable pub parent_in : ℕ → List ℕ → Option (Option ℕ)
parent_in animals text = if is_unknown text then Some None else option_map Some (rank_in animals text)

-- the animal with the parents that two fields tell, as the next one of a lineage
abbrev pub animal_of : List Parents → Option (Option ℕ) → Option (Option ℕ) → Result Parents PedigreeCause
animal_of lineage None dam = Err Sire
animal_of lineage (Some sire) None = Err Dam
animal_of lineage (Some sire) (Some dam) =
    let animal = offspring lineage sire dam in
    if nat_lt DEPTH_LIMIT animal.depth then Err TooDeep else Ok animal

-- the animal of a record, as the next one of a lineage of at most so many, or the record's first fault
unfoldable pub animal_in : ℕ → List Parents → Texts → Result Parents PedigreeCause
animal_in most lineage texts =
    if not (nat_lt (length lineage) most) then Err TooMany
    else if not (length texts == 2) then Err Fields
    else animal_of lineage (parent_in (length lineage) (field 0 texts)) (parent_in (length lineage) (field 1 texts))
