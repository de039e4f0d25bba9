-- The next animal of a lineage that is built, by the ranks of its known parents, and what may be wrong with it.
use Rattle.std.specs.Prelude.{◌==◌, ℕ, Bool, true, not, nat_lt, if◌then◌else◌, List, Option, Some, None, length}
use Rattle.std.specs.Option.{option_map_or}
use Rattle.herd_lineage.specs.Lineage.{depth_at, depth_from}
use Rattle.herd_lineage.specs.declared.lineage.Parents.{Parents}
use Rattle.herd_lineage.specs.declared.lineage_fault.LineageFault.{LineageFault}
use Rattle.herd_lineage.specs.declared.lineage_fault.LineageFault.TheVariants.{Full, Sire, Dam, TooDeep}

-- a parent is unknown, or one of the first so many animals
abbrev pub is_earlier : ℕ → Option ℕ → Bool
is_earlier animals parent = option_map_or (λ rank. nat_lt rank animals) parent true

-- the animal with these parents as the next one
abbrev pub offspring : List Parents → Option ℕ → Option ℕ → Parents
offspring lineage sire dam = record { sire = sire; dam = dam; depth = depth_from (depth_at lineage) sire dam }

-- its first fault, in a lineage of at most so many animals, none deeper than l
unfoldable pub first_fault : ℕ → ℕ → List Parents → Option ℕ → Option ℕ → Option LineageFault
first_fault l most lineage sire dam =
    if length lineage == most then Some Full
    else if not (is_earlier (length lineage) sire) then Some Sire
    else if not (is_earlier (length lineage) dam) then Some Dam
    else if nat_lt l (depth_from (depth_at lineage) sire dam) then Some TooDeep
    else None
