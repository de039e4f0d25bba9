-- The animals that an order names: the rank that each name tells, where it tells one.
use Rattle.std.specs.Prelude.{◌≡◌, ℕ, Bool, false, nat_lt, ⊤, List, Option}
use Rattle.std.specs.List.{filter_map, list_all}
use Rattle.std.specs.Option.{option_map_or}
use Rattle.herd_pedigree_report.specs.declared.pedigree_report_fault.PedigreeReportFault.{PedigreeReportFault}
use Rattle.herd_pedigree_report.specs.declared.pedigree_report_fault.PedigreeReportFault.TheVariants.{Record, NotRegistered, NoThread, Memory, Write}

-- the name tells one of the first so many animals
abbrev pub is_there : ℕ → Option ℕ → Bool
is_there animals named = option_map_or (λ rank. nat_lt rank animals) named false

-- each of some names does
abbrev pub all_there : ℕ → List (Option ℕ) → Bool
all_there animals named = list_all (is_there animals) named

-- the ranks that names tell
abbrev pub ranks_of : List (Option ℕ) → List ℕ
ranks_of named = filter_map (λ animal. animal) named

-- why these ranks aren't had: one name tells no animal, or memory ran out
abbrev pub EndsNaming : ℕ → List (Option ℕ) → PedigreeReportFault → Type 0
EndsNaming animals named (Record fault) = ⊥
EndsNaming animals named NotRegistered = all_there animals named ≡ false
EndsNaming animals named NoThread = ⊥
EndsNaming animals named Memory = ⊤
EndsNaming animals named Write = ⊥
