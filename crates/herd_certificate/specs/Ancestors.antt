-- An animal of a lineage and all its known ancestors.
use Rattle.std.specs.Prelude.{ℕ, zero, suc, Bool, false, List, length, nat_eq, ◌||◌}
use Rattle.std.specs.List.{filter, range_with_len}
use Rattle.std.specs.Option.{option_map_or}
use Rattle.herd_lineage.specs.declared.lineage.Parents.{Parents}
use Rattle.herd_lineage.specs.Lineage.{dam_rank, sire_rank}

-- whether a path of at most so many parents leads from the animal at a rank to another
unfoldable pub is_led : ℕ → List Parents → ℕ → ℕ → Bool
is_led zero lineage to from = nat_eq from to
is_led (suc n) lineage to from =
    nat_eq from to || (option_map_or (is_led n lineage to) (sire_rank lineage from) false
    || option_map_or (is_led n lineage to) (dam_rank lineage from) false)

-- the ranks of an animal and of all its known ancestors, ascending
unfoldable pub with_ancestors : List Parents → ℕ → List ℕ
with_ancestors lineage rank =
    filter (λ other. is_led (length lineage) lineage other rank) (range_with_len 0 (length lineage))
