-- What the parents and the depth of a rank say of it.
use Rattle.std.proofs.Common.{ℕ, ◌<◌, ◌≡◌, List, length, ap}
use Rattle.std.specs.Option.{option_and_then}
use Rattle.std.proofs.lemmas.Option.{slice_get_within}
use Rattle.herd_lineage.specs.declared.lineage.Parents.{Parents}
use Rattle.herd_lineage.specs.Lineage.{depth_at, sire_rank, dam_rank}
use Rattle.herd_kinship.specs.Ranks.{AreParentsAt}
use Rattle.herd_kinship.proofs.lemmas.lineages.LineageFacts.{depth_at-row}

pub parents-sire : (rows : List Parents) (i : ℕ) (parents : Parents) → AreParentsAt rows i parents → sire_rank rows i ≡ parents.sire
parents-sire rows i parents at = ap (option_and_then (λ (row : Parents). row.sire)) at

pub parents-dam : (rows : List Parents) (i : ℕ) (parents : Parents) → AreParentsAt rows i parents → dam_rank rows i ≡ parents.dam
parents-dam rows i parents at = ap (option_and_then (λ (row : Parents). row.dam)) at

pub parents-depth : (rows : List Parents) (i : ℕ) (parents : Parents) → AreParentsAt rows i parents → depth_at rows i ≡ parents.depth
parents-depth rows i parents at = depth_at-row rows i parents at

pub parents-within : (rows : List Parents) (i : ℕ) (parents : Parents) → AreParentsAt rows i parents → i < length rows
parents-within rows i parents at = slice_get_within rows i parents at
