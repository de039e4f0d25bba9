-- What is kept from one sire to the next while calves are listed.
use Rattle.std.specs.Prelude.{◌≡◌, ℕ, ◌*◌, ◌≤◌, List, length, vec_capacity}
use Rattle.herd_lineage.specs.declared.TheConstants.{DEPTH_LIMIT}
use Rattle.herd_lineage.specs.declared.lineage.Parents.{Parents}
use Rattle.herd_kinship.specs.Pending.{mark}
use Rattle.herd_kinship.specs.Tracing.{IsIdle}
use Rattle.herd_kinship.specs.Variances.{AreVariances}
use Rattle.herd_kinship.specs.declared.mates.Mates.{Mates}

-- there is room for the animals of a lineage, nobody is marked, nobody is traced, and variances are its own
pub record IsReady {A : Type 0} (rows : List Parents) (mates : Mates A) : Type 0 where
  pub room : length rows ≤ 64 * length mates.marked.chunks.items
  pub unmarked : (distance : ℕ) → mark mates.marked.chunks.items distance ≡ 0
  pub idle : IsIdle (length rows) mates.tracing
  pub variances : AreVariances DEPTH_LIMIT rows mates.variances.kept.items
  pub space : length rows ≤ vec_capacity mates.collected
  pub each : length mates.column.items ≡ length rows
