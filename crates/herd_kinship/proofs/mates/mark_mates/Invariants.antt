use Rattle.std.proofs.Common.{◌≡◌, ℕ, ◌*◌, ◌-◌, ◌<◌, ◌≤◌, All, length, Some}
use Rattle.herd_lineage.specs.Lineage.{dam_rank}
use Rattle.herd_kinship.specs.Pending.{mark}
use Rattle.herd_kinship.proofs.mates.mark_mates.Given as goal

-- the dams of the calves so far are marked
abbrev pub invariant-loop-calf : goal.invariant-loop-calf
invariant-loop-calf g l = record {
  room : l.last < 64 * length l.marked.chunks.items;
  near : (e : ℕ) → mark l.marked.chunks.items e ≡ 1 → e ≤ l.last;
  mates : All (λ calf. (d : ℕ) → dam_rank l.lineage calf ≡ Some d → mark l.marked.chunks.items (l.last - d) ≡ 1) l.yielded;
}
