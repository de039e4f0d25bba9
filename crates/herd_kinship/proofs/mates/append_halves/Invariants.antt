use Rattle.std.proofs.Common.{◌≡◌, ◌+◌, ◌≤◌, ◌++◌, length, map, vec_capacity, vec_len}
use Rattle.herd_kinship.specs.CalfCoefficients.{with_half}
use Rattle.herd_kinship.proofs.mates.append_halves.Given as goal

-- the calves so far are appended, and there is room for the others
abbrev pub invariant-loop-rank : goal.invariant-loop-rank
invariant-loop-rank g l = record {
  appended : l.list.items ≡ l.initial.list.items ++ map (with_half l.lineage l.column) l.yielded;
  room : vec_len l.list + length l.rank-iterator ≤ vec_capacity l.list;
}
