-- The levels so far are empty, and there is room for the rest.
use Rattle.std.proofs.Common.{◌≡◌, ◌+◌, ◌≤◌, [], map, replicate, vec_capacity, vec_len}
use Rattle.herd_lineage.specs.declared.TheConstants.{DEPTH_LIMIT}
use Rattle.herd_lineage.proofs.levels.empty_levels.Given as goal

abbrev pub invariant-loop : goal.invariant-loop
invariant-loop g l = record {
  empty : map (λ level. level.items) l.levels.items ≡ replicate l.counter [];
  count : vec_len l.levels ≡ l.counter;
  room : DEPTH_LIMIT + 1 ≤ vec_capacity l.levels;
}
