-- The numbers so far stand in the buckets, and there is room for the rest.
use Rattle.std.proofs.Common.{◌≤◌, length, vec_capacity}
use Rattle.herd_frozen.specs.freezing.Frozen.{numbers_of}
use Rattle.herd_frozen.specs.freezing.NumberIndex.{AreBucketed}
use Rattle.herd_frozen.proofs.freezing.number_index.NumberIndex.of.Given as goal

abbrev pub invariant-loop-rank : goal.invariant-loop-rank
invariant-loop-rank g l = record {
  bucketed : AreBucketed (numbers_of l.rows) l.rank l.lasts.items l.earlier.items;
  room : length l.rows ≤ vec_capacity l.earlier;
}
