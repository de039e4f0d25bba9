-- The keys so far, and room for the rest.
use Rattle.std.proofs.Common.{◌≡◌, ◌≤◌, length, map, take, vec_capacity, vec_len}
use Rattle.std.specs.Map.{keys_of}
use Rattle.herd_frozen.specs.freezing.AgeOrder.{key_of}
use Rattle.herd_frozen.proofs.freezing.age_order.keys_of_births.Given as goal

abbrev pub invariant-loop-born : goal.invariant-loop-born
invariant-loop-born g l = record {
  keys : l.keys.items ≡ map (key_of (keys_of (g.S.Registered.book l.records))) (take l.born-index l.births);
  count : vec_len l.keys ≡ l.born-index;
  room : length l.births ≤ vec_capacity l.keys;
}
