-- The animals so far, and room for the rest.
use Rattle.std.proofs.Common.{◌≡◌, ◌≤◌, length, map, take, vec_capacity, vec_len}
use Rattle.std.specs.List.{enumerate_from}
use Rattle.std.specs.Map.{keys_of}
use Rattle.herd_frozen.specs.freezing.AgeOrder.{key_of}
use Rattle.herd_frozen.specs.freezing.Freeze.{age_key}
use Rattle.herd_frozen.proofs.freezing.age_order.births_by_day.Given as goal

abbrev pub invariant-loop-place : goal.invariant-loop-place
invariant-loop-place g l = record {
  keys : map (key_of (keys_of (g.S.Registered.book l.records))) l.births.items ≡ map age_key (take l.place (enumerate_from 0 (g.S.Registered.book l.records)));
  count : vec_len l.births ≡ l.place;
  room : length (g.S.Registered.book l.records) ≤ vec_capacity l.births;
}
