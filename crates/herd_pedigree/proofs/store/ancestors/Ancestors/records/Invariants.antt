-- The records so far, and room for the rest.
use Rattle.std.proofs.Common.{◌≡◌, ◌≤◌, length, take, vec_capacity, vec_len}
use Rattle.herd_pedigree.specs.store.Ancestors.{records_at}
use Rattle.herd_pedigree.proofs.store.ancestors.Ancestors.records.Given as goal

abbrev pub invariant-loop-place : goal.invariant-loop-place
invariant-loop-place g l = record {
  list : l.list.items ≡ records_at (g.S.Searched.book l.records) (take l.place-index l.place-items);
  count : vec_len l.list ≡ l.place-index;
  room : length l.place-items ≤ vec_capacity l.list;
}
