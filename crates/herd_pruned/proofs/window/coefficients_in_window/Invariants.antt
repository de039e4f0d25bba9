-- As many animals stand in the window as turns were taken.
use Rattle.std.proofs.Common.{◌≡◌, length}
use Rattle.herd_pruned.proofs.window.coefficients_in_window.Given as goal

abbrev pub invariant-loop : goal.invariant-loop
invariant-loop g l = record {
  lineage : l.window.lineage ≡ l.lineage;
  animals : length l.window.coefficients ≡ l.counter;
}
