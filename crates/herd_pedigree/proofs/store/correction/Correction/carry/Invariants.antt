-- All but the pending are settled, and from each of these there is a path as long as the rounds.
use Rattle.std.proofs.Common.{◌≡◌, ℕ, List, length, slice_index}
use Rattle.herd_pedigree.specs.store.Correction.{corrected}
use Rattle.herd_pedigree.specs.store.Carrying.{IsSettled, HavePaths}
use Rattle.herd_pedigree.specs.store.Undo.{TakesBack}
use Rattle.herd_frozen.specs.declared.TheConstants.{DEPTH_LIMIT}
use Rattle.herd_pedigree.proofs.store.correction.Correction.carry.Given as goal

abbrev pub invariant-loop : goal.invariant-loop
invariant-loop g l = record {
  long : length l.depths ≡ length l.fn.depths;
  logged : (past : List ℕ) → TakesBack l.fn.log.items l.fn.depths past → TakesBack l.log.items l.depths past;
  settled : IsSettled DEPTH_LIMIT (corrected l.self) (slice_index l.depths) l.pending.items;
  paths : HavePaths (corrected l.self) l.counter l.pending.items;
}
