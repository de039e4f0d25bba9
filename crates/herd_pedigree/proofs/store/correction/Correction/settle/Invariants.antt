-- The places that are left are pending, and the calves that were gathered.
use Rattle.std.proofs.Common.{◌≡◌, ℕ, List, suc, ◌++◌, length, drop, slice_index}
use Rattle.herd_pedigree.specs.store.Correction.{corrected}
use Rattle.herd_pedigree.specs.store.Carrying.{IsSettled, HavePaths}
use Rattle.herd_pedigree.specs.store.Undo.{TakesBack}
use Rattle.herd_frozen.specs.declared.TheConstants.{DEPTH_LIMIT}
use Rattle.herd_pedigree.proofs.store.correction.Correction.settle.Given as goal

abbrev pub invariant-loop-place : goal.invariant-loop-place
invariant-loop-place g l = record {
  long : length l.depths ≡ length l.fn.depths;
  logged : (past : List ℕ) → TakesBack l.fn.log.items l.fn.depths past → TakesBack l.log.items l.depths past;
  settled : IsSettled DEPTH_LIMIT (corrected l.self) (slice_index l.fn.depths) (l.places ++ l.fn.pending.items) → IsSettled DEPTH_LIMIT (corrected l.self) (slice_index l.depths) (drop l.place-index l.places ++ l.pending.items);
  paths : (n : ℕ) → HavePaths (corrected l.self) n l.places → HavePaths (corrected l.self) (suc n) l.fn.pending.items → HavePaths (corrected l.self) (suc n) l.pending.items;
}
