-- What is left of the log takes back what is left to take back.
use Rattle.std.proofs.Common.{◌≡◌, ◌<◌, All, length, vec_len}
use Rattle.herd_pedigree.specs.store.Undo.{undone_writes}
use Rattle.herd_pedigree.proofs.store.undo.undo_writes.Given as goal

abbrev pub invariant-loop-place : goal.invariant-loop-place
invariant-loop-place g l = All (λ write. write.0 < length l.depths) l.log.items × (undone_writes l.log.items l.depths ≡ undone_writes l.fn.log.items l.fn.depths)

abbrev pub decreases-loop-place : goal.decreases-loop-place
decreases-loop-place g l = vec_len l.log
