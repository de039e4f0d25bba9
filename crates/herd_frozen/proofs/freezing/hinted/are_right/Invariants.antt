-- As many hints as records, and the parents so far stand where they are expected.
use Rattle.std.proofs.Common.{◌≡◌, length}
use Rattle.herd_frozen.specs.freezing.Hinted.{AreHintedBelow}
use Rattle.herd_frozen.proofs.freezing.hinted.are_right.Given as goal

abbrev pub invariant-loop-place : goal.invariant-loop-place
invariant-loop-place l = (length l.hints ≡ length l.records) × AreHintedBelow l.place l.records l.hints
