use Rattle.std.proofs.Common.{length}
use Rattle.herd_text.specs.Text.{PassesOn}
use Rattle.herd_text.proofs.text.write_all.Given as goal

abbrev pub invariant-loop-rest : goal.invariant-loop-rest
invariant-loop-rest g l = PassesOn (g.W.Write.contents l.fn.writer) (g.W.Write.contents l.writer) l.fn.bytes l.rest

abbrev pub decreases-loop-rest : goal.decreases-loop-rest
decreases-loop-rest g l = length l.rest
