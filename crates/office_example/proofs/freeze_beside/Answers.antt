-- `freeze_beside`: its loop.
use Rattle.herd_office.proofs.Fronts.{prefix_self, prefix_trans}
use Rattle.office_example.proofs.freeze_beside.Goals as goal

pub loop-reading-init : goal.loop-reading-init
loop-reading-init g c = prefix_self _

pub loop-reading-preserved : goal.loop-reading-preserved
loop-reading-preserved g c = prefix_trans _ _ _ c.loop-reading.invariant c.freeze.ensures.seen
