-- `answer_batches`: the history of each batch begins with those before.
use Rattle.herd_office.proofs.Fronts.{prefix_self, prefix_trans}
use Rattle.herd_session.proofs.inspector_work.answer_batches.Goals as goal

pub loop-init : goal.loop-init
loop-init g c = prefix_self c.args.reporting.now.inspector.history

pub loop-preserved : goal.loop-preserved
loop-preserved g c =
    prefix_trans c.args.reporting.now.inspector.history c.loop.reporting.inspector.history c.answer_each.new.reporting.inspector.history
    c.loop.invariant c.answer_each.ensures

pub returns-in_err-answer_each : goal.returns-in_err-answer_each
returns-in_err-answer_each g c =
    prefix_trans c.args.reporting.now.inspector.history c.loop.reporting.inspector.history c.answer_each.new.reporting.inspector.history
    c.loop.invariant c.answer_each.ensures
