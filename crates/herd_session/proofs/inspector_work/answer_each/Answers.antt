-- `answer_each`: each answer's history begins with those before.
use Rattle.herd_office.proofs.Fronts.{prefix_self, prefix_trans}
use Rattle.herd_session.proofs.inspector_work.answer_each.Goals as goal

pub loop-task-init : goal.loop-task-init
loop-task-init g c = prefix_self c.args.reporting.now.inspector.history

pub loop-task-preserved : goal.loop-task-preserved
loop-task-preserved g c =
    prefix_trans c.args.reporting.now.inspector.history c.loop-task.reporting.inspector.history c.answer_question.new.reporting.inspector.history
    c.loop-task.invariant c.answer_question.ensures

pub returns-in_err-answer_question : goal.returns-in_err-answer_question
returns-in_err-answer_question g c =
    prefix_trans c.args.reporting.now.inspector.history c.loop-task.reporting.inspector.history c.answer_question.new.reporting.inspector.history
    c.loop-task.invariant c.answer_question.ensures
