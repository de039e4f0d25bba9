-- The length of a history answers its question.
use Rattle.std.proofs.Math.Logic.{∥∥₁_map}
use Rattle.herd_requests.specs.declared.question.Question.TheVariants.{Seen}
use Rattle.herd_session.proofs.AskedFacts.{report_answers}
use Rattle.herd_session.proofs.reporting_inspector.length_answer.Goals as goal

pub invariant_of-result : goal.invariant_of-result
invariant_of-result g c =
    let task = c.args.task.now in
    record {
      answers =
          ∥∥₁_map task.asked
          (λ asked.
          report_answers g.N.OfficeName.limits g.N.SessionName.records task.before task.number task.tag task.wanted Seen
          c.args.of.history c.push_end.new.out.items asked c.requires c.steps.ensures.legal
          (rw (c.new-text.ensures.items, c.steps.ensures.steps) at c.in_ok-push_end.ensures));
    }
