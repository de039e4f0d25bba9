-- The tag is that of the task's record.
use Rattle.std.proofs.Common.{◌∙◌, inl, sym}
use Rattle.std.proofs.Math.Logic.{∥∥₁_map}
use Rattle.herd_session.proofs.tasks.Task.tag.Goals as goal

pub returns-clause-there : goal.returns-clause-there
returns-clause-there g c =
    ∥∥₁_map c.args.self.now.asked
    (λ asked.
    record {
      before = c.args.self.now.before;
      fields = asked.fields;
      there = asked.there;
      tag_is = inl (asked.tag_is ∙ sym c.again.ensures);
    })
