use Rattle.std.proofs.Common.{◌∙◌}
use Rattle.herd_record_line.proofs.reading.is_written.Goals as goal

pub returns-clause-only : goal.returns-clause-only
returns-clause-only c = λ other is number. c.text.ensures.only other is number ∙ c.text.ensures.text
