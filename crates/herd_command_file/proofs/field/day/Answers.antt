-- `day`: its result.
use Rattle.herd_command_file.specs.Field.{day_in}
use Rattle.herd_command_file.proofs.FieldFacts.{Decides-is_day, result_or-by_test}
use Rattle.herd_command_file.proofs.field.day.Goals as goal

pub returns : goal.returns
unfolding day_in
returns c = rw c.or.ensures (result_or-by_test c.parse.result _ _ _ _ (Decides-is_day c.args.text.now) c.parse.ensures.accepted c.parse.ensures.value)
