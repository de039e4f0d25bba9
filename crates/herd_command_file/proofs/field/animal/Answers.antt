-- `animal`: its result.
use Rattle.herd_command_file.proofs.FieldFacts.{Decides-is_animal_number, result_or-by_test}
use Rattle.herd_command_file.proofs.field.animal.Goals as goal

pub returns : goal.returns
returns c = rw c.or.ensures (result_or-by_test c.parse.result _ _ _ _ (Decides-is_animal_number c.args.text.now) c.parse.ensures.accepted c.parse.ensures.value)
