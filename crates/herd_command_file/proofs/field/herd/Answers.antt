-- `herd`: its result.
use Rattle.herd_command_file.proofs.FieldFacts.{Decides-is_herd, result_or-by_test}
use Rattle.herd_command_file.proofs.HerdFacts.{IfOk-herd_in}
use Rattle.herd_command_file.proofs.field.herd.Goals as goal

pub returns : goal.returns
returns c =
    let text = c.args.text.now in
    let value = IfOk-herd_in c.parse.result text c.parse.ensures.accepted.0 c.parse.ensures.value in
    rw c.or.ensures (result_or-by_test c.parse.result _ _ _ _ (Decides-is_herd text) c.parse.ensures.accepted value)
