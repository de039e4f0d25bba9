-- The subcommand adds its line.
use Rattle.std.proofs.lemmas.Result.{IfOk-at_ok, IfOk-weaker}
use Rattle.herd_command_line.specs.CommandLine.{IsCommandOf}
use Rattle.herd_command_line.proofs.CommandFacts.{with_part}
use Rattle.herd_command_line.proofs.command_line.with_subcommand.Goals as goal

pub returns : goal.returns
returns c = λ line part is is_part.
    let before = IfOk-at_ok (IsCommandOf line) c.in_ok-command.was is in
    let added = IfOk-at_ok (IsCommandOf part) c.in_ok-subcommand.was is_part in
    IfOk-weaker c.subcommand.result _ _ (λ new joined. with_part _ _ new line part before added joined) c.subcommand.ensures
