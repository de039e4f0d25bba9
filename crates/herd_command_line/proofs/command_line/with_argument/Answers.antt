-- The argument adds its rule.
use Rattle.std.proofs.lemmas.Result.{IfOk-at_ok, IfOk-weaker}
use Rattle.herd_command_line.specs.CommandLine.{IsCommandOf}
use Rattle.herd_command_line.proofs.CommandFacts.{with_arg}
use Rattle.herd_command_line.proofs.command_line.with_argument.Goals as goal

pub returns : goal.returns
returns c = λ line rule is ruled.
    let before = IfOk-at_ok (IsCommandOf line) c.in_ok-command.was is in
    IfOk-weaker c.arg.result _ _ (λ new added. with_arg _ c.args.argument new line rule before ruled added) c.arg.ensures
