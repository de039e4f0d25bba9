-- The argument is added with its rule.
use Rattle.std.proofs.Common.{codes}
use Rattle.clap.specs.Words.{new_app, with_rule}
use Rattle.herd_command_line.specs.CommandLine.{number_rule, sealed_line}
use Rattle.herd_command_line.proofs.command_line.sealed.Goals as goal

pub returns : goal.returns
unfolding sealed_line
returns c =
    let bare = new_app (codes "sealed") in
    c.with_limits.ensures (with_rule bare number_rule) (c.with_argument-given.ensures bare number_rule c.named-bare.ensures c.number_argument.ensures)
