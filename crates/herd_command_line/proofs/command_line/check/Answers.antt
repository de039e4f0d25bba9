-- The argument is added with its rule.
use Rattle.std.proofs.Common.{codes}
use Rattle.clap.specs.Words.{new_app}
use Rattle.herd_command_line.specs.CommandLine.{check_line, seal_rule}
use Rattle.herd_command_line.proofs.command_line.check.Goals as goal

pub returns : goal.returns
unfolding check_line
returns c = c.with_argument.ensures (new_app (codes "check")) seal_rule c.named-bare.ensures c.seal_argument.ensures
