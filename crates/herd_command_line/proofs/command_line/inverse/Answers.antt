-- The limits are added with their rules.
use Rattle.std.proofs.Common.{codes}
use Rattle.clap.specs.Words.{new_app}
use Rattle.herd_command_line.specs.CommandLine.{inverse_line}
use Rattle.herd_command_line.proofs.command_line.inverse.Goals as goal

pub returns : goal.returns
unfolding inverse_line
returns c = c.with_limits.ensures (new_app (codes "inverse")) c.named-bare.ensures
