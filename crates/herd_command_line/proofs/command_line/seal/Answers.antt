-- The limits are added with their rules.
use Rattle.std.proofs.Common.{codes}
use Rattle.clap.specs.Words.{new_app}
use Rattle.herd_command_line.specs.CommandLine.{seal_line}
use Rattle.herd_command_line.proofs.command_line.seal.Goals as goal

pub returns : goal.returns
unfolding seal_line
returns c = c.with_limits.ensures (new_app (codes "seal")) c.named-bare.ensures
