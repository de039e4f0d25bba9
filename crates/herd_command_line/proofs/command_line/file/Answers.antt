-- The limits are added with their rules.
use Rattle.std.proofs.Common.{codes}
use Rattle.clap.specs.Words.{new_app}
use Rattle.herd_command_line.specs.CommandLine.{file_line}
use Rattle.herd_command_line.proofs.command_line.file.Goals as goal

pub returns : goal.returns
unfolding file_line
returns c = c.with_limits.ensures (new_app (codes "file")) c.named-bare.ensures
