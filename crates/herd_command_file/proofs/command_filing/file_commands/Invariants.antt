-- The commands that the reader gave are filed.
use Rattle.std.proofs.Common.{◌-◌, [], length}
use Rattle.herd_register.specs.Run.{commands_of}
use Rattle.herd_command_file.specs.CommandFile.{CommandFile}
use Rattle.herd_command_file.specs.CommandReader.{HasGiven, IsReady}
use Rattle.herd_command_file.specs.Filing.{HasFiled}
use Rattle.herd_command_file.proofs.command_filing.file_commands.Given as goal

abbrev pub invariant-loop-command : goal.invariant-loop-command
invariant-loop-command g l = record {
  ready : IsReady l.fn.register.limits.steps (length l.register.journal) l.commands;
  filed : HasFiled l.fn.register.limits (commands_of l.register.journal) l.register;
  gives : (file : CommandFile) → HasGiven g.R.Read.remaining file [] l.fn.commands → HasGiven g.R.Read.remaining file (commands_of l.register.journal) l.commands;
}

abbrev pub decreases-loop-command : goal.decreases-loop-command
decreases-loop-command g l = l.fn.register.limits.steps - length l.register.journal
