-- The list has the commands that the reader gave.
use Rattle.std.proofs.Common.{◌-◌, IfSome, length}
use Rattle.herd_command_file.specs.CommandFile.{commands}
use Rattle.herd_command_file.specs.CommandReader.{HasGiven, IsReady}
use Rattle.herd_command_file.proofs.command_file.list_commands.Given as goal

abbrev pub invariant-loop-commands : goal.invariant-loop-commands
invariant-loop-commands g l = record {
  ready : IsReady l.most (length l.list.items) l.commands;
  gives : IfSome (g.R.Read.remaining l.fn.reader) (λ bytes. HasGiven g.R.Read.remaining (commands bytes l.most) l.list.items l.commands);
}

abbrev pub decreases-loop-commands : goal.decreases-loop-commands
decreases-loop-commands g l = l.most - length l.list.items
