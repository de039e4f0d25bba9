-- What is left is what the reader has still to give.
use Rattle.std.proofs.Common.{List, ◌-◌}
use Rattle.herd_register.specs.declared.command.Command.{Command}
use Rattle.herd_command_file.specs.CommandFile.{CommandFile}
use Rattle.herd_command_file.specs.CommandReader.{HasGiven, IsReady}
use Rattle.herd_command_file.proofs.command_filing.fault_of_rest.Given as goal

abbrev pub invariant-loop-fault : goal.invariant-loop-fault
invariant-loop-fault g l = record {
  ready : IsReady l.fn.commands.most l.commands.given l.commands;
  gives : (file : CommandFile) → (list : List Command) → HasGiven g.R.Read.remaining file list l.fn.commands
      → (given : List Command) × HasGiven g.R.Read.remaining file given l.commands;
}

abbrev pub decreases-loop-fault : goal.decreases-loop-fault
decreases-loop-fault g l = l.fn.commands.most - l.commands.given
