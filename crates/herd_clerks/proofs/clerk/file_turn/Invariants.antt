-- What is left of the turn.
use Rattle.std.proofs.Common.{◌≡◌, ◌-◌, List, ◌++◌, drop, length}
use Rattle.herd_register.specs.declared.command.Command.{Command}
use Rattle.herd_clerks.specs.Deal.{HasFiled, every}
use Rattle.herd_clerks.proofs.DealFacts.{Underway}
use Rattle.herd_clerks.proofs.clerk.file_turn.Given as goal

abbrev pub invariant-loop-place : goal.invariant-loop-place
invariant-loop-place g l =
    let commands = l.turn.commands.now in
    record {
      number : l.desk.number ≡ l.initial.desk.number;
      under : (before : List Command) → HasFiled l.initial.desk before
          → Underway l.desk (every l.turn.step 0 (drop l.place commands)) (before ++ every l.turn.step l.turn.from commands);
    }

abbrev pub decreases-loop-place : goal.decreases-loop-place
decreases-loop-place g l = length l.turn.commands.now - l.place
