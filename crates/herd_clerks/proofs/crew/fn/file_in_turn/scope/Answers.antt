-- Each clerk who was started is awaited.
use Rattle.std.proofs.Common.{rules}
use Rattle.herd_clerks.proofs.crew.fn.file_in_turn.scope.Goals as goal

pub returns : goal.returns
returns g c = record {
  numbers = search rules;
  filed = c.join_all.ensures.filed c.captures.deal c.in_ok-started.ensures.deals;
}
