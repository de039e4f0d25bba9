-- `Copybook::take_over`: its clause `copied`.
use Rattle.std.proofs.Common.{rules}
use Rattle.herd_register.proofs.CopyFacts.{copied}
use Rattle.herd_register.proofs.copybook.Copybook.take_over.Goals as goal

pub returns-clause-copied : goal.returns-clause-copied
returns-clause-copied g c limits earlier last ok is room made = copied limits earlier last c.args.change.now c.args.self.now _ (search rules) is room made

pub returns-then-are_reached_by-clause-copied : goal.returns-then-are_reached_by-clause-copied
returns-then-are_reached_by-clause-copied g c limits earlier last ok is room made = copied limits earlier last c.args.change.now c.args.self.now _ (search rules) is room made
