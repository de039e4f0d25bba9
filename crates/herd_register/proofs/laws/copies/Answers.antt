-- `copies`: its clause.
use Rattle.herd_register.proofs.CopyFacts.{copy-of-changes}
use Rattle.herd_register.proofs.laws.copies.Goals as goal

pub returns : goal.returns
returns g c = λ changes are. copy-of-changes c.args.register.now.limits c.args.register.now.journal changes c.journal.ensures.room are
