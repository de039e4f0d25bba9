use Rattle.std.proofs.Common.{arith}
use Rattle.herd_seal.proofs.ReadingFacts.{too_large}
use Rattle.herd_seal.proofs.fields.read_place.Goals as goal

pub returns-then-number-from-clause-none : goal.returns-then-number-from-clause-none
returns-then-number-from-clause-none c =
    let above = c.if-number-from.true in
    too_large c.args.text.now c.in_ok-number.number c.in_ok-number.ensures.some c.in_ok-number.ensures.small (omega (arith, above))
