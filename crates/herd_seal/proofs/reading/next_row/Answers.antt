use Rattle.herd_record_line.proofs.CutFacts.{if_none}
use Rattle.herd_seal.specs.Reading.{HasComma}
use Rattle.herd_seal.proofs.ReadingFacts.{first_line, no_comma, no_line}
use Rattle.herd_seal.proofs.reading.next_row.Goals as goal

pub returns-in_err-line-clause-none : goal.returns-in_err-line-clause-none
returns-in_err-line-clause-none c = if_none c.from_residual.result _ (no_line {P = HasComma} _ c.in_err-line.ensures.none)

pub returns-else-contains-clause-none : goal.returns-else-contains-clause-none
returns-else-contains-clause-none c = λ has.
    first_line {P = HasComma} c.in_ok-line.line.now c.in_ok-line.behind.now c.args.text.now c.in_ok-line.ensures.joined c.in_ok-line.ensures.plain has
    (no_comma c.in_ok-line.line.now c.contains.result c.contains.ensures.cases c.if-contains.false)
