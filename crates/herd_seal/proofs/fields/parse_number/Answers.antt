use Rattle.herd_seal.proofs.ReadingFacts.{not_utf8, parsed_none, parsed_some}
use Rattle.herd_seal.proofs.fields.parse_number.Goals as goal

pub returns-in-Ok-clause-some : goal.returns-in-Ok-clause-some
returns-in-Ok-clause-some c =
    parsed_some c.args.text.now c.in-Ok.digits.now c.parse.result c.ok.result c.in-Ok.ensures.cases.0 c.parse.ensures.value.0 c.ok.ensures.value

pub returns-in-Ok-clause-none : goal.returns-in-Ok-clause-none
returns-in-Ok-clause-none c =
    parsed_none c.args.text.now c.in-Ok.digits.now c.parse.result c.ok.result c.in-Ok.ensures.cases.0 c.parse.ensures.value.0 c.ok.ensures.value

pub returns-in-Err-clause-none : goal.returns-in-Err-clause-none
returns-in-Err-clause-none c = not_utf8 c.args.text.now c.in-Err.ensures.cases.0
