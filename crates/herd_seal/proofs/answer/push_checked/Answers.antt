use Rattle.std.proofs.Common.{inr}
use Rattle.herd_seal.proofs.AnswerFacts.{refused_why}
use Rattle.herd_seal.proofs.answer.push_checked.Goals as goal

pub returns-in-Err-clause-why : goal.returns-in-Err-clause-why
returns-in-Err-clause-why g c =
    refused_why c.args.seal.now c.args.bytes.now _ c.in-Err.fault c.push_refused.result c.push_refused.ensures.text
    (inr c.in-Err.ensures.fault)
