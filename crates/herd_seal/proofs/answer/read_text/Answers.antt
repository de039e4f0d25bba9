use Rattle.std.proofs.Common.{ap, arith, length}
use Rattle.herd_seal.proofs.AnswerFacts.{whole_read}
use Rattle.herd_seal.proofs.answer.read_text.Goals as goal

pub returns-in-Ok-clause-whole : goal.returns-in-Ok-clause-whole
returns-in-Ok-clause-whole g c =
    whole_read g.R.Read.remaining c.take.result c.args.reader c.new-text.result.items c.read_to_end.new.buf.items 67_108_864 c.take.ensures.limit c.take.ensures.inner c.new-text.ensures.items
    (omega (arith, ap length c.as_slice.ensures.value, c.if-as_slice-le-MOST_BYTES.true)) c.in-Ok.ensures.bytes
