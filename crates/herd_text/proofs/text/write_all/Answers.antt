-- `write_all`: its loop.
use Rattle.herd_text.proofs.lemmas.TextFacts.{passes_count}
use Rattle.herd_text.proofs.text.write_all.Goals as goal

pub loop-rest-preserved : goal.loop-rest-preserved
loop-rest-preserved g c = passes_count c.in-Ok.count c.in-Ok.ensures.bound c.loop-rest.invariant c.in-Ok.ensures.bytes
