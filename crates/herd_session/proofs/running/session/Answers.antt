-- Where there are no parts of an office nothing is written.
use Rattle.std.proofs.lemmas.Result.{err_from_is_err_and}
use Rattle.herd_session.proofs.ClosingFacts.{ends_unbegun}
use Rattle.herd_requests.specs.Requests.{records_in}
use Rattle.herd_session.proofs.running.session.Goals as goal

pub returns-in_err-parts : goal.returns-in_err-parts
returns-in_err-parts g c =
    let told = err_from_is_err_and c.from_residual.result c.from_residual.ensures.1 in
    rw told.1
    (rw told.2
    (∣ ends_unbegun _ c.args.plan.limits (records_in (g.I.Read.remaining c.args.reader)) (g.W.Write.contents c.args.writer.now) ∣₁))
