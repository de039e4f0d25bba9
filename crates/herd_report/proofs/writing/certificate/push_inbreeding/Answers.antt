-- `push_inbreeding`: its result.
use Rattle.std.proofs.Common.{append_assoc}
use Rattle.std.proofs.lemmas.Result.{IfOk-equal}
use Rattle.herd_report.specs.writing.Certificate.{labelled_line}
use Rattle.herd_report.proofs.writing.certificate.push_inbreeding.Goals as goal

pub returns : goal.returns
unfolding labelled_line
returns g c = IfOk-equal c.push-2.result _ _ _ c.push-2.ensures (rw (c.in_ok-push_coefficient.ensures, c.in_ok-push.ensures) (simp append_assoc))
