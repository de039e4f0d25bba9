-- `push_entry`: its result.
use Rattle.std.proofs.Common.{append_assoc}
use Rattle.std.proofs.lemmas.Result.{IfOk-equal}
use Rattle.herd_report.specs.writing.Certificate.{labelled_line}
use Rattle.herd_report.proofs.writing.certificate.push_entry.Goals as goal

pub returns : goal.returns
unfolding labelled_line
returns g c =
    IfOk-equal c.push-4.result _ _ _ c.push-4.ensures (rw (c.in_ok-push-3.ensures, c.in_ok-push-2.ensures, c.in_ok-push.ensures) (simp append_assoc))
