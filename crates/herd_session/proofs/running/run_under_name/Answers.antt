-- Where the office isn't opened nothing is written.
use Rattle.std.proofs.Common.{subst}
use Rattle.herd_session.proofs.ClosingFacts.{ends_unbegun}
use Rattle.herd_session.specs.Closing.{EndsBy, fault_of_opening}
use Rattle.herd_session.proofs.running.run_under_name.Goals as goal

pub returns-in-Err : goal.returns-in-Err
returns-in-Err g c =
    let limits = g.N.OfficeName.limits in
    let records = g.N.SessionName.records in
    rw c.from.ensures
    (∣ subst (λ now. EndsBy limits records g.N.SessionName.before now (fault_of_opening c.in-Err.fault)) c.requires.before
    (ends_unbegun c.in-Err.fault limits records g.N.SessionName.before) ∣₁)
