-- Only a write that fails leaves a front.
use Rattle.herd_clerks.proofs.ClerksFacts.{ends-write_all}
use Rattle.herd_clerks.proofs.desks.write_summary.Goals as goal

pub returns-clause-err : goal.returns-clause-err
returns-clause-err g c =
    rw (c.as_bytes.ensures.value, c.in_ok-text.ensures) at (ends-write_all c.write_all.result _ _ _ c.write_all.ensures.err c.write_all.ensures.fault)
