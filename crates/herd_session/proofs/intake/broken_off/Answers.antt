-- The input breaks off at the record behind those that were read.
use Rattle.herd_session.proofs.intake.broken_off.Goals as goal

pub at_line-requires : goal.at_line-requires
at_line-requires g c =
    ∣ record {
      before = c.args.before;
      there = c.requires;
      number = c.fault_after.ensures.number;
      cause = c.fault_after.ensures.cause;
    } ∣₁
