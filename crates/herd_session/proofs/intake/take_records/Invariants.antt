-- So many records were read, and the others are still to come.
use Rattle.csv_records.specs.Upcoming.{IsSetUp, upcoming}
use Rattle.herd_session.proofs.IntakeFacts.{IfSomeIs}
use Rattle.herd_session.proofs.intake.take_records.Given as goal

abbrev pub invariant-loop-before : goal.invariant-loop-before
invariant-loop-before g l = record {
  set_up : IsSetUp l.records;
  to_come : IfSomeIs g.N.SessionName.records l.before (upcoming g.I.Read.remaining l.records);
}
