-- A record more was read.
use Rattle.csv.specs.Records.{fields_of}
use Rattle.csv_records.specs.Upcoming.{upcoming}
use Rattle.herd_session.proofs.IntakeFacts.{taken_if_known}
use Rattle.herd_session.proofs.intake.take_records.Goals as goal

pub hand_on-requires-clause-there : goal.hand_on-requires-clause-there
hand_on-requires-clause-there g c =
    (taken_if_known g.N.SessionName.records c.loop-before.before (fields_of c.read_record.new.row) c.in-Ok-true.field-0
    (upcoming g.I.Read.remaining c.loop-before.records) (upcoming g.I.Read.remaining c.read_record.new.reader)
    c.loop-before.invariant.to_come c.in-Ok-true.ensures.takes c.in-Ok-true.field-0-test).0

pub loop-before-preserved : goal.loop-before-preserved
loop-before-preserved g c = record {
  set_up = c.in-Ok-true.ensures.set_up c.in-Ok-true.field-0-test;
  to_come =
      (taken_if_known g.N.SessionName.records c.loop-before.before (fields_of c.read_record.new.row) c.in-Ok-true.field-0
      (upcoming g.I.Read.remaining c.loop-before.records) (upcoming g.I.Read.remaining c.read_record.new.reader)
      c.loop-before.invariant.to_come c.in-Ok-true.ensures.takes c.in-Ok-true.field-0-test).1;
}
