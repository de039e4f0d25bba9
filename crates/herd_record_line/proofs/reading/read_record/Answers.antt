use Rattle.herd_record_line.proofs.RecordFacts.{read-back}
use Rattle.herd_record_line.proofs.reading.read_record.Goals as goal

pub returns-clause-back : goal.returns-clause-back
returns-clause-back c = λ number animal is same.
    read-back c.args.text.now c.read_fields.result c.read_fields.ensures.some c.read_fields.ensures.none
    c.read_fields.ensures.told number animal is same
