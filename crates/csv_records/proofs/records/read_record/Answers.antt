-- `read_record`: its clauses `set_up`, `takes` and `failed`.
use Rattle.csv_records.proofs.UpcomingFacts.{err_through, failed_after, ok_through, set_up_after, takes_after}
use Rattle.csv_records.proofs.records.read_record.Goals as goal

pub returns-clause-set_up : goal.returns-clause-set_up
returns-clause-set_up g c =
    let read = c.read_byte_record in
    ok_through read.result c.map_err.result _ _ c.map_err.ensures.cases c.map_err.ensures.variant
    (set_up_after read.result c.args.reader.now read.new.self c.requires read.ensures.reads_on read.ensures.goes)

pub returns-clause-takes : goal.returns-clause-takes
returns-clause-takes g c =
    let read = c.read_byte_record in
    ok_through read.result c.map_err.result _ _ c.map_err.ensures.cases c.map_err.ensures.variant
    (takes_after g.R.Read.remaining read.result c.args.reader.now read.new.self _ c.requires read.ensures.reads)

pub returns-clause-failed : goal.returns-clause-failed
returns-clause-failed g c =
    let read = c.read_byte_record in
    err_through read.result c.map_err.result _ c.map_err.ensures.variant
    (failed_after g.R.Read.remaining read.result c.args.reader.now read.new.self c.requires read.ensures.fails read.ensures.why)
