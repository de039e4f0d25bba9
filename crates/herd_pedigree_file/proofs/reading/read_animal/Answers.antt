-- `read_animal`: the animal that was added is the record's.
use Rattle.std.proofs.Common.{subst}
use Rattle.csv.specs.Records.{fields_of}
use Rattle.csv_records.specs.Upcoming.{TakesRecord, upcoming}
use Rattle.herd_pedigree_file.proofs.lemmas.ReadingFacts.{takes_animal}
use Rattle.herd_pedigree_file.proofs.reading.read_animal.Goals as goal

pub returns-in-Ok-clause-takes : goal.returns-in-Ok-clause-takes
returns-in-Ok-clause-takes g c = λ _.
    let added = c.in-Ok.ensures.added in
    let old = upcoming g.R.Read.remaining c.args.records.now in
    let new = upcoming g.R.Read.remaining c.read_record.new.reader in
    let texts = fields_of c.read_record.new.row in
    takes_animal c.args.most c.args.builder.now texts c.add_animal.new.builder added.0 old new
    (subst (λ found. TakesRecord old new texts found) c.in-Ok-true.field-0-test c.in-Ok-true.ensures.takes) added.1 added.2
