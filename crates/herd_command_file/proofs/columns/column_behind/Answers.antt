-- A field behind others is one of the record's.
use Rattle.std.proofs.Common.{rules}
use Rattle.csv.specs.Records.{fields_of}
use Rattle.herd_command_file.proofs.BehindFacts.{field_behind}
use Rattle.herd_command_file.proofs.columns.column_behind.Goals as goal

pub returns : goal.returns
returns c = rw (field_behind c.args.others c.args.place (fields_of c.args.row.now)) (search rules)
