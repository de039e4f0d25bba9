-- The record that was read is the command.
use Rattle.std.proofs.Common.{◌≤◌, ◌+◌, ◌∙◌, sym, arith}
use Rattle.csv.specs.Records.{fields_of}
use Rattle.csv_records.specs.Upcoming.{upcoming}
use Rattle.herd_command_file.proofs.CommandReaderFacts.{takes_command}
use Rattle.herd_command_file.proofs.command_reader.CommandReader.read_command.Goals as goal

pub returns-clause-takes : goal.returns-clause-takes
returns-clause-takes g c =
    let old = c.args.self.now in
    let read = c.read_record.new in
    let takes = rw c.if-not-branch.false at c.in_ok-read_record.ensures.takes in
    let below : old.given + 1 ≤ old.most = omega arith in
    takes_command old.version old.most (old.given + 1) (upcoming g.R.Read.remaining old.records) (upcoming g.R.Read.remaining read.reader)
    (fields_of read.row) c.in_ok-command.command takes (sym c.in_ok-command.was ∙ c.parse_command.ensures.command) below
