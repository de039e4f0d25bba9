use Rattle.std.proofs.Common.{◌≡◌, ◌+◌, ◌≤◌, ◌++◌, length}
use Rattle.std.specs.List.{All, flat_map}
use Rattle.herd_seal.specs.CertificateText.{row_line}
use Rattle.herd_seal.specs.Reading.{IsWrittenRow}
use Rattle.herd_seal.proofs.reading.read_rows.Given as goal

abbrev pub invariant-loop-line : goal.invariant-loop-line
invariant-loop-line g l = record {
  joined : flat_map row_line l.rows.items ++ l.rest ≡ l.text;
  written : All IsWrittenRow l.rows.items;
  few : length l.rows.items + length l.rest ≤ length l.text;
}

abbrev pub decreases-loop-line : goal.decreases-loop-line
decreases-loop-line g l = length l.rest
