-- `write_rows`: what was written, what waits and the lines at the places that are left are the whole text, and of each
-- row that was written it is told that its fields have texts.
use Rattle.std.proofs.Common.{◌++◌, drop, take}
use Rattle.std.specs.List.{All, flat_map}
use Rattle.herd_text.proofs.lemmas.TextFacts.{Holds}
use Rattle.herd_seal.specs.Reading.{IsWrittenRow}
use Rattle.herd_certificate.specs.Sealed.{line_at, rows_at}
use Rattle.herd_certificate.proofs.certificate.write_rows.Given as goal

abbrev pub invariant-loop-place : goal.invariant-loop-place
invariant-loop-place g l = record {
  held : Holds (g.W.Write.contents l.fn.writer) (g.W.Write.contents l.writer)
      (l.fn.text ++ flat_map (line_at l.frozen) l.places) l.text
      (flat_map (line_at l.frozen) (drop l.place-index l.places));
  told : All IsWrittenRow (rows_at l.frozen (take l.place-index l.places));
}
