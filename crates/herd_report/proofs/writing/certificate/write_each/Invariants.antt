-- `write_each`: what was written, what waits and the certificates of the numbers that are left are the whole text.
use Rattle.std.proofs.Common.{drop}
use Rattle.herd_text.proofs.lemmas.TextFacts.{Holds}
use Rattle.herd_report.specs.writing.Certificate.{certificates_of}
use Rattle.herd_report.proofs.writing.certificate.write_each.Given as goal

abbrev pub invariant-loop-number : goal.invariant-loop-number
invariant-loop-number g l =
    Holds (g.W.Write.contents l.fn.writer) (g.W.Write.contents l.writer) (certificates_of l.frozen l.numbers) l.text
    (certificates_of l.frozen (drop l.number-index l.numbers))
