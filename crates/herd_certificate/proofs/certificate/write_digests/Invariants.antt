-- `write_digests`: what was written, what waits and the lines of the digests that are left are the whole text.
use Rattle.std.proofs.Common.{◌++◌, drop}
use Rattle.std.specs.List.{flat_map}
use Rattle.herd_text.proofs.lemmas.TextFacts.{Holds}
use Rattle.herd_seal.specs.CertificateText.{digest_line}
use Rattle.herd_certificate.proofs.certificate.write_digests.Given as goal

abbrev pub invariant-loop-digest : goal.invariant-loop-digest
invariant-loop-digest g l =
    Holds (g.W.Write.contents l.fn.writer) (g.W.Write.contents l.writer) (l.fn.text ++ flat_map digest_line l.digests) l.text
    (flat_map digest_line (drop l.digest-index l.digests))
