-- `write_advice`: what was written, what waits and the lines of the sires that are left are the whole text.
use Rattle.std.proofs.Common.{drop}
use Rattle.herd_text.proofs.lemmas.TextFacts.{Holds}
use Rattle.herd_report.specs.writing.MatingList.{mating_text}
use Rattle.herd_report.proofs.writing.mating_list.write_advice.Given as goal

abbrev pub invariant-loop-sire : goal.invariant-loop-sire
invariant-loop-sire g l =
    let matings = l.matings in
    Holds (g.W.Write.contents l.fn.writer) (g.W.Write.contents l.writer) (mating_text matings.book matings.dam l.sires) l.text
    (mating_text matings.book matings.dam (drop l.sire-index l.sires))
