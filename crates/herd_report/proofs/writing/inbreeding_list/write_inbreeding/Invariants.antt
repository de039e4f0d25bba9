use Rattle.std.proofs.Common.{drop}
use Rattle.herd_frozen.specs.declared.TheConstants.{DEPTH_LIMIT}
use Rattle.herd_advice.specs.FrozenAncestry.{ancestry_of}
use Rattle.herd_kinship.specs.Table.{coefficient}
use Rattle.herd_text.proofs.lemmas.TextFacts.{Holds}
use Rattle.herd_report.specs.writing.InbreedingList.{inbreeding_text}
use Rattle.herd_report.proofs.writing.inbreeding_list.write_inbreeding.Given as goal

abbrev pub invariant-loop-rank : goal.invariant-loop-rank
invariant-loop-rank g l =
    let numerator_of = coefficient (ancestry_of l.frozen) DEPTH_LIMIT in
    Holds (g.W.Write.contents l.fn.writer) (g.W.Write.contents l.writer) (inbreeding_text numerator_of l.frozen) l.text
    (inbreeding_text numerator_of (drop l.rank l.frozen))
