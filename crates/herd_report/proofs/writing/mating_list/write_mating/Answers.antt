-- `write_mating`: its clause `err` where there is no memory for the dam's relationships.
use Rattle.std.proofs.Common.{arith}
use Rattle.herd_frozen.specs.freezing.Frozen.{book_of}
use Rattle.herd_text.proofs.lemmas.Exits.{on_err}
use Rattle.herd_text.proofs.lemmas.TextFacts.{front_nothing}
use Rattle.herd_report.proofs.lemmas.writing.MatingFacts.{some_mating_text}
use Rattle.herd_report.proofs.writing.mating_list.write_mating.Goals as goal

pub returns-in_err-matings-clause-err : goal.returns-in_err-matings-clause-err
returns-in_err-matings-clause-err g c = on_err c.from_residual.result (front_nothing _ _ (some_mating_text (book_of c.args.frozen.now) c.args.dam c.args.sires.now (grind arith)))
