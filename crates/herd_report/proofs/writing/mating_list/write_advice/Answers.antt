-- `write_advice`: its loop and its clause `err`.
use Rattle.std.proofs.lemmas.Result.{on_err_weaker}
use Rattle.herd_frozen.proofs.lemmas.ListFacts.{slice_get-item}
use Rattle.herd_text.proofs.lemmas.Exits.{on_err}
use Rattle.herd_text.proofs.lemmas.TextFacts.{front_passed, front_waiting, holds_passed}
use Rattle.herd_text.proofs.lemmas.Pieces.{holds_element, some_left}
use Rattle.herd_report.proofs.lemmas.writing.MatingFacts.{some_mating_line}
use Rattle.herd_report.specs.writing.MatingList.{mating_line}
use Rattle.herd_report.proofs.writing.mating_list.write_advice.Goals as goal

pub returns-in_err-pass_on-clause-err : goal.returns-in_err-pass_on-clause-err
returns-in_err-pass_on-clause-err g c = on_err c.from_residual.result (front_waiting c.loop-sire.invariant c.in_err-pass_on.ensures.err)

pub returns-in_err-push_advice-clause-err : goal.returns-in_err-push_advice-clause-err
returns-in_err-push_advice-clause-err g c =
    let matings = c.args.matings.now in
    let sires = c.args.sires.now in
    let rank = c.loop-sire.sire-index in
    let there = slice_get-item sires rank c.sire-item.result c.loop-sire-test.true c.sire-item.is in
    let some = some_left (mating_line matings.book matings.dam) sires rank c.sire-item.result there (some_mating_line matings.book matings.dam c.sire-item.result) in
    on_err c.from_residual-in_err-push_advice.result (front_passed (holds_passed c.loop-sire.invariant c.in_ok-pass_on.ensures.ok) some)

pub loop-sire-preserved : goal.loop-sire-preserved
loop-sire-preserved g c =
    let matings = c.args.matings.now in
    let sires = c.args.sires.now in
    let rank = c.loop-sire.sire-index in
    holds_element (mating_line matings.book matings.dam) sires rank c.sire-item.result
    (holds_passed c.loop-sire.invariant c.in_ok-pass_on.ensures.ok) (slice_get-item sires rank c.sire-item.result c.loop-sire-test.true c.sire-item.is) c.in_ok-push_advice.ensures

pub returns-clause-err : goal.returns-clause-err
returns-clause-err g c = on_err_weaker c.finish.result (front_waiting c.loop-sire.invariant) c.finish.ensures.err
