-- `write_inbreeding`: its loop and its clauses `err` and `ok`.
use Rattle.std.proofs.Common.{◌<◌, ◌≤◌, ◌∙◌, ◌++◌, ap, length, arith}
use Rattle.std.specs.List.{range_with_len}
use Rattle.std.proofs.lemmas.List.{drop_all}
use Rattle.std.proofs.lemmas.List.FromFn.{length-range_with_len}
use Rattle.std.proofs.lemmas.Result.{on_err_weaker, on_ok_weaker}
use Rattle.herd_lineage.proofs.lemmas.ListFacts.{slice_get-range}
use Rattle.herd_text.proofs.lemmas.Exits.{on_err}
use Rattle.herd_text.proofs.lemmas.TextFacts.{appends_waiting, front_passed, front_waiting, holds_passed}
use Rattle.herd_text.proofs.lemmas.Pieces.{holds_element, some_left}
use Rattle.herd_pedigree_report.proofs.lemmas.ListFacts.{some_animal_line}
use Rattle.herd_pedigree_report.specs.InbreedingList.{animal_line, line_with}
use Rattle.herd_pedigree_report.proofs.inbreeding_list.write_inbreeding.Goals as goal

pub returns-in_err-pass_on-clause-err : goal.returns-in_err-pass_on-clause-err
returns-in_err-pass_on-clause-err g c = on_err c.from_residual.result (front_waiting c.loop-rank.invariant c.in_err-pass_on.ensures.err)

pub returns-in_err-push_line-clause-err : goal.returns-in_err-push_line-clause-err
returns-in_err-push_line-clause-err g c =
    let lineage = c.args.lineage.now in
    let rank = c.loop-rank.rank in
    let within : rank < length lineage = omega arith in
    let some = some_left (animal_line c.args.in_units lineage) (range_with_len 0 (length lineage)) rank rank (slice_get-range (length lineage) rank within) (some_animal_line c.args.in_units lineage rank) in
    on_err c.from_residual-in_err-push_line.result (front_passed (holds_passed c.loop-rank.invariant c.in_ok-pass_on.ensures.ok) some)

pub loop-rank-preserved : goal.loop-rank-preserved
loop-rank-preserved g c =
    let lineage = c.args.lineage.now in
    let rank = c.loop-rank.rank in
    let within : rank < length lineage = omega arith in
    let numerator = c.numerator.ensures.value ∙ c.requires.right rank within in
    let joined = c.in_ok-push_line.ensures ∙ ap (λ n. c.pass_on.new.self ++ line_with c.args.in_units rank n) numerator in
    holds_element (animal_line c.args.in_units lineage) (range_with_len 0 (length lineage)) rank rank
    (holds_passed c.loop-rank.invariant c.in_ok-pass_on.ensures.ok) (slice_get-range (length lineage) rank within) joined

pub returns-clause-err : goal.returns-clause-err
returns-clause-err g c = on_err_weaker c.finish.result (front_waiting c.loop-rank.invariant) c.finish.ensures.err

pub returns-clause-ok : goal.returns-clause-ok
returns-clause-ok g c =
    let lineage = c.args.lineage.now in
    let rank = c.loop-rank.rank in
    let past : length (range_with_len 0 (length lineage)) ≤ rank = rw (length-range_with_len 0 (length lineage)) (omega arith) in
    let held = rw (drop_all rank (range_with_len 0 (length lineage)) past) at c.loop-rank.invariant in
    on_ok_weaker c.finish.result (λ written. appends_waiting (g.W.Write.contents c.finish.new.writer) held written) c.finish.ensures.ok
