-- `write_relationships`: its loop, and what was written where it ends early.
use Rattle.std.proofs.Common.{◌≡◌, ◌==◌, ◌+◌, ◌<◌, ◌++◌, arith, drop, get_or, length}
use Rattle.std.proofs.lemmas.Option.{slice_get-get_or}
use Rattle.std.proofs.lemmas.Result.{on_err_weaker}
use Rattle.herd_text.proofs.lemmas.Exits.{ends_front, ends_report, if_err}
use Rattle.herd_text.proofs.lemmas.TextFacts.{front_waiting}
use Rattle.herd_text.proofs.lemmas.Pieces.{front_grown, holds_grown}
use Rattle.herd_pedigree_report.proofs.lemmas.PairFacts.{pairs_split, partners_are}
use Rattle.herd_pedigree_report.specs.RelationshipList.{lines_with, pair_lines}
use Rattle.herd_pedigree_report.proofs.relationship_list.write_relationships.Given.{Over}
use Rattle.herd_pedigree_report.proofs.relationship_list.write_relationships.Goals.{After-write_lines}
use Rattle.herd_pedigree_report.proofs.relationship_list.write_relationships.Goals as goal

-- the lines of the animal at the place, and those of the rest
split : (g : Over) (c : After-write_lines g)
    → pair_lines c.args.in_units c.args.lineage.now (length c.args.others.now == 0) c.args.others.now (drop c.loop-place.place c.args.animals.now)
    ≡ lines_with c.args.in_units c.args.lineage.now (get_or c.args.animals.now c.loop-place.place 0) c.partners_of-partners.result.now
    ++ pair_lines c.args.in_units c.args.lineage.now (length c.args.others.now == 0) c.args.others.now (drop (c.loop-place.place + 1) c.args.animals.now)
split g c =
    let animals = c.args.animals.now in
    let others = c.args.others.now in
    let place = c.loop-place.place in
    let among = length others == 0 in
    let within : place < length animals = omega arith in
    let are = partners_are among _ others animals c.partners_of-partners.result.now place c.is_empty.ensures c.partners_of-partners.ensures in
    pairs_split c.args.in_units c.args.lineage.now among others animals place (get_or animals place 0) c.partners_of-partners.result.now
    (slice_get-get_or animals place 0 within) are

pub returns-in_err-write_lines-clause-err : goal.returns-in_err-write_lines-clause-err
returns-in_err-write_lines-clause-err g c =
    if_err c.from_residual.result _ _ c.from_residual.ensures.1
    (ends_report _ _ _ _
    (front_grown (lines_with c.args.in_units c.args.lineage.now (get_or c.args.animals.now c.loop-place.place 0) c.partners_of-partners.result.now) _
    c.loop-place.invariant (split g (goal.at.returns-in_err-write_lines-clause-err g c).After-write_lines) c.in_err-write_lines.ensures.err))

pub loop-place-preserved : goal.loop-place-preserved
loop-place-preserved g c =
    holds_grown (lines_with c.args.in_units c.args.lineage.now (get_or c.args.animals.now c.loop-place.place 0) c.partners_of-partners.result.now) _
    c.loop-place.invariant (split g (goal.at.loop-place-preserved g c).After-write_lines) c.in_ok-write_lines.ensures.ok

pub returns-clause-err : goal.returns-clause-err
returns-clause-err g c = ends_front c.finish.result _ _ _ (on_err_weaker c.finish.result (front_waiting c.loop-place.invariant) c.finish.ensures.err)
