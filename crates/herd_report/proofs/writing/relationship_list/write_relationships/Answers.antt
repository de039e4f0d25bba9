-- `write_relationships`: what `write_lines` requires, its loop, and what was written where it ends early.
use Rattle.std.proofs.Common.{◌≡◌, ◌==◌, ◌+◌, ◌<◌, ◌≤◌, ◌++◌, arith, drop, inl, length, refl, subst}
use Rattle.std.proofs.lemmas.List.{drop_all, length-map}
use Rattle.std.proofs.lemmas.List.Elements.{All-get_or}
use Rattle.std.proofs.lemmas.Option.{get_or_from_slice_get}
use Rattle.std.proofs.lemmas.Result.{on_err_weaker, on_ok_weaker}
use Rattle.herd_frozen.proofs.lemmas.ListFacts.{slice_get-item}
use Rattle.herd_frozen.specs.declared.TheConstants.{DEPTH_LIMIT}
use Rattle.herd_frozen.specs.freezing.Frozen.{book_of}
use Rattle.herd_advice.proofs.lemmas.FrozenFacts.{knows-ancestors}
use Rattle.herd_text.proofs.lemmas.Exits.{ends_front, ends_report, if_err}
use Rattle.herd_text.proofs.lemmas.TextFacts.{appends_waiting, front_waiting}
use Rattle.herd_report.proofs.lemmas.writing.RelationshipFacts.{asked_named, front_grown, holds_grown, pairs_split, partners_are}
use Rattle.herd_report.specs.declared.writing.relationship_list.Asked.{Asked}
use Rattle.herd_report.specs.writing.RelationshipList.{IsAsked, lines_with, names_of, pair_lines}
use Rattle.herd_report.proofs.writing.relationship_list.write_relationships.Given.{Over}
use Rattle.herd_report.proofs.writing.relationship_list.write_relationships.Goals.{After-write_lines}
use Rattle.herd_report.proofs.writing.relationship_list.write_relationships.Goals as goal

pub returns-in_err-asked-clause-err : goal.returns-in_err-asked-clause-err
returns-in_err-asked-clause-err g c = if_err c.from_residual.result _ _ c.from_residual.ensures.1 (inl refl)

pub returns-in_err-named-clause-err : goal.returns-in_err-named-clause-err
returns-in_err-named-clause-err g c = if_err c.from_residual-in_err-named.result _ _ c.from_residual-in_err-named.ensures.1 (inl refl)

pub write_lines-requires-clause-coefficients : goal.write_lines-requires-clause-coefficients
write_lines-requires-clause-coefficients g c =
    let rows = c.args.frozen.now in
    let asked = c.in_ok-asked.asked.items in
    let place = c.loop-place.place in
    let one = c.index.result.now in
    let ok = c.in_ok-asked.asked.ok in
    let len = c.len-place-end.ensures in
    let low = c.loop-place-test.true in
    let within : place < length asked = omega (arith, ok, len, low) in
    let there = slice_get-item asked place one within c.index.ensures in
    knows-ancestors DEPTH_LIMIT rows c.args.numbers.now c.args.coefficients.now c.requires one.rank one.number
    (subst (λ (a : Asked). IsAsked rows a) (get_or_from_slice_get asked place one one there) (All-get_or (IsAsked rows) asked place one within c.in_ok-asked.ensures.asked.each))
    (asked_named rows c.args.numbers.now asked place one c.in_ok-asked.ensures.asked there)

-- the lines of the animal at the place, and those of the rest
split : (g : Over) (c : After-write_lines g)
    → pair_lines (book_of c.args.frozen.now) (length c.args.others.now == 0) (names_of c.in_ok-named.named.items) (drop c.loop-place.place (names_of c.in_ok-asked.asked.items))
    ≡ lines_with (book_of c.args.frozen.now) c.index.result.now.number (names_of c.partners_of-partners.result.now)
    ++ pair_lines (book_of c.args.frozen.now) (length c.args.others.now == 0) (names_of c.in_ok-named.named.items) (drop (c.loop-place.place + 1) (names_of c.in_ok-asked.asked.items))
split g c =
    let asked = c.in_ok-asked.asked.items in
    let named = c.in_ok-named.named.items in
    let place = c.loop-place.place in
    let ok = c.in_ok-asked.asked.ok in
    let len = c.len-place-end.ensures in
    let low = c.loop-place-test.true in
    let within : place < length asked = omega (arith, ok, len, low) in
    let there = slice_get-item asked place c.index.result.now within c.index.ensures in
    let are = partners_are (length c.args.others.now == 0) _ named _ asked _ c.partners_of-partners.result.now place
    c.is_empty.ensures c.deref.ensures.value c.deref-in-loop-place.ensures.value c.partners_of-partners.ensures in
    pairs_split (book_of c.args.frozen.now) (length c.args.others.now == 0) named asked place c.index.result.now c.partners_of-partners.result.now there are

pub returns-in_err-write_lines-clause-err : goal.returns-in_err-write_lines-clause-err
returns-in_err-write_lines-clause-err g c =
    if_err c.from_residual-in_err-write_lines.result _ _ c.from_residual-in_err-write_lines.ensures.1
    (ends_report _ _ _ _
    (front_grown (lines_with (book_of c.args.frozen.now) c.index.result.now.number (names_of c.partners_of-partners.result.now)) _
    c.loop-place.invariant (split g (goal.at.returns-in_err-write_lines-clause-err g c).After-write_lines) c.in_err-write_lines.ensures.err))

pub loop-place-preserved : goal.loop-place-preserved
loop-place-preserved g c =
    holds_grown (lines_with (book_of c.args.frozen.now) c.index.result.now.number (names_of c.partners_of-partners.result.now)) _
    c.loop-place.invariant (split g (goal.at.loop-place-preserved g c).After-write_lines) c.in_ok-write_lines.ensures.ok

pub returns-clause-err : goal.returns-clause-err
returns-clause-err g c = ends_front c.finish.result _ _ _ (on_err_weaker c.finish.result (front_waiting c.loop-place.invariant) c.finish.ensures.err)

pub returns-clause-ok : goal.returns-clause-ok
returns-clause-ok g c =
    let asked = c.in_ok-asked.asked.items in
    let past : length (names_of asked) ≤ c.loop-place.place = rw (length-map asked (λ (animal : Asked). animal.number)) (omega arith) in
    let held = rw (drop_all c.loop-place.place (names_of asked) past) at c.loop-place.invariant in
    on_ok_weaker c.finish.result (λ written. appends_waiting (g.W.Write.contents c.finish.new.writer) held written) c.finish.ensures.ok
