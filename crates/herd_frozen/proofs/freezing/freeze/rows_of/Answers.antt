-- `rows_of`: what `row` and `push` require and its loop.
use Rattle.std.proofs.Common.{arith, ap, ◌∙◌, ◌+◌}
use Rattle.std.proofs.lemmas.List.{length_push}
use Rattle.herd_frozen.specs.declared.freezing.frozen.Row.{Row}
use Rattle.herd_frozen.specs.freezing.Frozen.{numbers_of}
use Rattle.herd_frozen.specs.freezing.Rows.{row_kept}
use Rattle.herd_frozen.proofs.lemmas.freezing.NextRowFacts.{rows-more}
use Rattle.herd_frozen.proofs.freezing.freeze.rows_of.Goals as goal

pub next_row-kept-requires-clause-rows : goal.next_row-kept-requires-clause-rows
next_row-kept-requires-clause-rows g c = c.loop.invariant.1

pub next_row-kept-requires-clause-more : goal.next_row-kept-requires-clause-more
next_row-kept-requires-clause-more g c =
    let long = c.loop.invariant.0 in
    let more = c.loop-test.true in
    omega (arith, long, more)

pub loop-preserved : goal.loop-preserved
loop-preserved g c =
    let rows = c.loop.rows in
    let row : Row = row_kept (numbers_of rows) c.next_row-kept.result.0 c.next_row-kept.result.1 in
    let made = rows-more (g.S.Registered.book c.args.records.now) c.args.keys.now rows row c.loop.invariant.1 c.next_row-kept.ensures.row in
    rw c.in_ok-push.ensures.ok (length_push rows row ∙ ap (λ n. n + 1) c.loop.invariant.0, made)
