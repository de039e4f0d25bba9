use Rattle.herd_lineage.proofs.lemmas.ListFacts.{slice_get-item}
use Rattle.herd_seal.specs.Answer.{checked_line}
use Rattle.herd_seal.proofs.AnswerFacts.{piece_more}
use Rattle.herd_seal.proofs.answer.push_records.Goals as goal

pub loop-row-preserved : goal.loop-row-preserved
loop-row-preserved g c =
    let rows = c.args.rows.now in
    let at = c.loop-row.row-index in
    piece_more checked_line rows at c.row-item.result c.loop-row.text _ _ (slice_get-item rows at c.row-item.result c.loop-row-test.true c.row-item.is) c.loop-row.invariant
    c.in_ok-push_record_line.ensures
