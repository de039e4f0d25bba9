-- A front of the piece that wasn't written to its end, behind those before it.
use Rattle.herd_text.proofs.lemmas.Exits.{on_err}
use Rattle.herd_session.proofs.PieceFacts.{passed_within}
use Rattle.herd_session.proofs.pieces.write_each.Goals as goal

pub returns-in_err-write_all-clause-err : goal.returns-in_err-write_all-clause-err
returns-in_err-write_all-clause-err g c =
    on_err c.from_residual.result
    (passed_within _ _ _ c.args.pieces.now c.loop-piece.piece-index _ c.loop-piece-test.true c.loop-piece.invariant c.in_err-write_all.ensures.err)
