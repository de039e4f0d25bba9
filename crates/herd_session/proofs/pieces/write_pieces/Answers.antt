-- Without memory what waited is written, and then the pieces.
use Rattle.herd_session.proofs.pieces.write_pieces.Goals as goal

pub returns-in-Err-clause-ok : goal.returns-in-Err-clause-ok
returns-in-Err-clause-ok g c = rw c.in-Err.ensures.err at c.write_apart-in-Err.ensures.ok

pub returns-in-Err-clause-err : goal.returns-in-Err-clause-err
returns-in-Err-clause-err g c = rw c.in-Err.ensures.err at c.write_apart-in-Err.ensures.err
