-- Where the line isn't made, nothing is written.
use Rattle.herd_text.proofs.lemmas.Exits.{on_err}
use Rattle.herd_text.proofs.lemmas.TextFacts.{front_nothing}
use Rattle.std.proofs.Common.{length}
use Rattle.herd_seal.specs.Seal.{rows_of, seal_of}
use Rattle.herd_certificate.proofs.PartFacts.{some_seal_line}
use Rattle.herd_certificate.proofs.seal_line.write_seal.Goals as goal

pub returns-in_err-clone-clause-err : goal.returns-in_err-clone-clause-err
returns-in_err-clone-clause-err g c =
    let rows = c.args.frozen.now in
    on_err c.from_residual.result (front_nothing _ _ (some_seal_line (seal_of c.args.steps (rows_of rows)) c.args.steps (length rows)))

pub returns-in_err-seal-clause-err : goal.returns-in_err-seal-clause-err
returns-in_err-seal-clause-err g c =
    let rows = c.args.frozen.now in
    on_err c.from_residual-in_err-seal.result (front_nothing _ _ (some_seal_line (seal_of c.args.steps (rows_of rows)) c.args.steps (length rows)))

pub returns-in_err-push_seal_line-clause-err : goal.returns-in_err-push_seal_line-clause-err
returns-in_err-push_seal_line-clause-err g c =
    let rows = c.args.frozen.now in
    on_err c.from_residual-in_err-push_seal_line.result (front_nothing _ _ (some_seal_line (seal_of c.args.steps (rows_of rows)) c.args.steps (length rows)))
