use Rattle.std.proofs.Common.{length, refl}
use Rattle.herd_seal.proofs.RowFacts.{rows_sealed}
use Rattle.herd_seal.proofs.book.seal_of_digests.Goals as goal

pub returns : goal.returns
returns c = λ rows are.
    rows_sealed rows c.args.digests.now c.args.steps (length c.args.digests.now) c.tree_root.result c.seal_over.result are refl c.tree_root.ensures c.seal_over.ensures.seal
