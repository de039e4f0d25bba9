use Rattle.std.proofs.Common.{◌∙◌}
use Rattle.herd_seal.specs.Seal.{rows_of}
use Rattle.herd_seal.proofs.book.seal_book.Goals as goal

pub returns : goal.returns
returns g c = c.seal_of_digests.ensures (rows_of c.args.frozen.now) (c.as_slice.ensures.value ∙ c.in_ok-digests.ensures)
