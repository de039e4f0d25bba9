use Rattle.merkle_tree.specs.Tree.{digests_of}
use Rattle.herd_seal.specs.Seal.{rows_of}
use Rattle.herd_seal.proofs.RowFacts.{digest_at, take_next}
use Rattle.herd_seal.proofs.book.row_digests.Goals as goal

pub loop-place-preserved : goal.loop-place-preserved
loop-place-preserved g c =
    let rows = c.args.frozen.now in
    take_next (digests_of (rows_of rows)) c.loop-place.place c.in_ok-digest.digest c.loop-place.digests.items c.push.new.self.items c.loop-place.invariant
    (digest_at rows c.loop-place.place c.row-row.result c.in_ok-digest.digest c.row-row.ensures.row c.in_ok-digest.ensures.digest) c.in_ok-push.ensures.items
