-- `depth_with`: its clause `depth`.
use Rattle.std.proofs.Common.{◌∙◌, slice_index}
use Rattle.herd_frozen.proofs.lemmas.rules.DepthsFacts.{depth_from-read}
use Rattle.herd_pedigree.proofs.store.depth.depth_with.Goals as goal

pub returns-clause-depth : goal.returns-clause-depth
returns-clause-depth c =
    c.depth_of_calf.ensures.depth ∙ rw (c.depth_of.ensures, c.depth_of-2.ensures) (depth_from-read (slice_index c.args.depths.now) c.args.sire c.args.dam)
