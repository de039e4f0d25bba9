-- `node_at`: its result.
use Rattle.std.proofs.Common.{sym, ◌∙◌}
use Rattle.std.proofs.lemmas.List.{get_or_default}
use Rattle.herd_pedigree.specs.store.Calves.{alone}
use Rattle.herd_pedigree.proofs.store.progeny.node_at.Goals as goal

pub returns : goal.returns
returns c = c.index-nodes-place.is ∙ sym (get_or_default c.args.nodes.now c.args.place alone c.index-nodes-place.result c.requires)
