-- `Tracing::start`: that its border fits, and its clause `tracing`.
use Rattle.std.proofs.Common.{arith, sym}
use Rattle.herd_lineage.specs.declared.TheConstants.{DEPTH_LIMIT, MOST_ANIMALS}
use Rattle.herd_kinship.proofs.lemmas.lineages.LineageFacts.{lineage-few}
use Rattle.herd_kinship.proofs.lemmas.lineages.ParentsFacts.{parents-depth}
use Rattle.herd_kinship.proofs.lemmas.tracing.UnderWayFacts.{under_way-start}
use Rattle.herd_kinship.proofs.tracing.Tracing.start.Goals as goal

pub returns-clause-tracing : goal.returns-clause-tracing
returns-clause-tracing g c = record {
  depth = sym (parents-depth c.args.lineage.now c.args.rank c.parents.result c.parents.ensures.parents);
  ancestors =
      under_way-start DEPTH_LIMIT c.args.lineage.now c.args.rank c.args.self.now.shares.items c.args.self.now.pending.chunks.items c.insert.new.self.chunks.items
      c.parents.ensures.lineage c.requires.rank c.requires.idle c.insert.ensures;
}

pub overflow_add-self : goal.overflow_add-self
overflow_add-self g c = let few = lineage-few DEPTH_LIMIT MOST_ANIMALS c.args.lineage.now c.parents.ensures.lineage in let within = c.requires.rank in omega arith
