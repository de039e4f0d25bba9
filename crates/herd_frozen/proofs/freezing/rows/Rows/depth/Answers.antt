-- `Rows::depth`: what it requires and its result.
use Rattle.std.proofs.Common.{sym, ap, ◌∙◌, List}
use Rattle.herd_lineage.specs.Lineage.{depth_at as depth_by}
use Rattle.herd_lineage.specs.declared.lineage.Parents.{Parents}
use Rattle.herd_frozen.proofs.lemmas.freezing.NextRowFacts.{depth_at-lineage}
use Rattle.herd_frozen.proofs.lemmas.freezing.RowsFacts.{lineage-told, rank-within}
use Rattle.herd_frozen.proofs.freezing.rows.Rows.depth.Goals as goal

pub depth-requires : goal.depth-requires
depth-requires g c = (rank-within c.self.inside c.self.invariant c.self.view_is c.args.rank c.requires).1

pub returns : goal.returns
returns g c =
    let rs = c.self.inside.records.items in
    let same = lineage-told rs c.self.inside.lineage c.self.invariant c.self.view_is in
    c.depth.ensures ∙ ap (λ (l : List Parents). depth_by l c.args.rank) same ∙ sym (depth_at-lineage _ c.args.rank)
