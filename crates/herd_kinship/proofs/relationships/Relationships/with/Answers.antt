-- `Relationships::with`: it is an entry, and bounded as an entry is.
use Rattle.std.proofs.Common.{◌*◌, ◌<◌, ◌∙◌, length, Some, subst, sym}
use Rattle.std.proofs.lemmas.Grind.{get_or_default_zero}
use Rattle.herd_lineage.specs.declared.TheConstants.{DEPTH_LIMIT}
use Rattle.herd_kinship.specs.Columns.{RankInLineage}
use Rattle.herd_kinship.specs.Ranks.{ranked}
use Rattle.herd_kinship.proofs.lemmas.ancestry.Table.{entry-bound}
use Rattle.herd_kinship.proofs.relationships.Relationships.with.Goals as goal

pub returns-clause-value : goal.returns-clause-value
returns-clause-value g c =
    let within : c.args.rank < length c.self.inside.lineage.now =
    subst (λ (its : RankInLineage). c.args.rank < length its.rows) (sym c.self.view_is) c.requires in
    let is = c.self.invariant.1 in
    let read =
    get_or_default_zero c.self.inside.column.items c.args.rank c.index.result.now (rw is.each within) in
    rw (← c.self.view_is) (c.index.ensures ∙ read ∙ is.right c.args.rank within)

pub returns-clause-below_two : goal.returns-clause-below_two
returns-clause-below_two g c =
    let its = c.args.self.now in
    rw (returns-clause-value g c) (entry-bound (ranked its.rows) (2 * DEPTH_LIMIT) (Some its.rank) (Some c.args.rank))
