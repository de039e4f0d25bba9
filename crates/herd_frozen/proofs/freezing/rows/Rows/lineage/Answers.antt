-- `Rows::lineage`: its clause `value`.
use Rattle.herd_frozen.proofs.lemmas.freezing.RowsFacts.{lineage-told}
use Rattle.herd_frozen.proofs.freezing.rows.Rows.lineage.Goals as goal

pub returns-clause-value : goal.returns-clause-value
returns-clause-value g c = lineage-told c.self.inside.records.items c.self.inside.lineage c.self.invariant c.self.view_is
