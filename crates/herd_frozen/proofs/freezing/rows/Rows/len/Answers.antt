-- `Rows::len`: its result.
use Rattle.std.proofs.Common.{sym, ap, ◌∙◌, List, length}
use Rattle.herd_frozen.specs.declared.freezing.frozen.Row.{Row}
use Rattle.herd_frozen.proofs.lemmas.freezing.RowsFacts.{length-rows}
use Rattle.herd_frozen.proofs.freezing.rows.Rows.len.Goals as goal

pub returns : goal.returns
returns g c =
    c.len.ensures ∙ c.self.inside.records.ok.0 ∙ sym (length-rows c.self.inside.records.items c.self.inside.lineage c.self.invariant) ∙ ap (λ (rows : List Row). length rows) c.self.view_is
